-- `imports::listed::has_negative` meets its contract.
use mathlib.Core.Path.{◌≡◌, refl, ◌∙◌}
use mathlib.Core.List.{List, [], ◌∷◌}
use lib.IntN.{ℤ, pos, negsuc}
use borrow.Author.Rules.{rules}
use borrow.Author.Tests.{tests}
use Rattle.std.specs.List.{list_any}
use Rattle.std.proofs.lemmas.Iterator.{YieldsList-from_slice}
use Rattle.std.proofs.lemmas.Iterator.Search.{any_from_yields_List}
use Rattle.lists.specs.Lists.{any}
use Rattle.rules.specs.Bounds.{is_negative}
use Rattle.imports.proofs.listed.has_negative.Goals as goal

any-is : (xs : List ℤ) → list_any is_negative xs ≡ any is_negative xs
any-is [] = refl
any-is (pos n ∷ xs) = any-is xs
any-is (negsuc n ∷ xs) = refl

pub returns : goal.returns
returns c = any_from_yields_List is_negative _ _ _ c.any.ensures.ran (YieldsList-from_slice c.args.numbers.now cc) (λ x b q k. search (rules, tests)) ∙ any-is c.args.numbers.now
