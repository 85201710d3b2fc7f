-- `lookup::set::is_directory` meets its contract: the chain asks each directory.
use mathlib.Core.Path.{refl, ◌∙◌}
use mathlib.Core.List.{[]}
use native.Mathlib.Nat.{sub-zero}
use Rattle.std.proofs.Common.{rules}
use Rattle.std.proofs.lemmas.Iterator.{YieldsList-from_range}
use Rattle.std.proofs.lemmas.Iterator.Search.{any_from_yields_List}
use Rattle.tables.specs.Model.{directory_text}
use Rattle.lookup.specs.Lookup.{covers, lent}
use Rattle.lookup.proofs.Rows.{any-directory}
use Rattle.lookup.proofs.set.is_directory.Goals as goal

pub returns : goal.returns
returns c =
    any_from_yields_List (λ k. covers (directory_text (lent c.args.fs [] c.args.dirs.now c.args.text.now) k) c.args.p.now) _ _ _ c.any.ensures.ran (YieldsList-from_range 0 c.args.fs.num_paths c.args.fs.num_paths refl (sub-zero c.args.fs.num_paths)) (λ x b q k. search rules)
    ∙ any-directory (lent c.args.fs [] c.args.dirs.now c.args.text.now) c.args.p.now
