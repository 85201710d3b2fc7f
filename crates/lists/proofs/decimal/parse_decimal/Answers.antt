-- `lists::decimal::parse_decimal` meets its contract: the slice's iterator gives its digits.
use mathlib.Core.Path.{◌∙◌}
use Rattle.std.proofs.Common.{rules}
use Rattle.std.proofs.lemmas.Iterator.{YieldsList-from_slice}
use Rattle.lists.proofs.Spelt.{all_spelt}
use Rattle.lists.proofs.decimal.parse_decimal.Goals as goal

pub returns : goal.returns
returns c =
    all_spelt _ (λ y. y.now) _ _ (λ a x w q k. search rules) _ c.try_fold.result c.iter.result c.try_fold.new.self c.args.digits.now 0
    (YieldsList-from_slice c.args.digits.now c.iter.ensures.rest) c.try_fold.ensures.ran
    ∙ search rules
