-- `imports::listed::do_fit` meets its contract.
use mathlib.Core.Path.{◌∙◌}
use Rattle.std.proofs.Common.{rules}
use Rattle.std.proofs.lemmas.Iterator.{YieldsList-from_slice}
use Rattle.std.proofs.lemmas.Iterator.Consumers.{YieldsList-at, YieldsList-from_copied}
use Rattle.lists.proofs.Takings.{all-taken}
use Rattle.imports.proofs.listed.do_fit.Goals as goal

pub returns : goal.returns
returns c =
    c.is_some.ensures
    ∙ all-taken _ _ _ (λ a x w q k. search rules) _ c.try_fold.result c.copied.result c.try_fold.new.self _ c.args.room
    (YieldsList-from_copied (YieldsList-at c.copied.ensures.source (YieldsList-from_slice c.args.lengths.now cc)))
    c.try_fold.ensures.ran
