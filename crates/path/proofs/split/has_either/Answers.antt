-- `path::split::has_either` meets its contract: the chain asks each byte.
use mathlib.Core.Path.{◌∙◌}
use Rattle.std.proofs.Common.{rules}
use Rattle.std.proofs.lemmas.Iterator.{YieldsList-from_slice}
use Rattle.std.proofs.lemmas.Iterator.Search.{any_from_yields_List}
use Rattle.lists.proofs.Tests.{list-any}
use Rattle.path.specs.Split.{is_either}
use Rattle.path.proofs.split.has_either.Goals as goal

pub returns : goal.returns
returns c =
    any_from_yields_List is_either _ _ _ c.any.ensures.ran (YieldsList-from_slice c.args.path.now cc) (λ x b q k. search rules)
    ∙ list-any is_either c.args.path.now
