-- `compatible::walk::are_empty` meets its contract: each piece is asked.
use Rattle.std.specs.Borrow.{Bor}
use Rattle.std.proofs.Common.{ℕ, List, rules, ◌∙◌}
use Rattle.std.proofs.lemmas.Iterator.{YieldsList-from_slice}
use Rattle.std.proofs.lemmas.Iterator.Search.{all_from_yields_List}
use Rattle.path.specs.Join.{is_empty}
use Rattle.compatible.proofs.Runs.{all-empty}
use Rattle.compatible.proofs.walk.are_empty.Goals as goal

pub returns : goal.returns
returns c =
    all_from_yields_List (λ (r : Bor (List ℕ)). is_empty r.now) _ _ _ c.all.ensures.ran (YieldsList-from_slice c.args.row.now c.iter.ensures.rest) (λ x r q k. search rules)
    ∙ all-empty c.args.row.now
