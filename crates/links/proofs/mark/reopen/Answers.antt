-- `links::mark::reopen` meets its contract. Its loop keeps: the marks before it have their leads untraversed, the others are
-- as at the start.
use Prim.Native.Nat.{ℕ, ◌+◌, ◌*◌, ◌/◌}
use mathlib.Core.Path.{ap}
use native.Mathlib.Omega.{arith}
use lib.ListN.{get_or}
use Rattle.links.proofs.Packed.{reopened, map_written}
use Rattle.links.proofs.mark.reopen.Goals as goal

pub loop-mark-preserved : goal.loop-mark-preserved
loop-mark-preserved c =
    let l = c.loop-mark in
    map_written reopened c.args.marks.now l.mark-index l.marks _ (omega arith) l.invariant (ap (λ (m : ℕ). get_or l.marks l.mark-index 0 / 8 * 8 + m) c.untraversed_lead.ensures)
