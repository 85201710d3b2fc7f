-- The bytes that were read fit the buffer, and each turn reads some: what is left of the buffer is the measure.
use Rattle.std.proofs.Common.{◌-◌, ◌≤◌, length}
use Rattle.setlist.proofs.read_full.Given as goal

abbrev pub invariant-loop-done : goal.invariant-loop-done
invariant-loop-done l = l.done ≤ length l.buffer

abbrev pub decreases-loop-done : goal.decreases-loop-done
decreases-loop-done l = length l.buffer - l.done
