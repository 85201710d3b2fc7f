-- `hashes::hashes::Listed::has_room` meets its contract. The loop's invariant: the hashes below `from` are counted, and `left` places are left.
use Rattle.hashes.specs.private.Due.{due}
use Rattle.hashes.proofs.Filling.{Passed}
use lib.ListN.{length}
use mathlib.Core.Path.{◌≡◌}
use Prim.Native.Nat.{ℕ, ◌+◌, ◌-◌}
use Rattle.hashes.proofs.hashes.Listed.has_room.Given as goal

abbrev pub invariant-loop-from : goal.invariant-loop-from
invariant-loop-from l = (length l.batch ≡ length l.fn.batch) × (n : ℕ) × (l.room ≡ l.left + n) × Passed (due l.self) l.from n

abbrev pub decreases-loop-from : goal.decreases-loop-from
decreases-loop-from l = 4294967296 - l.from
