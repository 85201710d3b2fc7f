-- `hashes::hashes::Listed::fill` meets its contract. The loop's invariant: the hashes below `from` stand in `out`.
use Rattle.hashes.specs.Hashes.{ascending}
use Rattle.hashes.specs.private.Gathering.{within}
use Rattle.hashes.specs.private.Due.{due}
use Rattle.hashes.proofs.Filling.{Passed}
use lib.ListN.{length}
use lib.Seq.{sets}
use mathlib.Core.Path.{◌≡◌}
use Prim.Native.Nat.{◌-◌}
use Rattle.hashes.proofs.hashes.Listed.fill.Given as goal

abbrev pub invariant-loop-from : goal.invariant-loop-from
invariant-loop-from l =
    (length l.batch ≡ length l.fn.batch) × Passed (due l.self) l.from l.at × (l.out ≡ sets l.fn.out 0 (ascending (within 0 l.from (due l.self))))

abbrev pub decreases-loop-from : goal.decreases-loop-from
decreases-loop-from l = 4294967296 - l.from
