-- `hashes::hashes::keep_dir` meets its contract. The loop's invariant: x is the hash of what stands before the parts that are still to come,
-- and the hashes at the ends of those before them are collected.
use Rattle.std.specs.Iterator.{AlwaysYields}
use Rattle.hashes.proofs.Hashing.{hashes_on}
use Rattle.hashes.specs.private.Gathering.{Adds, hashes_after}
use lib.ListN.{length}
use mathlib.Core.List.{List, ◌++◌}
use mathlib.Core.Path.{◌≡◌}
use Prim.Native.Nat.{ℕ, ◌<◌}
use Rattle.hashes.proofs.hashes.keep_dir.Given as goal

abbrev pub invariant-loop-part : goal.invariant-loop-part
invariant-loop-part l =
    (left : List (List ℕ)) × AlwaysYields (goal.iterator-loop-part).next_gives (λ p. p.now) l.part-iterator left
    × (done : List ℕ) × (done ++ hashes_on l.x left ≡ hashes_after l.state l.d) × (length l.batch ≡ length l.fn.batch)
    × (l.more.count < length l.batch) × Adds done l.fn.collected l.fn.batch l.more l.batch
