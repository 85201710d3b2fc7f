-- `hashes::hashes::Listed::gather` meets its contract. The loop's invariant: the batch holds the hashes of the directories before the next row.
use Rattle.hashes.specs.private.Gathering.{Holds, hashes_after}
use Rattle.hashes.specs.private.Due.{listed_dirs, due}
use Rattle.hashes.specs.Hashes.{joined_lists}
use lib.ListN.{length, drop}
use mathlib.Core.List.{List, ◌++◌, map}
use mathlib.Core.Path.{◌≡◌}
use Prim.Native.Nat.{ℕ, ◌<◌}
use Rattle.hashes.proofs.hashes.Listed.gather.Given as goal

abbrev pub invariant-loop-row : goal.invariant-loop-row
invariant-loop-row l =
    (done : List ℕ) × (done ++ joined_lists (drop l.row-index (map (hashes_after l.self.state) (listed_dirs l.self))) ≡ due l.self)
    × (length l.batch ≡ length l.initial.batch) × (l.collected.count < length l.batch) × (l.collected.from ≡ l.from) × Holds done l.collected l.batch
