-- `renames::slot::entry_sought` meets its contract. The loop's invariant: the search among `count` entries from `first` on ends where
-- the whole search does.
use Prim.Native.Nat.{◌+◌, ◌/◌, ◌≤◌}
use mathlib.Core.Path.{◌≡◌}
use lib.ListN.{length}
use Rattle.renames.specs.Finding.{sought_from, entry_sought}
use Rattle.renames.proofs.slot.entry_sought.Given as goal

abbrev pub invariant-loop-count : goal.invariant-loop-count
invariant-loop-count l =
    (l.first + l.count ≤ length l.entries / 4) × (sought_from l.count l.count l.first l.file l.entries ≡ entry_sought (length l.entries / 4) l.file l.entries)

abbrev pub decreases-loop-count : goal.decreases-loop-count
decreases-loop-count l = l.count
