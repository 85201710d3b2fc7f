-- `renames::check::are_placed` meets its contract. The loop's invariant: the check of the entries from i on, the first of which is to
-- begin at `at`, says what the whole check says; their texts fit behind that.
use Prim.Native.Nat.{◌+◌, ◌-◌, ◌/◌}
use mathlib.Core.Path.{◌≡◌}
use lib.ListN.{length}
use Rattle.renames.specs.Renames.{placed_from}
use Rattle.renames.specs.private.Slots.{bytes_from}
use Rattle.renames.proofs.check.are_placed.Given as goal

abbrev pub invariant-loop-entry : goal.invariant-loop-entry
invariant-loop-entry l =
    let i = length l.yielded in
    let n = length l.entries / 4 in
    record {
      placed : placed_from (n - i) i l.at l.entries ≡ placed_from n 0 0 l.entries;
      fits : l.at + bytes_from (n - i) i l.entries ≡ bytes_from n 0 l.entries;
    }
