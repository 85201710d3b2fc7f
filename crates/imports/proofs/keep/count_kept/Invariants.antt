-- `imports::keep::count_kept` meets its contract. The loop's invariant: what is counted and what the entries from i on count give
-- the whole.
use Prim.Native.Nat.{◌+◌, ◌-◌, ◌/◌}
use mathlib.Core.Path.{◌≡◌}
use lib.ListN.{length}
use Rattle.imports.specs.private.Importing.{kept_count, kept_bytes}
use Rattle.imports.specs.private.Merging.{is_noted}
use Rattle.imports.proofs.keep.count_kept.Given as goal

abbrev pub invariant-loop-entry : goal.invariant-loop-entry
invariant-loop-entry l =
    let i = length l.yielded in
    record {
      counted : l.count + kept_count (is_noted l.notes) (length l.entries / 4 - i) i l.entries
          ≡ kept_count (is_noted l.notes) (length l.entries / 4) 0 l.entries;
      summed : l.bytes + kept_bytes (is_noted l.notes) (length l.entries / 4 - i) i l.entries
          ≡ kept_bytes (is_noted l.notes) (length l.entries / 4) 0 l.entries;
    }
