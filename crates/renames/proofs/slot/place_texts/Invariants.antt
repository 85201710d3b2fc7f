-- `renames::slot::place_texts` meets its contract. The loop's invariant: placing the texts of the entries from i on, the first at byte
-- `begin`, gives what placing all gives; they fit behind that.
use Prim.Native.Nat.{◌+◌, ◌-◌, ◌<◌}
use mathlib.Core.Path.{◌≡◌}
use lib.ListN.{length}
use Rattle.renames.specs.private.Slots.{bytes_from, with_places}
use Rattle.renames.proofs.slot.place_texts.Given as goal

abbrev pub invariant-loop-i : goal.invariant-loop-i
invariant-loop-i l =
    (length l.entries ≡ length l.initial.entries)
    × (l.begin + bytes_from (l.end - l.i) l.i l.entries < 18446744073709551616)
    × (with_places (l.end - l.i) l.i l.begin l.entries ≡ with_places (l.end - l.first) l.first l.at l.initial.entries)
