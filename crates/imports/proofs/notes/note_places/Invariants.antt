-- `imports::notes::note_places` meets its contract. The loop's invariant: the names of the numbers that came end at `at`,
-- and the other numbers, written down too, give the whole.
use mathlib.Core.Path.{◌≡◌}
use lib.ListN.{length, take, drop}
use Rattle.lists.specs.Lists.{sum}
use Rattle.imports.specs.private.Merging.{placed_from}
use Rattle.imports.proofs.notes.note_places.Given as goal

abbrev pub invariant-loop-number : goal.invariant-loop-number
invariant-loop-number l = record {
  ends : l.at ≡ sum (take (length l.yielded) l.lengths);
  places : placed_from l.at (drop (length l.yielded) l.numbers) (drop (length l.yielded) l.lengths) l.places ≡ placed_from 0 l.numbers l.lengths l.initial.places;
}
