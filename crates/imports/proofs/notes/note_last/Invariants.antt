-- `imports::notes::note_last` meets its contract. The loop's invariant: the numbers from i on, written down too, give the whole.
use mathlib.Core.Path.{◌≡◌}
use lib.ListN.{drop}
use Rattle.imports.specs.private.Merging.{noted_from}
use Rattle.imports.proofs.notes.note_last.Given as goal

abbrev pub invariant-loop-i : goal.invariant-loop-i
invariant-loop-i l = noted_from l.i (drop l.i l.numbers) l.notes ≡ noted_from 0 l.numbers l.initial.notes
