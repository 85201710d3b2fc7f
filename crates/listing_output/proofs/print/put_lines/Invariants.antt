-- The lines before i end at `at`, and writing those from i on there makes what writing all of them makes.
use Rattle.std.proofs.Common.{◌≡◌, ◌+◌, length}
use Rattle.std.proofs.lemmas.List.Edits.{sets}
use Rattle.listing_output.specs.private.Lent.{lines_in}
use Rattle.listing_output.proofs.Printed.{lines_from}
use Rattle.listing_output.proofs.print.put_lines.Given as goal

abbrev pub invariant-loop-i : goal.invariant-loop-i
invariant-loop-i l = (l.at + length (lines_from l.set.fs l.set.lent.rows.now l.set.lent.dirs.now l.set.lent.text.now l.i) ≡ length (lines_in l.set)) × (length l.out ≡ length l.initial.out) × (sets l.out l.at (lines_from l.set.fs l.set.lent.rows.now l.set.lent.dirs.now l.set.lent.text.now l.i) ≡ sets l.initial.out 0 (lines_in l.set))
