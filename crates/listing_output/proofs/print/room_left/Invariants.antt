-- What is left and all lines are as long as the room and the lines from i on.
use Rattle.std.proofs.Common.{◌≡◌, ◌+◌, length}
use Rattle.listing_output.specs.private.Lent.{lines_in}
use Rattle.listing_output.proofs.Printed.{lines_from}
use Rattle.listing_output.proofs.print.room_left.Given as goal

abbrev pub invariant-loop-i : goal.invariant-loop-i
invariant-loop-i l = l.left + length (lines_in l.set) ≡ l.room + length (lines_from l.set.fs l.set.lent.rows.now l.set.lent.dirs.now l.set.lent.text.now l.i)
