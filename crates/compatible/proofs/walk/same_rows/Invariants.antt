-- What is left of both rows is the same where the rows are. A turn takes a piece off one of them.
use Rattle.std.proofs.Common.{◌≡◌, ◌+◌, ◌++◌, length}
use Rattle.lists.specs.Lists.{equal}
use Rattle.compatible.specs.private.Walk.{bytes_of}
use Rattle.compatible.proofs.walk.same_rows.Given as goal

abbrev pub invariant-loop-p : goal.invariant-loop-p
invariant-loop-p l = equal (l.p ++ bytes_of l.a) (l.q ++ bytes_of l.b) ≡ equal (l.fn.p ++ bytes_of l.fn.a) (l.fn.q ++ bytes_of l.fn.b)

abbrev pub decreases-loop-p : goal.decreases-loop-p
decreases-loop-p l = length l.a + length l.b
