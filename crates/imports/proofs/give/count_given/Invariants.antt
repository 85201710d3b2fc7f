-- `imports::give::count_given` meets its contract. The loop's invariant: what is counted and what the other names count give
-- the whole; no more is counted than came.
use lib.ListN.{length}
use Rattle.imports.proofs.Counting.{Counted}
use Rattle.imports.proofs.give.count_given.Given as goal

abbrev pub invariant-loop-i : goal.invariant-loop-i
invariant-loop-i l = Counted (length l.notes) l.list.numbers.now l.list.lengths.now l.list.names.now (length l.yielded) l.at l.count l.bytes
