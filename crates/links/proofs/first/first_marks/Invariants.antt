-- `links::first::first_marks` meets its contract. Its loop keeps: the marks of the links that are passed are set, and
-- setting those of the files that are left gives the whole.
use lib.Seq.{sets}
use Rattle.links.specs.private.Walking.{first_marks_in, set_of}
use Rattle.links.proofs.Marking.{SetsLeft}
use Rattle.links.proofs.Passing.{Left}
use Rattle.links.proofs.first.first_marks.Given as goal

abbrev pub invariant-loop-k : goal.invariant-loop-k
invariant-loop-k l = Left (set_of l.the_set) l.k-iterator (SetsLeft (set_of l.the_set) (sets l.initial.marks 0 (first_marks_in (set_of l.the_set))) l.marks)
