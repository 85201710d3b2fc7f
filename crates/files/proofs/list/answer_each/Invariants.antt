-- `files::list::answer_each` meets its contract. The loop's invariant: the questions that the columns gave are answered,
-- their answers stand in the first places, and the rest of the table is untouched.
use Rattle.std.proofs.Common.{length}
use Rattle.files.specs.List.{answer_at}
use Rattle.tables.proofs.Filled.{Writing}
use Rattle.files.proofs.list.answer_each.Given as goal

abbrev pub invariant-loop-i : goal.invariant-loop-i
invariant-loop-i g l = Writing 4 (answer_at l.fs l.rows l.files l.offsets l.sizes) (length l.files) l.initial.answers l.answers (length l.yielded)
