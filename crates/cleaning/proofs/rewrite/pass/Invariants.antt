-- `cleaning::rewrite::pass` meets its contract. The loop's invariant: the pass is going on at file i, and the scratch space is as
-- long as it was.
use mathlib.Core.Path.{◌≡◌}
use denote.Param.{number}
use lib.ListN.{length}
use Rattle.tables.specs.Lending.{held, SameTables}
use Rattle.cleaning.specs.private.Writing.{step_at}
use Rattle.cleaning.proofs.Passes.{Going}
use Rattle.cleaning.specs.contracts.rewrite.pass.{EMPTIES-type}
use Rattle.cleaning.proofs.rewrite.pass.Given as goal

abbrev pub invariant-loop-i : goal.invariant-loop-i
invariant-loop-i g l =
    let empties = EMPTIES-type (number g.row.EMPTIES) in
    (length l.scratch ≡ length l.initial.scratch) × SameTables l.initial.set l.set
    × Going (step_at empties (length l.initial.scratch)) l.marks l.initial.set.fs.num_files (held l.initial.set) (held l.set) l.i l.marks_left.rest.now
