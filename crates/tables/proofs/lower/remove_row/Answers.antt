-- `tables::lower::remove_row` meets its contract. The loop's invariant: m is the number of rows to write, of which i are
-- written, and the rest is untouched.
use mathlib.Core.Path.{refl, ap, ◌∙◌}
use Prim.Native.Nat.{ℕ}
use native.Mathlib.Omega.{arith}
use lib.Seq.{sets}
use Rattle.tables.specs.declared.rows.Row.{Row}
use Rattle.tables.specs.Rows.{put_row, filled, skip, row_moved}
use Rattle.tables.proofs.Words.{row-above}
use Rattle.tables.proofs.Filled.{writing-turn, writing-end}
use Rattle.tables.proofs.lower.remove_row.Goals as goal
use Rattle.tables.proofs.lower.remove_row.Invariants.{new}

pub loop-i-preserved : goal.loop-i-preserved
loop-i-preserved c =
    let a = c.args in
    let l = c.loop-i in
    let g = new a.rows.now a.gone.row a.gone.total a.gone.name a.gone.link in
    let move : Row → Row = row_moved a.gone.row a.gone.total a.gone.name a.gone.link l.i in
    let same = row-above l.rows a.rows.now l.i l.invariant.1.2 (skip a.gone.row l.i) (omega arith) in
    let put = c.move_row.ensures ∙ ap (λ (r : Row). put_row l.rows l.i (move r)) same in
    (l.invariant.0, writing-turn 8 g c.min-m.result a.rows.now l.rows l.i refl l.invariant.1 (omega arith) put)

pub returns : goal.returns
returns c =
    let a = c.args in
    let l = c.loop-i in
    let g = new a.rows.now a.gone.row a.gone.total a.gone.name a.gone.link in
    writing-end 8 g c.min-m.result a.rows.now l.rows l.i l.invariant.1 (omega arith)
    ∙ ap (λ (m : ℕ). sets a.rows.now 0 (filled g 0 m)) l.invariant.0
