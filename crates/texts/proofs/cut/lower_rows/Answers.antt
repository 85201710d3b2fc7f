-- `texts::cut::lower_rows` meets its contract. The loop's invariant: m is the number of rows to lower, of which i are
-- written, and the rest is untouched.
use mathlib.Core.Path.{refl, ap, ◌∙◌}
use Prim.Native.Nat.{ℕ}
use native.Mathlib.Omega.{arith}
use lib.Seq.{sets}
use Rattle.tables.specs.declared.rows.Row.{Row}
use Rattle.tables.specs.Rows.{put_row, filled}
use Rattle.tables.proofs.Words.{row-above}
use Rattle.tables.proofs.Filled.{writing-turn, writing-end}
use Rattle.texts.specs.Texts.{row_lowered}
use Rattle.texts.proofs.cut.lower_rows.Goals as goal
use Rattle.texts.proofs.cut.lower_rows.Invariants.{new}

pub loop-i-preserved : goal.loop-i-preserved
loop-i-preserved c =
    let a = c.args in
    let l = c.loop-i in
    let same = row-above l.rows a.rows.now l.i l.invariant.1.2 l.i (omega arith) in
    let put = c.lower_row.ensures ∙ ap (λ (r : Row). put_row l.rows l.i (row_lowered a.c r)) same in
    let turn = c.loop-i-test.true in
    (l.invariant.0, writing-turn 8 (new a.rows.now a.c) c.min-m.result a.rows.now l.rows l.i refl l.invariant.1 turn put)

pub returns : goal.returns
returns c =
    let a = c.args in
    let l = c.loop-i in
    let g = new a.rows.now a.c in
    writing-end 8 g c.min-m.result a.rows.now l.rows l.i l.invariant.1 c.loop-i-test.false
    ∙ ap (λ (m : ℕ). sets a.rows.now 0 (filled g 0 m)) l.invariant.0
