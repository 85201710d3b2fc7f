-- `tables::lower::lower_dirs` meets its contract. The loop's invariant: m is the number of rows to lower, of which i are
-- written, and the rest is untouched.
use mathlib.Core.Path.{refl, ap, ◌∙◌}
use Prim.Native.Nat.{ℕ}
use native.Mathlib.Omega.{arith}
use lib.Seq.{sets}
use Rattle.tables.specs.declared.span.Span.{Span}
use Rattle.tables.specs.Span.{low}
use Rattle.tables.specs.Rows.{put_dir, filled}
use Rattle.tables.proofs.Words.{dir-above}
use Rattle.tables.proofs.Filled.{writing-turn, writing-end}
use Rattle.tables.proofs.lower.lower_dirs.Goals as goal
use Rattle.tables.proofs.lower.lower_dirs.Invariants.{new}

pub loop-i-preserved : goal.loop-i-preserved
loop-i-preserved c =
    let a = c.args in
    let d = a.dirs.now in
    let l = c.loop-i in
    let same = dir-above l.dirs d l.i l.invariant.1.2 l.i (omega arith) in
    let put = c.lower_dir.ensures ∙ ap (λ (s : Span). put_dir l.dirs l.i (low a.c s)) same in
    (l.invariant.0, writing-turn 2 (new d a.c) c.min-m.result d l.dirs l.i refl l.invariant.1 (omega arith) put)

pub returns : goal.returns
returns c =
    let a = c.args in
    let d = a.dirs.now in
    let l = c.loop-i in
    let g = new d a.c in
    writing-end 2 g c.min-m.result d l.dirs l.i l.invariant.1 (omega arith)
    ∙ ap (λ (m : ℕ). sets d 0 (filled g 0 m)) l.invariant.0
