-- `texts::cut::lower_rows` meets its contract. The loop's invariant: m is the number of rows to lower, of which i are
-- written, and the rest is untouched.
use mathlib.Core.Path.{◌≡◌}
use mathlib.Core.List.{List}
use Prim.Native.Nat.{ℕ, ◌/◌, min}
use lib.ListN.{length}
use Rattle.tables.specs.declared.span.Span.{Span}
use Rattle.tables.specs.Rows.{row_at, words}
use Rattle.tables.proofs.Filled.{Writing}
use Rattle.texts.specs.Texts.{row_lowered}
use Rattle.texts.proofs.cut.lower_rows.Given as goal

abbrev pub new : List ℕ → Span → ℕ → List ℕ
new rows c k = words (row_lowered c (row_at rows k))

abbrev pub invariant-loop-i : goal.invariant-loop-i
invariant-loop-i l = (l.m ≡ min l.n (length l.initial.rows / 8)) × Writing 8 (new l.initial.rows l.c) l.m l.initial.rows l.rows l.i
