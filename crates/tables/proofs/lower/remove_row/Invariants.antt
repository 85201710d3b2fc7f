-- `tables::lower::remove_row` meets its contract. The loop's invariant: m is the number of rows to write, of which i are
-- written, and the rest is untouched.
use mathlib.Core.Path.{◌≡◌}
use mathlib.Core.List.{List}
use Prim.Native.Nat.{ℕ, ◌/◌, min}
use lib.ListN.{length}
use Rattle.tables.specs.declared.span.Span.{Span}
use Rattle.tables.specs.Rows.{row_at, words, skip, row_moved}
use Rattle.tables.proofs.Filled.{Writing}
use Rattle.tables.proofs.lower.remove_row.Given as goal

abbrev pub new : List ℕ → ℕ → ℕ → Span → Span → ℕ → List ℕ
new rows f total c d k = words (row_moved f total c d k (row_at rows (skip f k)))

abbrev pub invariant-loop-i : goal.invariant-loop-i
invariant-loop-i l = (l.m ≡ min l.n (length l.initial.rows / 8)) × Writing 8 (new l.initial.rows l.gone.row l.gone.total l.gone.name l.gone.link) l.m l.initial.rows l.rows l.i
