-- `tables::lower::lower_dirs` meets its contract. The loop's invariant: m is the number of rows to lower, of which i are
-- written, and the rest is untouched.
use mathlib.Core.Path.{◌≡◌}
use mathlib.Core.List.{List}
use Prim.Native.Nat.{ℕ, ◌/◌, min}
use lib.ListN.{length}
use Rattle.tables.specs.declared.span.Span.{Span}
use Rattle.tables.specs.Span.{low}
use Rattle.tables.specs.Rows.{dir_at, dir_words}
use Rattle.tables.proofs.Filled.{Writing}
use Rattle.tables.proofs.lower.lower_dirs.Given as goal

abbrev pub new : List ℕ → Span → ℕ → List ℕ
new dirs c k = dir_words (low c (dir_at dirs k))

abbrev pub invariant-loop-i : goal.invariant-loop-i
invariant-loop-i l = (l.m ≡ min l.n (length l.initial.dirs / 2)) × Writing 2 (new l.initial.dirs l.c) l.m l.initial.dirs l.dirs l.i
