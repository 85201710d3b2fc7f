-- The paths and lines of Lines.antt, of the tables as the private functions pass them on whole.
use Rattle.std.specs.Prelude.{ℕ, List}
use Rattle.tables.specs.declared.lent.Lent.{Lent}
use Rattle.tables.specs.declared.lent.LentSet.{LentSet}
use Rattle.tables.specs.Rows.{row_at}
use Rattle.listing_output.specs.private.Lines.{row_path, row_line, lines_of}

-- the internal path of file i, and its line
abbrev pub path_in : Lent → ℕ → List ℕ
path_in t i = row_path t.dirs.now t.text.now (row_at t.rows.now i)

abbrev pub line_in : Lent → ℕ → List ℕ
line_in t i = row_line t.dirs.now t.text.now i (row_at t.rows.now i)

-- the lines of a set's files
abbrev pub lines_in : LentSet → List ℕ
lines_in s = lines_of s.fs s.lent.rows.now s.lent.dirs.now s.lent.text.now
