-- The same as Output.antt by rows: a line of four columns, a file's line by its row in the tables, and the lines of all
-- files. It relies on the columns of `lists`, the joins of `path`, the rows of `tables`, Output.antt and Printing.antt.
use Rattle.std.specs.Prelude.{ℕ, ◌-◌, ◌%◌, cond, List, [], ◌∷◌, ◌++◌, leb, Option, Some, None}
use Rattle.lists.specs.Decimal.{column}
use Rattle.path.specs.Join.{appended}
use Rattle.tables.specs.declared.rows.Row.{Row}
use Rattle.tables.specs.declared.storage.FileStorage.{FileStorage}
use Rattle.tables.specs.Span.{text_at}
use Rattle.tables.specs.Rows.{directory_span}
use Rattle.listing_output.specs.Output.{file_lines}
use Rattle.listing_output.specs.Printing.{shown}

-- numbers, each in a column of its width, and a byte after them
abbrev pub columns_then : ℕ → List (ℕ × ℕ) → List ℕ
columns_then last [] = last ∷ []
columns_then last (c ∷ cs) = column c.0 c.1 ++ columns_then last cs

-- numbers in columns of 5, 15, 15 and `width`, and a byte after them
abbrev pub four_columns : ℕ → ℕ → ℕ → ℕ → ℕ → ℕ → List ℕ
four_columns a b c width d last = columns_then last ((5, a) ∷ (15, b) ∷ (15, c) ∷ (width, d) ∷ [])

-- the text of a row's directory, empty where the row has none
abbrev pub row_directory : List ℕ → List ℕ → Row → List ℕ
row_directory dirs text r = text_at text (directory_span dirs r)

-- the internal path of a row's file
abbrev pub row_path : List ℕ → List ℕ → Row → List ℕ
row_path dirs text r = appended (row_directory dirs text r) (text_at text r.name)

-- the line of file i, by its row r
abbrev pub row_line : List ℕ → List ℕ → ℕ → Row → List ℕ
row_line dirs text i r = four_columns i r.offset r.size 2 (r.flags % 2) 32 ++ (row_path dirs text r ++ (10 ∷ []))

-- the lines of a set's files
abbrev pub lines_of : FileStorage → List ℕ → List ℕ → List ℕ → List ℕ
lines_of fs rows dirs text = file_lines 0 (shown fs rows dirs text).files

-- what is left of `room` bytes once `needed` are taken, if they are there
abbrev pub left_in : ℕ → ℕ → Option ℕ
left_in needed room = cond (leb needed room) (Some (room - needed)) None
