-- Document 01, 'The listing': what is printed of a set, or of a refusal and its line. It relies on the columns of
-- `lists` and the model of `tables`.
use Rattle.std.specs.Prelude.{ℕ, ◌+◌, ◌%◌, List, [], ◌∷◌, ◌++◌, length}
use Rattle.lists.specs.Lists.{ceiling}
use Rattle.lists.specs.Decimal.{column}
use Rattle.tables.specs.Model.{File, Model, path_in}

-- how a run ends: with a set, or with a refusal's number and the line that it carries
pub data Run : Type 0 where
  listed : Model → Run
  stopped : ℕ → ℕ → Run

abbrev pub pieces : Model → ℕ
pieces m = ceiling m.total m.piece_length

abbrev pub internal_path : File → List ℕ
internal_path f = path_in f.directory f.name

-- 'per file: number (5), offset (15), size (15), pad 0 or 1 (2), blank, internal path'
abbrev pub file_line : ℕ → File → List ℕ
file_line i f =
    column 5 i ++
    (column 15 f.offset ++
    (column 15 f.size ++ (column 2 (f.flags % 2) ++ (32 ∷ (internal_path f ++ (10 ∷ []))))))

-- the lines of files that are numbered from i
unfoldable pub file_lines : ℕ → List File → List ℕ
file_lines i [] = []
file_lines i (f ∷ fs) = file_line i f ++ file_lines (i + 1) fs

-- 'then files (5), total (15), size on disk (15), pieces (10)'
abbrev pub totals_line : Model → List ℕ
totals_line m =
    column 5 (length m.files) ++
    (column 15 m.total ++ (column 15 m.on_disk ++ (column 10 (pieces m) ++ (10 ∷ []))))

-- 'On a refusal it prints only the number (5) and the line (5)'
abbrev pub printed : Run → List ℕ
printed (listed m) = file_lines 0 m.files ++ totals_line m
printed (stopped k line) = column 5 k ++ (column 5 line ++ (10 ∷ []))
