-- Document 01, 'The set': values of plain answers about a file. It relies on what the tables hold (tables,
-- specs/Rows.antt and Model.antt, from which `is_absolute`, `is_inside` and `internal_path`, the answer of
-- `internal_file_path`, are passed on).
use Rattle.std.specs.Prelude.{ℕ, cond, List, [], ℤ, replicate}
use Rattle.types.specs.Signed.{unzigzag}
use Rattle.tables.specs.declared.storage.FileStorage.{FileStorage}
use Rattle.tables.specs.declared.rows.Row.{Row}
use Rattle.tables.specs.Span.{text_at}
pub use Rattle.tables.specs.Rows.{is_absolute, is_inside}
pub use Rattle.tables.specs.Model.{internal_path}
use Rattle.tables.specs.Rows.{row_at, root_at, has, link_held_bit, root_bit}
use Rattle.path.specs.Join.{appended}

-- a modified time, which the row holds as a word
abbrev pub time_of : List ℕ → ℕ → ℤ
time_of rows k = unzigzag (row_at rows k).time

-- a root, 32 zero bytes where there is none
abbrev pub root_of : List ℕ → List ℕ → ℕ → List ℕ
root_of rows roots k = cond (has (row_at rows k).flags root_bit) (root_at roots k) (replicate 32 0)

-- `symlink`: the set's name and the link text joined; nothing where no link text is held
abbrev pub symlink_path : FileStorage → List ℕ → Row → List ℕ
symlink_path fs text r =
    cond (has r.flags link_held_bit) (appended (text_at text fs.name) (text_at text r.link)) []
