-- Document 01, 'Names': what a set's names are through its renames, from tables of any content. Refusals 1, 11, 10: 'a
-- question on one past the end is 11, but the export gives it'. It relies on the renames of `renames`, as they are
-- found in the tables, and on the questions of `rules`.
use Rattle.std.specs.Prelude.{ℕ, ◌+◌, ◌-◌, Bool, true, false, ◌&&◌, List, ℤ, length, Option, Some, None}
use Rattle.types.specs.Refusals.{Outcome}
use Rattle.path.specs.Split.{is_separator, trimmed, rsplit_leaf}
use Rattle.path.specs.Join.{Joined, appended}
use Rattle.tables.specs.declared.storage.FileStorage.{FileStorage}
use Rattle.tables.specs.declared.span.Span.{Span}
use Rattle.tables.specs.Span.{text_at}
use Rattle.tables.specs.Rows.{row_at, is_absolute}
use Rattle.rules.specs.Questions.{file_answer, rows_are_held, text_held}
use Rattle.rules.specs.Composed.{composed_file}
use Rattle.names.specs.Paths.{file_path, names_held}
use Rattle.renames.specs.declared.rename.RenameMode.{RenameMode}
use Rattle.renames.specs.declared.rename.RenameMode.TheVariants.{FullPath, NoRootPath, AbsolutePath}
use Rattle.renames.specs.declared.rename.Rename.{Rename}
use Rattle.renames.specs.declared.rename.RenamedFiles.{RenamedFiles}
use Rattle.renames.specs.Renames.{renames_held}
use Rattle.renames.specs.Finding.{rename_found}

-- `file_path`: the three modes, or the set's own path
abbrev pub path_by : RenameMode → List ℕ → List ℕ → List ℕ → List ℕ
path_by FullPath save set_name name = appended (appended save set_name) name
path_by NoRootPath save set_name name = appended save name
path_by AbsolutePath save set_name name = name

abbrev pub renamed_path : List ℕ → Option Rename → List ℕ → List ℕ → List ℕ → List ℕ
renamed_path rename_text None own save set_name = own
renamed_path rename_text (Some r) own save set_name = path_by r.mode save set_name (text_at rename_text r.name)

-- the span of a file's name: in the set's text area, or in that of the renames
pub data NameSpan : Type 0 where
  in_set : Span → NameSpan
  in_renames : Span → NameSpan

-- the span of a text's leaf, which ends where the text does after a separator at its end is dropped
abbrev pub leaf_span : List ℕ → Span → Span
leaf_span rename_text s =
    record {
      at =
          s.at + (length (trimmed is_separator (text_at rename_text s)) - length (rsplit_leaf (text_at rename_text s)));
      len = length (rsplit_leaf (text_at rename_text s));
    }

-- `file_name` as a span: that of the leaf of the rename, or the set's own
abbrev pub name_span : List ℕ → Span → Option Rename → NameSpan
name_span rename_text own None = in_set own
name_span rename_text own (Some r) = in_renames (leaf_span rename_text r.name)

-- `file_absolute_path`
abbrev pub is_by_itself : RenameMode → Bool
is_by_itself FullPath = false
is_by_itself NoRootPath = false
is_by_itself AbsolutePath = true

abbrev pub renamed_absolute : Option Rename → Bool → Bool
renamed_absolute None own = own
renamed_absolute (Some r) own = is_by_itself r.mode

-- the path of a file in a lent buffer, refusals 1, 11, 10
abbrev pub path_into : FileStorage → List ℕ → List ℕ → List ℕ → RenamedFiles → List ℕ → List ℕ → ℤ → List ℕ → List ℕ
    → Joined
path_into fs rows dirs text rf entries rename_text z save buf =
    composed_file fs z (names_held fs rows dirs text && renames_held rf entries (length rename_text))
    (λ k. renamed_path rename_text (rename_found rf entries k) (file_path fs dirs text save (row_at rows k)) save
    (text_at text fs.name))
    buf

-- `file_name`, refusals 1, 11, 10
abbrev pub name_given : FileStorage → List ℕ → List ℕ → RenamedFiles → List ℕ → List ℕ → ℤ → Outcome NameSpan
name_given fs rows text rf entries rename_text z =
    file_answer fs z ((rows_are_held fs rows && text_held fs text) && renames_held rf entries (length rename_text))
    (λ k. name_span rename_text (row_at rows k).name (rename_found rf entries k))

-- `file_absolute_path`, refusals 1, 11, 10
abbrev pub absolute_given : FileStorage → List ℕ → RenamedFiles → List ℕ → List ℕ → ℤ → Outcome Bool
absolute_given fs rows rf entries rename_text z =
    file_answer fs z (rows_are_held fs rows && renames_held rf entries (length rename_text))
    (λ k. renamed_absolute (rename_found rf entries k) (is_absolute (row_at rows k)))
