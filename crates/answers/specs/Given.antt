-- What each plain answer gives, with its refusals in the order of document 01, 'Refusals, by place': 1 for every set,
-- then 11, 15, and 10 where a lent table is too short or the set counts over 65535 files or directories. It relies on
-- the lists of refusals of `rules` and on the values of Answers.antt.
use Rattle.std.specs.Prelude.{ℕ, ◌%◌, ◌^◌, Bool, ◌&&◌, List, ℤ, pos}
use Rattle.types.specs.Refusals.{Outcome}
use Rattle.path.specs.Join.{Joined}
use Rattle.tables.specs.declared.storage.FileStorage.{FileStorage}
use Rattle.tables.specs.declared.span.Span.{Span}
use Rattle.tables.specs.Rows.{row_at, dir_at, has, link_held_bit, pad_bit}
use Rattle.rules.specs.Questions.{row_there, rows_are_held, roots_held, dirs_held, text_held}
use Rattle.rules.specs.Questions.{set_answer, held_answer, directory_answer, file_answer, link_answer}
use Rattle.rules.specs.Composed.{composed_file}
use Rattle.answers.specs.Answers.{time_of, root_of, is_absolute, internal_path, symlink_path}

-- ---- the set

abbrev pub num_files_given : FileStorage → Outcome ℤ
num_files_given fs = set_answer fs (pos fs.num_files)

-- the sum of the sizes, pads included
abbrev pub total_size_given : FileStorage → Outcome ℤ
total_size_given fs = set_answer fs (pos (fs.total_size % 2 ^ 63))

-- the sum of the sizes without the pads
abbrev pub size_on_disk_given : FileStorage → Outcome ℤ
size_on_disk_given fs = set_answer fs (pos (fs.size_on_disk % 2 ^ 63))

abbrev pub piece_length_given : FileStorage → Outcome ℤ
piece_length_given fs = set_answer fs (pos fs.piece_length)

abbrev pub v2_given : FileStorage → Outcome Bool
v2_given fs = set_answer fs fs.v2

-- where the set's name stands in the text area
abbrev pub set_name_given : FileStorage → List ℕ → Outcome Span
set_name_given fs text = held_answer fs (text_held fs text) fs.name

abbrev pub num_paths_given : FileStorage → Outcome ℤ
num_paths_given fs = set_answer fs (pos fs.num_paths)

-- where the text of directory i stands in the text area
abbrev pub path_at_given : FileStorage → List ℕ → List ℕ → ℕ → Outcome Span
path_at_given fs dirs text i = directory_answer fs i (dirs_held fs dirs && text_held fs text) (dir_at dirs i)

-- ---- file z

abbrev pub file_size_given : FileStorage → List ℕ → ℤ → Outcome ℤ
file_size_given fs rows z = file_answer fs z (rows_are_held fs rows) (λ k. pos (row_at rows k).size)

abbrev pub file_offset_given : FileStorage → List ℕ → ℤ → Outcome ℤ
file_offset_given fs rows z = file_answer fs z (rows_are_held fs rows) (λ k. pos (row_at rows k).offset)

abbrev pub pad_file_at_given : FileStorage → List ℕ → ℤ → Outcome Bool
pad_file_at_given fs rows z = file_answer fs z (rows_are_held fs rows) (λ k. has (row_at rows k).flags pad_bit)

-- 'pad 1, hidden 2, executable 4, symlink 8'
abbrev pub file_flags_given : FileStorage → List ℕ → ℤ → Outcome ℕ
file_flags_given fs rows z = file_answer fs z (rows_are_held fs rows) (λ k. (row_at rows k).flags % 16)

abbrev pub file_absolute_path_given : FileStorage → List ℕ → ℤ → Outcome Bool
file_absolute_path_given fs rows z = file_answer fs z (rows_are_held fs rows) (λ k. is_absolute (row_at rows k))

abbrev pub mtime_given : FileStorage → List ℕ → ℤ → Outcome ℤ
mtime_given fs rows z = file_answer fs z (rows_are_held fs rows) (time_of rows)

abbrev pub root_given : FileStorage → List ℕ → List ℕ → ℤ → Outcome (List ℕ)
root_given fs rows roots z = file_answer fs z (rows_are_held fs rows && roots_held fs roots) (root_of rows roots)

-- ---- texts of file z: where they stand in the text area, or composed into a lent buffer

abbrev pub file_name_given : FileStorage → List ℕ → List ℕ → ℤ → Outcome Span
file_name_given fs rows text z =
    file_answer fs z (rows_are_held fs rows && text_held fs text) (λ k. (row_at rows k).name)

-- '`internal_symlink` of a file without link text' gives 15
abbrev pub internal_symlink_given : FileStorage → List ℕ → List ℕ → ℤ → Outcome Span
internal_symlink_given fs rows text z =
    link_answer fs z (row_there rows) (λ k. has (row_at rows k).flags link_held_bit)
    (rows_are_held fs rows && text_held fs text)
    (λ k. (row_at rows k).link)

abbrev pub symlink_given : FileStorage → List ℕ → List ℕ → ℤ → List ℕ → Joined
symlink_given fs rows text z buf =
    composed_file fs z (rows_are_held fs rows && text_held fs text) (λ k. symlink_path fs text (row_at rows k)) buf

abbrev pub internal_file_path_given : FileStorage → List ℕ → List ℕ → List ℕ → ℤ → List ℕ → Joined
internal_file_path_given fs rows dirs text z buf =
    composed_file fs z (rows_are_held fs rows && (dirs_held fs dirs && text_held fs text))
    (λ k. internal_path dirs text (row_at rows k)) buf
