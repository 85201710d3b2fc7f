-- When a set's tables are in order: the tables hold what the set's record counts, every text lies in the used part of
-- the text area, no two have a byte in common and together they fill it, and offsets are the sums of the sizes before.
-- It relies on the rows and spans of `tables`.
use Rattle.std.specs.Prelude.{ℕ, zero, suc, ◌+◌, ◌*◌, ◌≤◌, ◌<◌, ◌≡◌, false, cond, ltb, length}
use Rattle.tables.specs.declared.span.Span.{Span}
use Rattle.tables.specs.Span.{end_of, Apart}
use Rattle.tables.specs.Rows.{row_at, dir_at, no_path, path_is_absolute, row_width}
use Rattle.tables.specs.Rows.{dir_width, root_width, has, pad_bit, link_held_bit}
use Rattle.tables.specs.Model.{Store}
use Rattle.rules.specs.Bounds.{limit, max_entries}

-- the texts of a set, each by what it is the text of
pub data TextId : Type 0 where
  set_name : TextId
  dir_name : ℕ → TextId
  file_name : ℕ → TextId
  link_text : ℕ → TextId

abbrev pub nowhere : Span
nowhere = record { at = 0; len = 0 }

-- where a text lies; past the end of a table there is none
abbrev pub span_of : Store → TextId → Span
span_of s set_name = s.fs.name
span_of s (dir_name k) = cond (ltb k s.fs.num_paths) (dir_at s.dirs k) nowhere
span_of s (file_name k) = cond (ltb k s.fs.num_files) (row_at s.rows k).name nowhere
span_of s (link_text k) = cond (ltb k s.fs.num_files) (row_at s.rows k).link nowhere

-- w 0 + … + w (n − 1)
unfoldable pub sum_to : ℕ → (ℕ → ℕ) → ℕ
sum_to zero w = 0
sum_to (suc n) w = sum_to n w + w n

abbrev pub text_at_row : Store → ℕ → ℕ
text_at_row s k = (span_of s (file_name k)).len + (span_of s (link_text k)).len

-- the texts' lengths together
abbrev pub lengths : Store → ℕ
lengths s =
    s.fs.name.len
    + sum_to s.fs.num_paths (λ k. (span_of s (dir_name k)).len)
    + sum_to s.fs.num_files (text_at_row s)

abbrev pub size_of_row : Store → ℕ → ℕ
size_of_row s k = (row_at s.rows k).size

-- the size of a row that is a pad, 0 of any other
abbrev pub pad_of_row : Store → ℕ → ℕ
pad_of_row s k = cond (has (row_at s.rows k).flags pad_bit) (size_of_row s k) 0

pub record Sound (s : Store) : Type 0 where
  pub rows-hold : s.fs.num_files * row_width ≤ length s.rows
  pub roots-hold : s.fs.num_files * root_width ≤ length s.roots
  pub dirs-hold : s.fs.num_paths * dir_width ≤ length s.dirs
  pub text-holds : s.fs.text_len ≤ length s.text
  pub few-files : s.fs.num_files ≤ max_entries
  pub few-paths : s.fs.num_paths ≤ max_entries
  pub within : (p : TextId) → end_of (span_of s p) ≤ s.fs.text_len
  pub apart : (p q : TextId) → (p ≡ q → ⊥) → Apart (span_of s p) (span_of s q)
  pub full : lengths s ≡ s.fs.text_len
  pub offsets : (k : ℕ) → k < s.fs.num_files → (row_at s.rows k).offset ≡ sum_to k (size_of_row s)
  pub total : s.fs.total_size ≡ sum_to s.fs.num_files (size_of_row s)
  pub limited : s.fs.total_size ≤ limit
  pub on-disk : s.fs.size_on_disk + sum_to s.fs.num_files (pad_of_row s) ≡ s.fs.total_size
  -- a row without link text has no bytes of it
  pub unlinked : (k : ℕ) → k < s.fs.num_files → has (row_at s.rows k).flags link_held_bit ≡ false
      → (row_at s.rows k).link.len ≡ 0
  -- a row has no directory, or a stored one
  pub placed : (k : ℕ) → k < s.fs.num_files → (row_at s.rows k).path_index < path_is_absolute
      → (row_at s.rows k).path_index < s.fs.num_paths
  -- a path index has 30 bits, as upstream holds it; `no_path` is the largest
  pub indexed : (k : ℕ) → k < s.fs.num_files → (row_at s.rows k).path_index ≤ no_path
