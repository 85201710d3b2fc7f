-- What a trim writes and answers, for tables of any content and length. The search is that of Trim.antt on what the
-- tables mean (`view_of`); here stands what the removal of a row leaves.
use Rattle.std.specs.Prelude.{ℕ, ◌-◌, ◌*◌, true, not, [], ◌∷◌, Option, Some, None}
use Rattle.tables.specs.declared.span.Span.{Span}
use Rattle.tables.specs.declared.rows.Row.{Row}
use Rattle.tables.specs.declared.storage.FileStorage.{FileStorage}
use Rattle.tables.specs.Span.{clip, slid, low}
use Rattle.tables.specs.Rows.{row_at, dirs_lowered, rows_without, root_width}
use Rattle.tables.specs.Model.{Store, view_of}
use Rattle.rules.specs.Rules.{when, first_of}
use Rattle.rules.specs.Bounds.{bad_length}
use Rattle.change.specs.Changes.{Changed, changed_if}
use Rattle.change.specs.Rooms.{holds}
use Rattle.trim.specs.Trim.{tail_pad}

-- ---- the tables after a trim that removes row f

-- the spans that go: the name of the row, then its link text, each within the used part
abbrev pub first_gone : FileStorage → Row → Span
first_gone fs r = clip fs.text_len r.name

abbrev pub second_gone : FileStorage → Row → Span
second_gone fs r = clip (fs.text_len - (first_gone fs r).len) (low (first_gone fs r) r.link)

abbrev pub storage_without : FileStorage → Row → Span → Span → FileStorage
storage_without fs r c d =
    record {
      piece_length = fs.piece_length;
      v2 = fs.v2;
      num_files = fs.num_files - 1;
      num_paths = fs.num_paths;
      num_symlinks = fs.num_symlinks;
      name = low d (low c fs.name);
      text_len = fs.text_len - c.len - d.len;
      total_size = fs.total_size - r.size;
      size_on_disk = fs.size_on_disk;
      trimmed = true;
      indexed = fs.indexed;
    }

abbrev pub store_without : Store → ℕ → Row → Span → Span → Store
store_without s f r c d =
    record {
      fs = storage_without s.fs r c d;
      rows = rows_without s.rows (s.fs.num_files - 1) f (s.fs.total_size - r.size) c d;
      roots = slid (record { at = f * root_width; len = root_width }) (s.fs.num_files * root_width) s.roots;
      firsts = s.firsts;
      dirs = dirs_lowered (dirs_lowered s.dirs s.fs.num_paths c) s.fs.num_paths d;
      text = slid d (s.fs.text_len - c.len) (slid c s.fs.text_len s.text);
    }

abbrev pub store_trimmed : Store → ℕ → Store
store_trimmed s f =
    store_without s f
    (row_at s.rows f)
    (first_gone s.fs (row_at s.rows f))
    (second_gone s.fs (row_at s.rows f))

-- ---- the answer

-- the tables without the pad that was found; as they were where none was
abbrev pub trimmed_by : Option ℕ → Store → Store
trimmed_by None s = s
trimmed_by (Some f) s = store_trimmed s f

-- what `remove_tail_padding` answers and writes: it 'removes at most one pad'
abbrev pub trim_stored : Store → Changed
trim_stored s =
    changed_if (first_of (when (bad_length s.fs.piece_length) 1 ∷ when (not (holds s)) 10 ∷ []))
    s
    (trimmed_by (tail_pad (view_of s).files) s)
