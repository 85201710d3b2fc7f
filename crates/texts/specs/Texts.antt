-- One link's text in a set's tables, for tables of any content: the text removed, and a new one put after the used
-- part. 'Text needed is the sum of … link texts held after the call; what a … cleaning frees is used': what is removed
-- leaves no gap. It relies on the rows, spans and files of `tables` and `lookup`.
use Rattle.std.specs.Prelude.{ℕ, ◌+◌, ◌-◌, ◌/◌, min, Bool, cond, ◌&&◌, List, leb, length}
use Rattle.std.proofs.lemmas.List.Edits.{sets}
use Rattle.path.specs.Join.{joined_if, fits}
use Rattle.tables.specs.declared.span.Span.{Span}
use Rattle.tables.specs.declared.rows.Row.{Row}
use Rattle.tables.specs.declared.storage.FileStorage.{FileStorage}
use Rattle.tables.specs.Span.{end_of, clip, slid, low}
use Rattle.tables.specs.Rows.{row_at, words, put_row, directory_span, filled, dirs_lowered, row_width}
use Rattle.tables.specs.Model.{path_in, Store, file_of}
use Rattle.lookup.specs.Lookup.{own_path, entry_of}

-- ---- texts removed and appended

-- a set's record with its name at another span and `used` bytes of text
abbrev pub storage_with : FileStorage → Span → ℕ → FileStorage
storage_with fs name used =
    record {
      piece_length = fs.piece_length;
      v2 = fs.v2;
      num_files = fs.num_files;
      num_paths = fs.num_paths;
      num_symlinks = fs.num_symlinks;
      name = name;
      text_len = used;
      total_size = fs.total_size;
      size_on_disk = fs.size_on_disk;
      trimmed = fs.trimmed;
      indexed = fs.indexed;
    }

abbrev pub row_with : Row → Span → Span → Row
row_with r name link =
    record {
      offset = r.offset;
      size = r.size;
      name = name;
      link = link;
      path_index = r.path_index;
      flags = r.flags;
      time = r.time;
    }

-- the first n rows after span c is removed from the text area
abbrev pub row_lowered : Span → Row → Row
row_lowered c r = row_with r (low c r.name) (low c r.link)

abbrev pub rows_lowered : List ℕ → ℕ → Span → List ℕ
rows_lowered rows n c =
    sets rows 0 (filled (λ i. words (row_lowered c (row_at rows i))) 0 (min n (length rows / row_width)))

-- the set after span c of its text area is removed
abbrev pub cut_out : Store → Span → Store
cut_out s c =
    record {
      fs = storage_with s.fs (low c s.fs.name) (s.fs.text_len - c.len);
      rows = rows_lowered s.rows s.fs.num_files c;
      roots = s.roots;
      firsts = s.firsts;
      dirs = dirs_lowered s.dirs s.fs.num_paths c;
      text = slid c s.fs.text_len s.text;
    }

-- the bytes of a link's text within the used part
abbrev pub gone_at : Store → ℕ → Span
gone_at s i = clip s.fs.text_len (row_at s.rows i).link

-- t is appended as the link text of file i
abbrev pub linked : Store → ℕ → List ℕ → Store
linked s i t =
    record {
      fs = storage_with s.fs s.fs.name (s.fs.text_len + length t);
      rows =
          put_row s.rows i
          (row_with (row_at s.rows i) (row_at s.rows i).name (record { at = s.fs.text_len; len = length t }));
      roots = s.roots;
      firsts = s.firsts;
      dirs = s.dirs;
      text = sets s.text s.fs.text_len t;
    }

-- the link text of file i is removed, and t is appended in its stead
abbrev pub relinked : Store → ℕ → List ℕ → Store
relinked s i t = linked (cut_out s (gone_at s i)) i t

-- ---- a link's new text

-- a span lies within the first u bytes
abbrev pub is_within : ℕ → Span → Bool
is_within u c = leb (end_of c) u

-- the parts of a link's own path lie in the used part, and the path fits after it
abbrev pub own_fits : Store → ℕ → List ℕ → Bool
own_fits s i t =
    is_within s.fs.text_len (directory_span s.dirs (row_at s.rows i))
    && (is_within s.fs.text_len (row_at s.rows i).name
    && leb (length t) (length s.text - s.fs.text_len))

-- a text fits in n bytes, and in the text area where the old text goes
abbrev pub beside_fits : ℕ → Store → ℕ → List ℕ → Bool
beside_fits n s i t =
    leb (length t) n && leb (length t) (length s.text - (s.fs.text_len - (gone_at s i).len))

-- a link's own path, and its text from its directory
abbrev pub own_text : Store → ℕ → List ℕ
own_text s i = own_path (entry_of (file_of s i))

abbrev pub text_beside : Store → ℕ → List ℕ
text_beside s i = path_in (entry_of (file_of s i)).directory (entry_of (file_of s i)).text

-- `write_own`: the link's text, which was removed, is its own path
abbrev pub with_own : Store → ℕ → Store
with_own s i = cond (own_fits s i (own_text s i)) (linked s i (own_text s i)) s

-- `write_beside`: the text from the link's directory replaces the link's text; n is the scratch space's
-- length
abbrev pub with_beside : ℕ → Store → ℕ → Store
with_beside n s i = cond (beside_fits n s i (text_beside s i)) (relinked s i (text_beside s i)) s

-- the scratch space, which then begins with that text where it fits
abbrev pub staged_beside : Store → ℕ → List ℕ → List ℕ
staged_beside s i scratch = (joined_if (fits (text_beside s i) scratch) (text_beside s i) scratch).buf
