-- What an addition writes: the tables after it, word by word, for tables of any content. The decisions are
-- those of Addition.antt on what the tables mean (`view_of`); here stands where each text and row goes.
use Rattle.std.specs.Prelude.{ℕ, ◌+◌, ◌-◌, ◌%◌, ◌^◌, Bool, false, cond, not, ◌&&◌, List, [], ◌∷◌, ◌++◌, length, take}
use Rattle.std.specs.Prelude.{replicate, ◌==◌, Option, Some, None}
use Rattle.std.proofs.lemmas.List.Edits.{sets}
use Rattle.lists.specs.Lists.{equal}
use Rattle.lists.specs.Decimal.{decimal}
use Rattle.types.specs.Signed.{zigzag}
use Rattle.tables.specs.declared.span.Span.{Span}
use Rattle.tables.specs.declared.rows.Row.{Row}
use Rattle.tables.specs.declared.storage.FileStorage.{FileStorage}
use Rattle.tables.specs.Span.{clip, slid}
use Rattle.tables.specs.Rows.{put_row, put_dir, no_path, path_is_absolute, put_root, dirs_lowered}
use Rattle.tables.specs.Rows.{link_held_bit, outside_bit, root_bit, made_pad_flags}
use Rattle.tables.specs.Model.{Directory, single, absolute, stored, is_pad, Model, Store}
use Rattle.rules.specs.Questions.{num_pieces}
use Rattle.additions.specs.Addition.{Addition, files_of, size_added, keeps, is_v2, pad_of, directory_added, stored_name}
use Rattle.additions.specs.Addition.{set_name_of, flags_kept, pad_directory_name, is_among}
use Rattle.additions.specs.Addition.{with_directory_of, added, is_present}

-- ---- texts one after the other

abbrev pub joined : List (List ℕ) → List ℕ
joined [] = []
joined (t ∷ ts) = t ++ joined ts

-- where they end, if the first begins at position p
abbrev pub end_from : ℕ → List (List ℕ) → ℕ
end_from p [] = p
end_from p (t ∷ ts) = end_from (p + length t) ts

-- ---- directories among those stored

-- the index of the last directory that is `d`, or the next free one
unfoldable pub directory_index_from : ℕ → ℕ → List ℕ → List (List ℕ) → ℕ
directory_index_from found i d [] = found
directory_index_from found i d (e ∷ es) = directory_index_from (cond (equal d e) i found) (i + 1) d es

abbrev pub directory_index : List ℕ → List (List ℕ) → ℕ
directory_index d ds = directory_index_from (length ds) 0 d ds

-- the Rust's path index of a directory among those stored
abbrev pub path_index_of : Directory → List (List ℕ) → ℕ
path_index_of single ds = no_path
path_index_of absolute ds = path_is_absolute
path_index_of (stored d outside) ds = directory_index d ds

-- the text of a directory that is not stored yet
abbrev pub text_if_new : List ℕ → List (List ℕ) → List ℕ
text_if_new d ds = cond (is_among d ds) [] d

abbrev pub new_text_of : Directory → List (List ℕ) → List ℕ
new_text_of single ds = []
new_text_of absolute ds = []
new_text_of (stored d outside) ds = text_if_new d ds

abbrev pub is_outside : Directory → Bool
is_outside single = false
is_outside absolute = false
is_outside (stored d outside) = outside

-- ---- the new texts of an addition

-- the set's name, where the set is named
abbrev pub set_text : Model → Addition → List ℕ
set_text m a = cond (files_of m == 0) (set_name_of a.path) []

-- its directory, where that is not stored yet
abbrev pub directory_new : Model → Addition → List ℕ
directory_new m a = new_text_of (directory_added m a) m.directories

-- its name
abbrev pub name_text : Model → Addition → List ℕ
name_text m a = stored_name a.given a.path

-- its link text, where it is kept
abbrev pub link_new : Model → Addition → List ℕ
link_new m a = cond (keeps m a) a.link []

-- the directory of its pad, where there is a pad and that is not stored yet
abbrev pub pad_directory_new : Model → Addition → List ℕ
pad_directory_new m a =
    cond (pad_of m a == 0) [] (text_if_new pad_directory_name (with_directory_of (directory_added m a) m.directories))

-- the name of a pad, 'the pad's size in decimal digits'; nothing where there is none
abbrev pub pad_digits : ℕ → List ℕ
pad_digits pad = cond (pad == 0) [] (decimal pad)

abbrev pub pad_text : Model → Addition → List ℕ
pad_text m a = pad_digits (pad_of m a)

-- the set's old name, which goes where the set is named again; its bytes within the used part
abbrev pub old_name : FileStorage → Span
old_name fs = cond (fs.num_files == 0) (clip fs.text_len fs.name) (record { at = 0; len = 0 })

-- the text that stays: new texts begin after it
abbrev pub text_kept : FileStorage → ℕ
text_kept fs = fs.text_len - (old_name fs).len

-- the new texts in the order in which they are appended; one that there is not has no bytes
abbrev pub new_texts : Model → Addition → List (List ℕ)
new_texts m a =
    set_text m a ∷ directory_new m a ∷ name_text m a ∷ link_new m a ∷ pad_directory_new m a ∷ pad_text m a ∷ []

-- where the first n of them end; they begin where the text that stays ends
abbrev pub texts_end : ℕ → FileStorage → Model → Addition → ℕ
texts_end n fs m a = end_from (text_kept fs) (take n (new_texts m a))

-- where each of them but the first begins, and where the last one ends: the text needed after the addition
abbrev pub directory_start : FileStorage → Model → Addition → ℕ
directory_start fs m a = texts_end 1 fs m a

abbrev pub name_start : FileStorage → Model → Addition → ℕ
name_start fs m a = texts_end 2 fs m a

abbrev pub link_start : FileStorage → Model → Addition → ℕ
link_start fs m a = texts_end 3 fs m a

abbrev pub pad_directory_start : FileStorage → Model → Addition → ℕ
pad_directory_start fs m a = texts_end 4 fs m a

abbrev pub pad_name_start : FileStorage → Model → Addition → ℕ
pad_name_start fs m a = texts_end 5 fs m a

abbrev pub text_after : FileStorage → Model → Addition → ℕ
text_after fs m a = texts_end 6 fs m a

-- ---- the tables after an addition

-- the text area: the set's old name goes where the set is named again, and the new texts follow what stays
abbrev pub text_added : Store → Model → Addition → List ℕ
text_added s m a =
    sets (cond (s.fs.num_files == 0) (slid (old_name s.fs) s.fs.text_len s.text) s.text)
    (text_kept s.fs)
    (joined (new_texts m a))

-- whether a directory is a new row, which it may be with no bytes of text
abbrev pub is_new : List ℕ → List (List ℕ) → Bool
is_new d ds = not (is_among d ds)

abbrev pub is_new_directory : Directory → List (List ℕ) → Bool
is_new_directory single ds = false
is_new_directory absolute ds = false
is_new_directory (stored d outside) ds = is_new d ds

abbrev pub put_dir_if : Bool → List ℕ → ℕ → Span → List ℕ
put_dir_if new dirs i s = cond new (put_dir dirs i s) dirs

abbrev pub is_new_pad : Model → Addition → Bool
is_new_pad m a =
    not (pad_of m a == 0) && is_new pad_directory_name (with_directory_of (directory_added m a) m.directories)

-- the directory rows: the file's, then the pad's
abbrev pub dirs_added : Store → Model → Addition → List ℕ
dirs_added s m a =
    put_dir_if (is_new_pad m a)
    (put_dir_if (is_new_directory (directory_added m a) m.directories)
    (cond (s.fs.num_files == 0) (dirs_lowered s.dirs s.fs.num_paths (old_name s.fs)) s.dirs)
    s.fs.num_paths
    (record { at = directory_start s.fs m a; len = length (directory_new m a) }))
    (length (with_directory_of (directory_added m a) m.directories))
    (record { at = pad_directory_start s.fs m a; len = 4 })

-- the file's row
abbrev pub row_added : FileStorage → Model → Addition → Row
row_added fs m a =
    record {
      offset = fs.total_size;
      size = size_added a;
      name = record { at = name_start fs m a; len = length (name_text m a) };
      link = record { at = link_start fs m a; len = length (link_new m a) };
      path_index = path_index_of (directory_added m a) m.directories;
      flags =
          flags_kept a.flags (keeps m a)
          + cond (keeps m a) link_held_bit 0
          + cond (is_outside (directory_added m a)) outside_bit 0
          + cond (is_present a.root) root_bit 0;
      time = zigzag a.time;
    }

-- the row of the pad that an addition makes, with time 0
abbrev pub row_of_pad : FileStorage → Model → Addition → Row
row_of_pad fs m a =
    record {
      offset = fs.total_size + size_added a;
      size = pad_of m a;
      name = record { at = pad_name_start fs m a; len = length (pad_text m a) };
      link = record { at = text_after fs m a; len = 0 };
      path_index = directory_index pad_directory_name (with_directory_of (directory_added m a) m.directories);
      flags = made_pad_flags;
      time = 0;
    }

abbrev pub rows_added : Store → Model → Addition → List ℕ
rows_added s m a =
    cond (pad_of m a == 0) (put_row s.rows s.fs.num_files (row_added s.fs m a))
    (put_row
    (put_row s.rows s.fs.num_files (row_added s.fs m a))
    (s.fs.num_files + 1)
    (row_of_pad s.fs m a))

abbrev pub roots_added : List ℕ → ℕ → Option (List ℕ) → List ℕ
roots_added roots i None = roots
roots_added roots i (Some root) = put_root roots i root

-- the size on disk with what an addition adds, held in 64 bits; on tables in order the sum itself
abbrev pub on_disk_added : ℕ → ℕ → ℕ
on_disk_added disk size = (disk + size) % 2 ^ 64

-- the set's record
abbrev pub storage_added : FileStorage → Model → Addition → FileStorage
storage_added fs m a =
    record {
      piece_length = fs.piece_length;
      v2 = is_v2 m a;
      num_files = fs.num_files + cond (pad_of m a == 0) 1 2;
      num_paths = length (added m a).directories;
      num_symlinks = fs.num_symlinks + cond (keeps m a) 1 0;
      name = cond (fs.num_files == 0) (record { at = text_kept fs; len = length (set_text m a) }) fs.name;
      text_len = text_after fs m a;
      total_size = fs.total_size + size_added a + pad_of m a;
      size_on_disk = on_disk_added fs.size_on_disk (cond (is_pad a.flags) 0 (size_added a));
      trimmed = fs.trimmed;
      indexed = fs.indexed;
    }

-- document 02 (v): 'the file in which each piece begins': a piece that begins in what is added begins in the file, as a
-- pad ends where a piece does; a set that keeps no such table leaves it
abbrev pub firsts_added : Store → Model → Addition → List ℕ
firsts_added s m a =
    cond s.fs.indexed
    (sets s.firsts (num_pieces s.fs)
    (replicate (num_pieces (storage_added s.fs m a) - num_pieces s.fs) s.fs.num_files))
    s.firsts

abbrev pub store_added : Store → Model → Addition → Store
store_added s m a =
    record {
      fs = storage_added s.fs m a;
      rows = rows_added s m a;
      roots = roots_added s.roots s.fs.num_files a.root;
      firsts = firsts_added s m a;
      dirs = dirs_added s m a;
      text = text_added s m a;
    }
