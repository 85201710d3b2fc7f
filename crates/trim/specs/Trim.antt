-- Document 01, `remove_tail_padding`: 'skips empty files, removes at most one pad'; document 02 (vi): the time 'moves
-- when the record moves'. All on the model; it relies on that of `tables`.
use Rattle.std.specs.Prelude.{ℕ, ◌+◌, ◌-◌, true, cond, List, [], ◌∷◌, ◌++◌, map, eqb, get_or, take, drop, Option, Some}
use Rattle.std.specs.Prelude.{None}
use Rattle.tables.specs.Model.{present_if, File, is_pad, Model}

-- the index of the last file that is not empty, where that is a pad; the files are counted from i on, and `found` is
-- what those before them give
abbrev pub tail_pad_from : ℕ → Option ℕ → List File → Option ℕ
tail_pad_from i found [] = found
tail_pad_from i found (f ∷ fs) =
    tail_pad_from (i + 1) (cond (eqb f.size 0) found (present_if (is_pad f.flags) i)) fs

abbrev pub tail_pad : List File → Option ℕ
tail_pad files = tail_pad_from 0 None files

abbrev pub size_at : ℕ → List File → ℕ
size_at f files = get_or (map (λ (g : File). g.size) files) f 0

abbrev pub beginning_at : ℕ → File → File
beginning_at offset g =
    record {
      offset = offset;
      size = g.size;
      name = g.name;
      directory = g.directory;
      flags = g.flags;
      time = g.time;
      link = g.link;
      root = g.root;
      made = g.made;
    }

-- the set without file f; the files after it, which are empty, begin at the new total
abbrev pub without_file : ℕ → Model → Model
without_file f m =
    record {
      piece_length = m.piece_length;
      v2 = m.v2;
      name = m.name;
      files = take f m.files ++ map (beginning_at (m.total - size_at f m.files)) (drop (f + 1) m.files);
      directories = m.directories;
      links = m.links;
      total = m.total - size_at f m.files;
      on_disk = m.on_disk;
      trimmed = true;
    }

abbrev pub trimmed_if : Option ℕ → Model → Model
trimmed_if None m = m
trimmed_if (Some f) m = without_file f m

abbrev pub trimmed_of : Model → Model
trimmed_of m = trimmed_if (tail_pad m.files) m
