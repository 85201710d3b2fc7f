-- How much the lent tables hold, and whether that is what a set's record counts. It relies on the tables of `tables`.
use Rattle.std.specs.Prelude.{ℕ, ◌/◌, min, Bool, ◌&&◌, leb, length}
use Rattle.tables.specs.declared.storage.FileStorage.{FileStorage}
use Rattle.tables.specs.Rows.{row_width, root_width, dir_width}
use Rattle.tables.specs.Model.{Store}
use Rattle.rules.specs.Bounds.{max_entries}
use Rattle.change.specs.declared.rooms.Rooms.{Rooms}

-- the rooms of tables that have these lengths
abbrev pub rooms_in : ℕ → ℕ → ℕ → ℕ → Rooms
rooms_in rows roots dirs text =
    record {
      files = min (rows / row_width) (roots / root_width);
      directories = dirs / dir_width;
      text = text;
    }

abbrev pub rooms_of : Store → Rooms
rooms_of s = rooms_in (length s.rows) (length s.roots) (length s.dirs) (length s.text)

-- refusal 10: 'over 65535 files or directories'
abbrev pub files_room : Rooms → ℕ
files_room rooms = min max_entries rooms.files

abbrev pub dirs_room : Rooms → ℕ
dirs_room rooms = min max_entries rooms.directories

-- a set may have so many files and directories
abbrev pub fit_in : Rooms → ℕ → ℕ → Bool
fit_in rooms files dirs = leb files (files_room rooms) && leb dirs (dirs_room rooms)

-- the tables hold what the set's record counts
abbrev pub holds_in : FileStorage → Rooms → Bool
holds_in fs rooms =
    leb fs.num_files (files_room rooms)
    && (leb fs.num_paths (dirs_room rooms) && leb fs.text_len rooms.text)

abbrev pub holds : Store → Bool
holds s = holds_in s.fs (rooms_of s)
