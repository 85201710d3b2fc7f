-- Where the first slice of a block begins, or why the block is refused before any table is looked at. The slices and
-- the refusals are those of Mapping.antt.
use Rattle.std.specs.Prelude.{ℕ, ◌-◌, List, [], ℤ}
use Rattle.types.specs.Refusals.{Outcome}
use Rattle.tables.specs.declared.storage.FileStorage.{FileStorage}
use Rattle.tables.specs.Rows.{row_at}
use Rattle.rules.specs.Bounds.{clamped_of}
use Rattle.rules.specs.Questions.{answered}
use Rattle.layout.specs.declared.slices.Slice.{Slice}
use Rattle.layout.specs.declared.slices.Slices.{Slices}
use Rattle.layout.specs.declared.start.Cursor.{Cursor}
use Rattle.layout.specs.declared.window.Window.{Window}
use Rattle.layout.specs.Search.{found_within}
use Rattle.layout.specs.Mapping.{walk, cut, target_of, block_rules}

-- the slices from a cursor on
abbrev pub slices_from : List ℕ → Cursor → List Slice
slices_from rows c = walk (c.files - c.file) rows c.file c.skip c.left

-- those that are still to come
abbrev pub slices_left : Slices → List Slice
slices_left s = slices_from s.rows.now s.at

-- where the slices of `size` bytes from the target on begin; the search for their file begins with a window
abbrev pub cursor_at : FileStorage → List ℕ → Window → ℕ → ℕ → Cursor
cursor_at fs rows w target size =
    record {
      file = found_within rows fs.num_files w target;
      files = fs.num_files;
      skip = target - (row_at rows (found_within rows fs.num_files w target)).offset;
      left = cut fs.total_size target size;
    }

-- where the first slice of a block begins, or its refusal
abbrev pub block_start : FileStorage → List ℕ → Window → ℤ → ℤ → ℤ → Outcome Cursor
block_start fs rows w z offset size =
    answered (block_rules fs rows z offset size []) (cursor_at fs rows w (target_of fs z offset) (clamped_of size))
