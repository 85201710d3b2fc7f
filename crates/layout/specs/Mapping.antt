-- Document 01, 'Layout answers': the slices of a block, and `map_block`'s refusals before that of room.
--
-- Names from elsewhere: a `Slice` is a window of a file, with the fields `file`, `offset` (within it) and `size`
-- (src/slices.rt); `cond t a b` is a where t is true, else b; `eqb`, `ltb` and `leb` test =, < and ≤; `a - b` is 0
-- where b is larger. `row_at rows k` is the row of file k, with its offset and size; `file_found` the file at a byte of
-- the set: the last that begins at or before it, and `found_within` the same by a window; `clamped_of` an integer, 0
-- where it is negative. The rules are document 01's table of refusals (rules, specs/Questions.antt).
use Rattle.std.specs.Prelude.{ℕ, zero, suc, ◌+◌, ◌-◌, min, cond, ◌&&◌, List, [], ◌∷◌, map, ℤ, ◌==◌}
use Rattle.tables.specs.declared.storage.FileStorage.{FileStorage}
use Rattle.tables.specs.Rows.{row_at}
use Rattle.rules.specs.Rules.{Rule}
use Rattle.rules.specs.Bounds.{clamped_of}
use Rattle.rules.specs.Questions.{rows_are_held, bad_piece_length, many_pieces, no_piece, bad_range, short, few_entries}
use Rattle.layout.specs.Pieces.{start_of}
use Rattle.layout.specs.declared.slices.Slice.{Slice}
use Rattle.layout.specs.declared.window.Window.{Window}
use Rattle.layout.specs.Search.{file_found, found_within}

-- a slice in front of others, where it is not empty
abbrev pub before : Slice → List Slice → List Slice
before s rest = cond (s.size == 0) rest (s ∷ rest)

-- n bytes from place s of file k on, over at most f files: what file k has of them, then the rest in the files after it
unfoldable pub walk : ℕ → List ℕ → ℕ → ℕ → ℕ → List Slice
walk zero rows k s n = []
walk (suc f) rows k s n =
    before (record { file = k; offset = s; size = min ((row_at rows k).size - s) n })
    (walk f rows (k + 1) (s - (row_at rows k).size) (n - ((row_at rows k).size - s)))

-- 'the size is cut to what is left, to 0 past the total'
abbrev pub cut : ℕ → ℕ → ℕ → ℕ
cut total target size = min size (total - target)

abbrev pub slices_at : FileStorage → List ℕ → ℕ → ℕ → ℕ → List Slice
slices_at fs rows k target size =
    walk (fs.num_files - k) rows k (target - (row_at rows k).offset) (cut fs.total_size target size)

-- the slices of bytes from a target on, which begin in the file found there
abbrev pub slices_of : FileStorage → List ℕ → ℕ → ℕ → List Slice
slices_of fs rows target size = slices_at fs rows (file_found rows fs.num_files target) target size

-- the same where the search for that file begins with a window
abbrev pub slices_within : FileStorage → List ℕ → Window → ℕ → ℕ → List Slice
slices_within fs rows w target size = slices_at fs rows (found_within rows fs.num_files w target) target size

-- 'target is piece × length + offset'
abbrev pub target_of : FileStorage → ℤ → ℤ → ℕ
target_of fs z offset = start_of fs (clamped_of z) + clamped_of offset

abbrev pub block_of : FileStorage → List ℕ → Window → ℤ → ℤ → ℤ → List Slice
block_of fs rows w z offset size = slices_within fs rows w (target_of fs z offset) (clamped_of size)

-- `map_block`'s refusals, in order, in front of the last, which is for room
abbrev pub block_rules : FileStorage → List ℕ → ℤ → ℤ → ℤ → List Rule → List Rule
block_rules fs rows z offset size last =
    bad_piece_length fs ∷ many_pieces fs ∷ no_piece fs z ∷ bad_range offset size ∷
    short (rows_are_held fs rows && few_entries fs) ∷ last

-- the columns of slices
abbrev pub files_of : List Slice → List ℕ
files_of ss = map (λ s. s.file) ss

abbrev pub offsets_of : List Slice → List ℕ
offsets_of ss = map (λ s. s.offset) ss

abbrev pub sizes_of : List Slice → List ℕ
sizes_of ss = map (λ s. s.size) ss
