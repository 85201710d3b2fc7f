-- Document 01, 'Layout answers': values of answers about pieces. It relies on the number of pieces (`rules`) and on the
-- search.
use Rattle.std.specs.Prelude.{ℕ, ◌+◌, ◌-◌, ◌*◌, min, cond, List, ℤ, pos, negsuc, ◌==◌, nat_le}
use Rattle.lists.specs.Lists.{ceiling}
use Rattle.tables.specs.declared.storage.FileStorage.{FileStorage}
use Rattle.rules.specs.Bounds.{block_size}
use Rattle.rules.specs.Questions.{num_pieces}
use Rattle.layout.specs.declared.window.Window.{Window}
use Rattle.layout.specs.Search.{offset_at, partition_point, found_within}

-- n less 1, which is −1 for 0
abbrev pub less_one : ℕ → ℤ
less_one n = cond (n == 0) (negsuc 0) (pos (n - 1))

abbrev pub start_of : FileStorage → ℕ → ℕ
start_of fs p = p * fs.piece_length

-- the size of piece p: the piece length, but for the last
abbrev pub piece_size : FileStorage → ℕ → ℕ
piece_size fs p = cond (p + 1 == num_pieces fs) (fs.total_size - start_of fs p) fs.piece_length

-- the first file that begins after the start of piece p; the number of files where there is none. w is the window with
-- which the search begins
abbrev pub file_after : FileStorage → List ℕ → Window → ℕ → ℕ
file_after fs rows w p = partition_point rows fs.num_files w (start_of fs p)

-- the size of piece p, cut where that file begins
abbrev pub piece_size2 : FileStorage → List ℕ → Window → ℕ → ℕ
piece_size2 fs rows w p =
    cond (nat_le fs.num_files (file_after fs rows w p)) (piece_size fs p)
    (min (offset_at rows (file_after fs rows w p) - start_of fs p) fs.piece_length)

-- how many blocks n bytes are
abbrev pub blocks_in : ℕ → ℕ
blocks_in n = ceiling n block_size

abbrev pub file_at_piece : FileStorage → List ℕ → Window → ℕ → ℕ
file_at_piece fs rows w p = found_within rows fs.num_files w (start_of fs p)

abbrev pub last_file_at_piece : FileStorage → List ℕ → Window → ℕ → ℕ
last_file_at_piece fs rows w p = found_within rows fs.num_files w (start_of fs p + piece_size fs p - 1)
