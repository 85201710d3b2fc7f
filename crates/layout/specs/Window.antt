-- Document 02 (v): the table of 'the file in which each piece begins', and where a search begins by it. It relies on
-- the rows of `tables` and the count of pieces of `rules`.
--
-- Names from elsewhere: `cond t a b` is a where t is true, else b; `ltb` tests <; `get_or xs k 0` is element k, 0 where
-- there is none; `clamped_of` an integer, 0 where it is negative; `bad_length n` says that n is no piece length.
use Rattle.std.specs.Prelude.{ℕ, ◌+◌, ◌*◌, ◌/◌, ◌<◌, ◌≤◌, min, cond, not, ◌&&◌, List, length, ℤ, nat_lt, slice_index}
use Rattle.tables.specs.declared.storage.FileStorage.{FileStorage}
use Rattle.tables.specs.Rows.{row_at}
use Rattle.rules.specs.Bounds.{clamped_of, max_pieces, bad_length}
use Rattle.rules.specs.Questions.{num_pieces}
use Rattle.layout.specs.declared.window.Window.{Window}

-- 'the file in which each piece begins': file f of n has the byte at which piece p begins
pub record Begins (piece_length : ℕ) (rows : List ℕ) (n p f : ℕ) : Type 0 where
  pub among : f < n
  pub low : (row_at rows f).offset ≤ p * piece_length
  pub high : p * piece_length < (row_at rows f).offset + (row_at rows f).size

-- the table is true: it has that file for each piece that begins within the total
abbrev pub Told : FileStorage → List ℕ → List ℕ → Type 0
Told fs rows firsts =
    (p : ℕ)
    → p * fs.piece_length < fs.total_size
    → Begins fs.piece_length rows fs.num_files p (slice_index firsts p)

-- no files to begin with: a search is over all
abbrev pub no_window : Window
no_window = record { low = 0; high = 0 }

-- 'start the search there': the files that can have a byte of piece p are those from its first one on; they end behind
-- the first file of the next piece, or with the last file
abbrev pub high_of : FileStorage → List ℕ → ℕ → ℕ
high_of fs firsts p = cond (nat_lt (p + 1) (num_pieces fs)) (slice_index firsts (p + 1) + 1) fs.num_files

-- the window of piece p; none where the table has no place for it, or no question can name it
abbrev pub window_at : FileStorage → List ℕ → ℕ → Window
window_at fs firsts p =
    cond (nat_lt p (min (length firsts) max_pieces))
    (record { low = slice_index firsts p; high = high_of fs firsts p }) no_window

-- the window of the byte at an offset from the start of piece z: that of the piece which has the byte. 'A set opened
-- without such a table searches as before'
abbrev pub window_for : FileStorage → List ℕ → ℤ → ℤ → Window
window_for fs firsts z offset =
    cond (fs.indexed && not (bad_length fs.piece_length))
    (window_at fs firsts (clamped_of z + clamped_of offset / fs.piece_length))
    no_window
