-- Document 01, 'Layout answers': where bytes of a file lie, as `map_file` gives it. It relies on the number of pieces
-- (`rules`).
--
-- Names from elsewhere: `cond t a b` is a where t is true, else b; `nat_le` tests ≤; `a - b` is 0
-- where b is larger. `row_at rows k` is the row of file k, with its offset and size; `num_pieces` is the number of the
-- set's pieces, the last one counted whole.
use Rattle.std.specs.Prelude.{ℕ, ◌+◌, ◌-◌, ◌/◌, ◌%◌, min, cond, List, pos, nat_le}
use Rattle.tables.specs.declared.storage.FileStorage.{FileStorage}
use Rattle.tables.specs.Rows.{row_at}
use Rattle.rules.specs.Questions.{num_pieces}
use Rattle.rules.specs.Results.{SignedRequest}

-- a piece, a start within it, and a length
pub record Request : Type 0 where
  pub piece : ℕ
  pub start : ℕ
  pub length : ℕ

-- the request for `size` bytes from position `at` of the set's bytes on: 'at or past the total it gives the piece
-- count, 0, 0'
abbrev pub request_at : FileStorage → ℕ → ℕ → Request
request_at fs at size =
    cond (nat_le fs.total_size at) (record { piece = num_pieces fs; start = 0; length = 0 })
    (record {
      piece = at / fs.piece_length;
      start = at % fs.piece_length;
      length = min size (fs.total_size - at);
    })

-- `map_file` 'does not stop at the file's end'
abbrev pub map_file : FileStorage → List ℕ → ℕ → ℕ → ℕ → Request
map_file fs rows k offset size = request_at fs ((row_at rows k).offset + offset) size

-- 'what `map_file` gives for place 0 of the file'
abbrev pub file_start : FileStorage → List ℕ → ℕ → Request
file_start fs rows k = map_file fs rows k 0 1

-- a request in signed numbers
abbrev pub as_signed : Request → SignedRequest
as_signed r = record { piece = pos r.piece; start = pos r.start; length = pos r.length }
