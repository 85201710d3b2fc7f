-- Document 01, 'Layout answers': values of answers about files' pieces, blocks and trees. It relies on the requests of
-- Request.antt, on the rows of `tables`, on the roots of `answers` and on the number of pieces (`rules`).
use Rattle.std.specs.Prelude.{ℕ, zero, suc, ◌+◌, ◌-◌, ◌*◌, ◌/◌, ◌%◌, ◌^◌, cond, ◌||◌, List, ℤ, pos, negsuc, ◌==◌}
use Rattle.std.specs.Prelude.{nat_lt}
use Rattle.lists.specs.Lists.{ceiling, equal}
use Rattle.tables.specs.declared.storage.FileStorage.{FileStorage}
use Rattle.tables.specs.Rows.{row_at}
use Rattle.answers.specs.Answers.{root_of}
use Rattle.rules.specs.Questions.{num_pieces}
use Rattle.layout.specs.Pieces.{blocks_in}
use Rattle.rules.specs.Results.{Range}
use Rattle.files.specs.Request.{Request, file_start}

-- 'Quotients here go toward zero': (n − 1) / d, where n may be 0: then 0, or −1 at d 1
abbrev pub last_quotient : ℕ → ℕ → ℤ
last_quotient n d = cond (n == 0) (cond (d == 1) (negsuc 0) (pos 0)) (pos ((n - 1) / d))

-- the low 31 bits of a number that is not negative
abbrev pub low31 : ℤ → ℤ
low31 (pos n) = pos (n % 2 ^ 31)
low31 (negsuc n) = negsuc n

-- one more than `last_quotient`
abbrev pub after_quotient : ℕ → ℕ → ℕ
after_quotient n d = cond (n == 0) (cond (d == 1) 0 1) ((n - 1) / d + 1)

-- the first and the last piece that have a byte of file k
abbrev pub first_piece : FileStorage → List ℕ → ℕ → ℕ
first_piece fs rows k = (row_at rows k).offset / fs.piece_length

abbrev pub last_piece : FileStorage → List ℕ → ℕ → ℤ
last_piece fs rows k = last_quotient ((row_at rows k).offset + (row_at rows k).size) fs.piece_length

-- where a request begins in the set's bytes
abbrev pub position_of : FileStorage → Request → ℕ
position_of fs r = r.piece * fs.piece_length + r.start

-- the first piece that begins at the request or after it
abbrev pub exclusive_begin : Request → ℕ
exclusive_begin r = cond (r.start == 0) r.piece (r.piece + 1)

-- 'an end below the begin, or of 2147483648 (negative by the Rust's cast), becomes the begin'
abbrev pub end_or_begin : ℕ → ℕ → ℕ
end_or_begin begin end = cond (nat_lt end begin || end == 2147483648) begin end

-- '(piece × length + start + size + 1) / length as its end'; 'the last file ends at the piece count'
abbrev pub exclusive_end : FileStorage → ℕ → ℕ → Request → ℕ
exclusive_end fs k size r =
    cond (k + 1 == fs.num_files) (num_pieces fs)
    (end_or_begin (exclusive_begin r) ((position_of fs r + size + 1) / fs.piece_length))

-- the pieces that lie wholly in file k; the end in its low 31 bits
abbrev pub exclusive_range : FileStorage → List ℕ → ℕ → Range
exclusive_range fs rows k =
    record {
      begin = pos (exclusive_begin (file_start fs rows k));
      end = pos (exclusive_end fs k (row_at rows k).size (file_start fs rows k) % 2 ^ 31);
    }

-- one more than the last piece that has one of `size` bytes from the request on
abbrev pub inclusive_end : FileStorage → ℕ → Request → ℕ
inclusive_end fs size r = after_quotient (position_of fs r + size) fs.piece_length

-- the pieces that have a byte of file k; the end in its low 31 bits
abbrev pub inclusive_range : FileStorage → List ℕ → ℕ → Range
inclusive_range fs rows k =
    record {
      begin = pos (file_start fs rows k).piece;
      end = pos (inclusive_end fs (row_at rows k).size (file_start fs rows k) % 2 ^ 31);
    }

-- the first of n files from file k on whose root, 32 zeros where it has none, is `root`; −1 where none fits
unfoldable pub root_from : ℕ → ℕ → List ℕ → List ℕ → List ℕ → ℤ
root_from zero k rows roots root = negsuc 0
root_from (suc n) k rows roots root =
    cond (equal (root_of rows roots k) root) (pos k) (root_from n (k + 1) rows roots root)

abbrev pub file_for_root : FileStorage → List ℕ → List ℕ → List ℕ → ℤ
file_for_root fs rows roots root = root_from fs.num_files 0 rows roots root

-- the number of pieces and of blocks of file k
abbrev pub pieces_of : FileStorage → List ℕ → ℕ → ℕ
pieces_of fs rows k = ceiling (row_at rows k).size fs.piece_length

abbrev pub blocks_of : List ℕ → ℕ → ℕ
blocks_of rows k = blocks_in (row_at rows k).size
