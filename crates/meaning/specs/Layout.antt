-- Document 01, 'Layout answers': what they mean, over files of given sizes that lie end to end (BEP 3) and are cut into
-- pieces of one length, n. Nothing here speaks of the set's tables. Of the port it relies on the records of the answers
-- (`Outcome` of `types`, `Range` and `SignedRequest` of `rules`) and on `sum` and `ceiling` of `lists`.
--
-- Names from elsewhere: `cond t a b` is a where t is true, else b; `eqb` and `ltb` test = and <; `a - b` is 0 where b
-- is larger. `sum` adds a list up, `take k` is the first k elements, `get_or xs k 0` is element k; `ceiling a b` is a /
-- b rounded up. The integer n is `pos n`, and −(n + 1) is `negsuc n`; `value a` is an answer, `refused k` a refusal by
-- number k.
use Rattle.std.specs.Prelude.{ℕ, ◌+◌, ◌-◌, ◌*◌, ◌/◌, ◌%◌, ◌≤◌, ◌<◌, min, ◌≡◌, Bool, cond, not, ◌&&◌, ◌||◌, List, eqb}
use Rattle.std.specs.Prelude.{ltb, ℤ, pos, negsuc, length, get_or, take}
use Rattle.lists.specs.Lists.{sum, ceiling}
use Rattle.types.specs.Refusals.{Outcome, value, refused}
use Rattle.rules.specs.Results.{Range, SignedRequest}

-- ---- files, pieces and bytes

-- 'Its offset is the sum of the sizes before it'; it ends where the next file begins
abbrev pub begin_of : List ℕ → ℕ → ℕ
begin_of sizes k = sum (take k sizes)

abbrev pub end_of : List ℕ → ℕ → ℕ
end_of sizes k = sum (take (k + 1) sizes)

-- byte t is a byte of file k; an empty file has none
pub record InFile (sizes : List ℕ) (k t : ℕ) : Type 0 where
  pub from : begin_of sizes k ≤ t
  pub below : t < end_of sizes k

-- byte t is a byte of piece p
pub record InPiece (n p t : ℕ) : Type 0 where
  pub from : p * n ≤ t
  pub below : t < (p + 1) * n

-- the number of pieces, of which the last may be shorter, and the bytes of piece p
abbrev pub pieces_of : ℕ → List ℕ → ℕ
pieces_of n sizes = ceiling (sum sizes) n

abbrev pub bytes_of_piece : ℕ → List ℕ → ℕ → ℕ
bytes_of_piece n sizes p = min n (sum sizes - p * n)

-- ---- all files and all pieces: `num_pieces`, `last_piece`, `piece_range`, `file_range`

-- a range of numbers, its end not included
abbrev pub range : ℕ → ℕ → Range
range b e = record { begin = pos b; end = pos e }

-- one less than a count, −1 for 0
abbrev pub last_of : ℕ → ℤ
last_of count = cond (eqb count 0) (negsuc 0) (pos (count - 1))

-- ---- the file at a byte: `file_index_at_offset`, and both files at a piece

-- the answer r is the file that has byte t, so no empty one, and the last that begins there or before
pub record FileAt (sizes : List ℕ) (t : ℕ) (r : Outcome ℤ) : Type 0 where
  pub file : ℕ
  pub answer : r ≡ value (pos file)
  pub among : file < length sizes
  pub holds : InFile sizes file t
  pub last : (k : ℕ) → file < k → k < length sizes → t < begin_of sizes k

-- the last byte of piece p
abbrev pub last_byte : ℕ → List ℕ → ℕ → ℕ
last_byte n sizes p = p * n + bytes_of_piece n sizes p - 1

-- ---- the piece at a byte: the first and the last piece of a file

pub record PieceAt (n t : ℕ) (r : Outcome ℤ) : Type 0 where
  pub piece : ℕ
  pub answer : r ≡ value (pos piece)
  pub holds : InPiece n piece t

-- the last piece of a file that ends at e, (e − 1) / n: 'Quotients here go toward zero', so it 'of an empty file at 0
-- is 0, or −1 at piece length 1'
abbrev pub last_piece : ℕ → ℕ → ℤ
last_piece n e = cond (eqb e 0) (cond (eqb n 1) (negsuc 0) (pos 0)) (pos ((e - 1) / n))

-- ---- the size of a piece: `piece_size` is `bytes_of_piece`

-- `piece_size2`: as many bytes of piece p as are bytes of the file that has its first
pub record PieceSize2 (n : ℕ) (sizes : List ℕ) (p : ℕ) (r : Outcome ℤ) : Type 0 where
  pub file : ℕ
  pub holds : InFile sizes file (p * n)
  pub answer : r ≡ value (pos (min n (end_of sizes file - p * n)))

-- ---- `map_file`

-- m bytes from byte t on: the piece of byte t, its place there, and as many of them as there are: 'does not stop at the
-- file's end; at or past the total it gives the piece count, 0, 0'
abbrev pub request_at : ℕ → List ℕ → ℕ → ℕ → SignedRequest
request_at n sizes t m =
    cond (ltb t (sum sizes))
    (record { piece = pos (t / n); start = pos (t % n); length = pos (min m (sum sizes - t)) })
    (record { piece = pos (pieces_of n sizes); start = pos 0; length = pos 0 })

-- ---- the pieces of a file

-- some byte of file k is one of piece p
pub record Shares (n : ℕ) (sizes : List ℕ) (k p : ℕ) : Type 0 where
  pub byte : ℕ
  pub file : InFile sizes k byte
  pub piece : InPiece n p byte

-- `file_piece_range_inclusive`: the pieces that have a byte of file k, and no others
pub record Inclusive (n : ℕ) (sizes : List ℕ) (k : ℕ) (r : Outcome Range) : Type 0 where
  pub begin : ℕ
  pub end : ℕ
  pub answer : r ≡ value (range begin end)
  pub each : (p : ℕ) → begin ≤ p → p < end → Shares n sizes k p
  pub only : (p : ℕ) → Shares n sizes k p → (begin ≤ p) × (p < end)

-- 'piece × length + start …, piece and start being what `map_file` gives for place 0 of the file': where the file
-- begins; 'at or past the total it gives the piece count, 0, 0'
abbrev pub mapped_start : ℕ → List ℕ → ℕ → ℕ
mapped_start n sizes k = cond (ltb (begin_of sizes k) (sum sizes)) (begin_of sizes k) (pieces_of n sizes * n)

-- the inclusive range of an empty file too: its begin, and its end
abbrev pub inclusive_begin : ℕ → List ℕ → ℕ → ℕ
inclusive_begin n sizes k = mapped_start n sizes k / n

abbrev pub piece_after : ℕ → ℕ → ℕ
piece_after n e = cond (eqb e 0) (cond (eqb n 1) 0 1) ((e - 1) / n + 1)

abbrev pub inclusive_end : ℕ → List ℕ → ℕ → ℕ
inclusive_end n sizes k = piece_after n (mapped_start n sizes k + get_or sizes k 0)

-- `file_piece_range_exclusive`: it begins with the first piece that begins there or after it
abbrev pub exclusive_begin : ℕ → List ℕ → ℕ → ℕ
exclusive_begin n sizes k = ceiling (mapped_start n sizes k) n

-- 'an end below the begin, or of 2147483648 (negative by the Rust's cast), becomes the begin'
abbrev pub end_or_begin : ℕ → ℕ → ℕ
end_or_begin begin end = cond (ltb end begin || eqb end 2147483648) begin end

-- '(piece × length + start + size + 1) / length as its end …; the last file ends at the piece count'
abbrev pub exclusive_end : ℕ → List ℕ → ℕ → ℕ
exclusive_end n sizes k =
    cond (eqb (k + 1) (length sizes)) (pieces_of n sizes)
    (end_or_begin (exclusive_begin n sizes k) ((mapped_start n sizes k + get_or sizes k 0 + 1) / n))

-- ---- the pieces of a file's tree: `file_num_pieces`, `file_piece_range`

-- 16: 'for a nonempty pad or a nonempty file off a piece start'
abbrev pub is_tree : ℕ → List ℕ → ℕ → Bool → Bool
is_tree n sizes k marked = eqb (get_or sizes k 0) 0 || (not marked && eqb (begin_of sizes k % n) 0)

abbrev pub tree_answer : {A : Type 0} → Bool → A → Outcome A
tree_answer tree a = cond tree (value a) (refused 16)

-- as many pieces as file k has, where it starts on one
abbrev pub tree_pieces : ℕ → List ℕ → ℕ → ℕ
tree_pieces n sizes k = ceiling (get_or sizes k 0) n
