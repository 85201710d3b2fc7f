-- Where a request lies: bounds that keep its numbers below 2 ^ 31 and the sums of both piece ranges within 64 bits, and the request for
-- a file's first byte. They rely on the laws of quotients.
use Rattle.std.proofs.Common.{◌≡◌, ℕ, ◌+◌, ◌-◌, ◌*◌, ◌/◌, ◌%◌, ◌<◌, ◌≤◌, min, Bool, true, false, cond, eqb, leb, List, sym, refl, ap, ◌∙◌, add-zero, mod-lt, mul-le-mul, div-add-mod', div-mul-le_self, arith, leb-false}
use native.Mathlib.Nat.{min-le_left}
use Rattle.lists.proofs.Quotients.{ceiling-above}
use Rattle.tables.specs.Rows.{row_at}
use Rattle.tables.specs.declared.storage.FileStorage.{FileStorage}
use Rattle.rules.specs.Questions.{num_pieces}
use Rattle.files.specs.Request.{Request, request_at, file_start}
use Rattle.files.specs.Files.{position_of, exclusive_begin}
use Rattle.layout.specs.private.Deciding.{FewPieces}

pub record Placed (fs : FileStorage) (at size : ℕ) (r : Request) : Type 0 where
  pub piece : r.piece ≤ 2147483647
  pub begin : exclusive_begin r ≤ 2147483647
  pub start : r.start ≤ 2147483647
  pub length : r.length ≤ size
  pub place : position_of fs r ≤ 2147483647 * 2147483647 + at

-- the begin is the piece or the next, and the next is one of the set's or their number
begin-le : (b : Bool) (p n : ℕ) → p < n → cond b p (p + 1) ≤ n
begin-le true p n h = omega arith
begin-le false p n h = omega arith

-- where the request at a position begins
pub placed : (fs : FileStorage) (at size : ℕ) (r : Request) → FewPieces fs → r ≡ request_at fs at size → Placed fs at size r
placed fs at size r c e = rw e (by (leb fs.total_size at) refl)
  where
    by : (b : Bool) → leb fs.total_size at ≡ b
        → Placed fs at size
        (cond b (record { piece = num_pieces fs; start = 0; length = 0 })
        (record { piece = at / fs.piece_length; start = at % fs.piece_length; length = min size (fs.total_size - at) }))
    by true h =
        let m : num_pieces fs * fs.piece_length ≤ 2147483647 * 2147483647 = mul-le-mul {n₁ = num_pieces fs} {m₁ = fs.piece_length} {n₂ = 2147483647} {m₂ = 2147483647} c.few c.long in
        record { piece = c.few; begin = c.few; start = omega arith; length = omega arith; place = omega arith }
    by false h =
        let q : at / fs.piece_length < num_pieces fs = ceiling-above fs.total_size fs.piece_length c.some (at / fs.piece_length) (omega (arith, leb-false fs.total_size at h, div-mul-le_self at fs.piece_length)) in
        record {
          piece = omega (arith, c.few);
          begin = omega (arith, begin-le (eqb (at % fs.piece_length) 0) (at / fs.piece_length) (num_pieces fs) q, c.few);
          start = omega (arith, mod-lt at c.some, c.long);
          length = min-le_left size (fs.total_size - at);
          place = omega (arith, div-add-mod' at fs.piece_length);
        }

-- the request for the first byte of file k, by the offset that the code reads
pub first-place : (fs : FileStorage) (rows : List ℕ) (k : ℕ) {r : Request} {off : ℕ} → off ≡ (row_at rows k).offset → r ≡ request_at fs off 1 → r ≡ file_start fs rows k
first-place fs rows k eo er = er ∙ ap (λ (n : ℕ). request_at fs n 1) (eo ∙ sym (add-zero (row_at rows k).offset))
