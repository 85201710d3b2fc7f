-- Signed numbers at the boundary, as the Rust's signatures have them: `pos n` is n, `negsuc n` is −(n + 1). It
-- relies on the outcomes of Refusals.antt.
use Rattle.std.specs.Prelude.{ℕ, ◌+◌, ◌*◌, ◌/◌, ◌%◌, Bool, true, false, cond, ℤ, pos, negsuc, eqb, ltb}
use Rattle.types.specs.Refusals.{Outcome, value, refused}

abbrev pub is_negative : ℤ → Bool
is_negative (pos n) = false
is_negative (negsuc n) = true

-- the number itself, 0 where it is negative: types.rs, `get` in the release build
abbrev pub clamped_of : ℤ → ℕ
clamped_of (pos n) = n
clamped_of (negsuc n) = 0

-- whether a number is from 0 to count − 1
abbrev pub is_below : ℕ → ℤ → Bool
is_below count (pos n) = ltb n count
is_below count (negsuc n) = false

-- a number from 0 to count − 1, or refusal r
abbrev pub below_or : ℕ → ℕ → ℤ → Outcome ℕ
below_or r count (pos n) = cond (ltb n count) (value n) (refused r)
below_or r count (negsuc n) = refused r

-- a signed number as a word, by zigzag: 0, −1, 1, −2, … are 0, 1, 2, 3, …, so that numbers of 64 bits fill 64 bits
abbrev pub zigzag : ℤ → ℕ
zigzag (pos n) = 2 * n
zigzag (negsuc n) = 2 * n + 1

-- the number of a word
abbrev pub unzigzag : ℕ → ℤ
unzigzag w = cond (eqb (w % 2) 0) (pos (w / 2)) (negsuc (w / 2))
