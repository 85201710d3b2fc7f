-- Deciding before an answer: what a decision says of a number, of a piece length and of the count of pieces. Stated once for
-- every list of rules; they rely on the definitions of specs/Questions.antt.
--     allowed, denied           what the outcome of a number says of it
--     file_number, link_number  the number of the first refusal of a question about a file, or about its link text
--     below-value               what `within` says of a number
--     below-is, index-low       how large that number is
--     over-is, over_good        whether there are more than k pieces, by a product
--     length-good, low-i32      what no refusal says of the piece length, and of a number that an i32 holds
use Prim.Native.Nat.{ℕ, ◌*◌, ◌%◌, ◌^◌, ◌≤◌, ◌<◌}
use mathlib.Core.Path.{◌≡◌, refl, sym}
use mathlib.Core.Bool.{Bool, true, false, cond, true≢false, ◌&&◌}
use mathlib.Core.List.{[], ◌∷◌}
use native.Mathlib.Omega.{arith}
use lib.Dec.{ltb}
use lib.IntN.{ℤ, pos, negsuc}
use mir.Syntax.{w32}
use mir.Val.{SFits}
use borrow.Author.Tests.{lt-ltb, le-ltb, ltb-true, ltb-false}
use Rattle.lists.specs.Lists.{ceiling}
use Rattle.lists.proofs.Quotients.{ceiling-above, ceiling-le}
use Rattle.types.specs.Refusals.{value, refused}
use Rattle.types.specs.Signed.{below_or}
use Rattle.types.proofs.Boundary.{low}
use Rattle.tables.specs.declared.storage.FileStorage.{FileStorage}
use Rattle.rules.specs.Rules.{first_of}
use Rattle.rules.specs.Bounds.{bad_length, is_below, clamped_of}
use Rattle.rules.specs.Questions.{bad_piece_length, no_file, no_link, short, few_entries}
use Rattle.rules.proofs.Rules.{either-false}

-- what the outcome of a number says of it
module _ {A : Type 0} (n : ℕ) (a : A) where
  pub allowed : (b : Bool) (x : A) → value x ≡ cond b (value a) (refused n) → (b ≡ true) × (x ≡ a)
  allowed true x e = (refl, cc)
  allowed false x e = absurd (let z : ◌≡◌ {A = ℕ} 0 1 = cc in omega arith)

  pub denied : (b : Bool) (m : ℕ) → refused m ≡ cond b (value a) (refused n) → (b ≡ false) × (m ≡ n)
  denied true m e = absurd (let z : ◌≡◌ {A = ℕ} 0 1 = cc in omega arith)
  denied false m e = (refl, cc)

-- the number of the first refusal of a question about a file or its link text, 0 for none
abbrev pub file_number : FileStorage → ℤ → Bool → ℕ
file_number fs z held = first_of (bad_piece_length fs ∷ no_file fs z ∷ short (held && few_entries fs) ∷ [])

abbrev pub link_number : FileStorage → ℤ → (ℕ → Bool) → (ℕ → Bool) → Bool → ℕ
link_number fs z there linked held =
    first_of (bad_piece_length fs ∷ no_file fs z ∷ no_link (there (clamped_of z)) (linked (clamped_of z)) ∷ short (held && few_entries fs) ∷ [])

-- ---- what is known once no rule stopped a question

-- a number from 0 to count − 1
module _ (r count : ℕ) where
  pub below-value : (z : ℤ) (k : ℕ) → value k ≡ below_or r count z → (is_below count z ≡ true) × (k ≡ clamped_of z)
  below-value (pos n) k e = allowed r n (ltb n count) k e
  below-value (negsuc n) k e = absurd (let z : ◌≡◌ {A = ℕ} 0 1 = cc in omega arith)

pub below-is : (count : ℕ) (z : ℤ) → is_below count z ≡ true → clamped_of z < count
below-is count (pos n) e = ltb-true n count e
below-is count (negsuc n) e = absurd (true≢false (sym e))

pub index-low : (z : ℤ) → SFits w32 z → clamped_of z < 2147483648
index-low (pos n) f = f.sfits
index-low (negsuc n) f = omega arith

-- more than k pieces, by a product
pub over-is : (t n k : ℕ) → 0 < n → ltb (k * n) t ≡ ltb k (ceiling t n)
over-is t n k p = by (ltb (k * n) t) refl
  where
    by : (b : Bool) → ltb (k * n) t ≡ b → b ≡ ltb k (ceiling t n)
    by true e = sym (lt-ltb k (ceiling t n) (ceiling-above t n p k (ltb-true (k * n) t e)))
    by false e = sym (le-ltb k (ceiling t n) (ceiling-le t n p k (ltb-false (k * n) t e)))

-- a piece length in range
pub length-good : (n : ℕ) → bad_length n ≡ false → (0 < n) × (n ≤ 2147483647)
length-good n e =
    let p = either-false (ltb n 1) (ltb 2147483647 n) e in
    (omega (arith, ltb-false n 1 p.0), ltb-false 2147483647 n p.1)

-- more than k pieces of such a length
pub over_good : (t n k : ℕ) → bad_length n ≡ false → ltb (k * n) t ≡ ltb k (ceiling t n)
over_good t n k e = over-is t n k (length-good n e).0

-- an i32 that is not negative is its own low 31 bits
pub low-i32 : (n : ℕ) → n ≤ 2147483647 → pos (n % 2 ^ 31) ≡ pos n
low-i32 n h = low 31 n (omega arith)
