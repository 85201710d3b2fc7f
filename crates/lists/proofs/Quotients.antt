-- Laws of quotients rounded up: `ceiling n d` is the least q with n ≤ q * d; and of a power of two as code makes it. They rely
-- on the kit's laws of division, which has the law of a quotient rounded down by its bounds (`div-eq_of_lt-le`).
use mathlib.Core.Path.{◌≡◌, refl, sym, ap, ◌∙◌}
use Prim.Native.Nat.{ℕ, zero, suc, ◌+◌, ◌-◌, ◌*◌, ◌/◌, ◌%◌, ◌^◌, ◌≤◌, ◌<◌}
use native.Mathlib.Nat.{suc-mul, le_of_suc-le-suc, div-lt_iff_lt-mul, le-div_iff_mul-le, lt-div-mul-add, le_antisymm}
use native.Mathlib.Nat.{add-div_right, mod-eq_of_lt, one-mul}
use native.Mathlib.Omega.{arith}
use lib.Pow.{pow-lt}
use Rattle.lists.specs.Lists.{ceiling}

module _ (n d : ℕ) (p : 0 < d) where
  -- a multiple of d below n, and a number below the quotient
  pub ceiling-above : (i : ℕ) → i * d < n → i < ceiling n d
  ceiling-above i h = (le-div_iff_mul-le p).1 (rw (suc-mul i d) (omega arith))

  pub ceiling-below : (i : ℕ) → i < ceiling n d → i * d < n
  ceiling-below i h = omega (arith, rw (suc-mul i d) at ((le-div_iff_mul-le p).0 h))

  -- it covers n, and no more than needed
  pub ceiling-covers : n ≤ ceiling n d * d
  ceiling-covers = omega (arith, lt-div-mul-add {a = n + (d - 1)} {b = d} p)

  pub ceiling-le : (q : ℕ) → n ≤ q * d → ceiling n d ≤ q
  ceiling-le q h = le_of_suc-le-suc ((div-lt_iff_lt-mul {y = suc q} p).1 (rw (suc-mul q d) (omega arith)))

  -- the only number that does both
  pub ceiling-is : (q : ℕ) → n ≤ q * d → q * d < n + d → ceiling n d ≡ q
  ceiling-is q h k = le_antisymm (ceiling-le q h) ((le-div_iff_mul-le p).1 (omega arith))

pub ceiling-mono : (n m d : ℕ) → 0 < d → n ≤ m → ceiling n d ≤ ceiling m d
ceiling-mono n m d p h = ceiling-le n d p (ceiling m d) (omega (arith, ceiling-covers m d p))

pub ceiling-zero : (d : ℕ) → ceiling 0 d ≡ 0
ceiling-zero zero = refl
ceiling-zero (suc d) = ceiling-is 0 (suc d) (omega arith) 0 (omega arith) (omega arith)

-- n − 1 divided, and one more
pub ceiling-less : (n d : ℕ) → 0 < n → 0 < d → (n - 1) / d + 1 ≡ ceiling n d
ceiling-less n d h k =
    let e : n - 1 + d ≡ n + (d - 1) = omega arith in
    sym (add-div_right (n - 1) k) ∙ ap (λ (m : ℕ). m / d) e

-- one shifted by fewer than 64 places is that power of two
pub one_shifted : (k : ℕ) → k < 64 → 1 * 2 ^ k % 2 ^ 64 ≡ 2 ^ k
one_shifted k h = ap (λ (n : ℕ). n % 2 ^ 64) (one-mul (2 ^ k)) ∙ mod-eq_of_lt (pow-lt h)
