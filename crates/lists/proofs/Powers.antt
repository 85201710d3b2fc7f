-- Laws of a power of two below 2 ^ 64: one bit of it is set, and the number of its low zero bits is its exponent. They rely
-- on the kit's laws of bits.
use Prim.Native.Nat.{ℕ, zero, suc, ◌/◌, ◌%◌, ◌^◌, ◌<◌, ◌≤◌}
use mathlib.Core.Path.{◌≡◌, refl, sym, ap, ◌∙◌}
use mathlib.Core.Bool.{Bool, true, false}
use native.Mathlib.Omega.{arith}
use native.Mathlib.Nat.{pow-suc}
use borrow.Author.Tests.{eqb-true, eqb-false, eq-eqb, ltb-true, ltb-false}
use lib.Dec.{eqb, ltb}
use lib.Count.{ones_step, ones-le}
use lib.Pow.{pow_pos, pow-lt, pow_mono}
use Rattle.std.specs.Prelude.{Some, IfSome, count_ones}
use Rattle.std.specs.Bool.{then_some}
use Rattle.std.specs.Int.{trailing_zeros, is_power_of_two, w64}
use Rattle.std.proofs.lemmas.Nat.{zero_from_ones}
use Rattle.std.proofs.lemmas.Nat.Bits.{bit_at-trailing_zeros, bit_at-pow_other}

pub zeros_of_power : (k : ℕ) → k < 64 → trailing_zeros w64 (2 ^ k) ≡ k
zeros_of_power k h = pick (eqb (trailing_zeros w64 (2 ^ k)) k) refl
  where
    pick : (b : Bool) → eqb (trailing_zeros w64 (2 ^ k)) k ≡ b → trailing_zeros w64 (2 ^ k) ≡ k
    pick true e = eqb-true (trailing_zeros w64 (2 ^ k)) k e
    pick false e =
        let lowest = bit_at-trailing_zeros w64 (2 ^ k) (pow_pos k) (pow-lt {i = k} {j = 64} h) in
        absurd (let z : ◌≡◌ {A = ℕ} 0 1 = sym (bit_at-pow_other k (trailing_zeros w64 (2 ^ k)) (eqb-false (trailing_zeros w64 (2 ^ k)) k e)) ∙ lowest.1 in omega arith)

-- a number with one bit set is a power of two, and a power has one bit set
one_bit : (m n : ℕ) → n ≤ m → count_ones n ≡ 1 → (k : ℕ) × (n ≡ 2 ^ k)
one_bit zero n h e = absurd (omega (arith, ones-le 0 n (omega arith)))
one_bit (suc m) n h e = pick (n % 2) refl (one_bit m (n / 2) (omega arith))
  where
    pick : (b : ℕ) → n % 2 ≡ b → (count_ones (n / 2) ≡ 1 → (k : ℕ) × (n / 2 ≡ 2 ^ k)) → (k : ℕ) × (n ≡ 2 ^ k)
    pick zero low half = let power = half (omega (arith, ones_step n)) in (suc power.0, omega (arith, power.1, pow-suc 2 power.0))
    pick (suc b) low half = (0, omega (arith, zero_from_ones (n / 2) (omega (arith, ones_step n))))

ones_of_power : (k : ℕ) → count_ones (2 ^ k) ≡ 1
ones_of_power zero = omega (arith, ones_step 1, ones-le 0 0 (omega arith))
ones_of_power (suc k) =
    let half : 2 ^ suc k / 2 ≡ 2 ^ k = omega (arith, pow-suc 2 k) in
    omega (arith, ones_step (2 ^ suc k), pow-suc 2 k, ap count_ones half, ones_of_power k)

module _ (d k : ℕ) (h : k < 64) (e : d ≡ 2 ^ k) where
  pub exponent_is : trailing_zeros w64 d ≡ k
  exponent_is = rw e (zeros_of_power k h)

  pub power_is : is_power_of_two d ≡ true
  power_is = eq-eqb (count_ones d) 1 (rw e (ones_of_power k))

-- what a test of one bit tells: the number is the power of its low zero bits
pub power_from : (d : ℕ) → d < 2 ^ 64 → is_power_of_two d ≡ true → (trailing_zeros w64 d < 64) × (d ≡ 2 ^ trailing_zeros w64 d)
power_from d fits e =
    let power = one_bit d d (omega arith) (eqb-true (count_ones d) 1 e) in
    pick power.0 power.1 (ltb power.0 64) refl
  where
    pick : (k : ℕ) → d ≡ 2 ^ k → (b : Bool) → ltb k 64 ≡ b → (trailing_zeros w64 d < 64) × (d ≡ 2 ^ trailing_zeros w64 d)
    pick k q true below = let zeros = exponent_is d k (ltb-true k 64 below) q in rw zeros (ltb-true k 64 below, q)
    pick k q false past = absurd (omega (arith, q, pow_mono {i = 64} {j = k} (ltb-false k 64 past)))

-- what is handed out where that test holds
pub some-power : (d : ℕ) → d < 2 ^ 64 → IfSome (then_some (is_power_of_two d) (trailing_zeros w64 d)) (λ bits. (bits < 64) × (d ≡ 2 ^ bits))
some-power d fits = pick (is_power_of_two d) refl
  where
    pick : (b : Bool) → is_power_of_two d ≡ b → IfSome (then_some b (trailing_zeros w64 d)) (λ bits. (bits < 64) × (d ≡ 2 ^ bits))
    pick true e = power_from d fits e
    pick false e = search

pub power-some : (d k : ℕ) → k < 64 → d ≡ 2 ^ k → then_some (is_power_of_two d) (trailing_zeros w64 d) ≡ Some k
power-some d k h e = rw (power_is d k h e, exponent_is d k h e) refl
