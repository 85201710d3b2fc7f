-- The tree width by doubling, against BEP 52's words and against the count of leading zeros. Assumes nothing.
--     digits           the digits of the count less one
--     shift            the code's shift is within its bounds
--     width-counted    the width by leading zeros is the width by doubling
--     width-least      the width is the smallest power of two at or above the count
--     from-width       the first node's answer from the width's
use Prim.Native.Nat.{ℕ, zero, suc, ◌+◌, ◌-◌, ◌*◌, ◌^◌, ◌%◌, ◌<◌, ◌≤◌}
use mathlib.Core.Path.{◌≡◌, refl, sym, ap}
use mathlib.Core.Bool.{Bool, true, false, cond}
use native.Mathlib.Nat.{pow-succ', mod-eq_of_lt, one-mul}
use native.Mathlib.Omega.{arith}
use lib.Dec.{leb}
use lib.Pow.{pow_mono, pow-lt}
use lib.Count.{count_leading_zeros, leading_length}
use borrow.Author.Tests.{leb-true, leb-false}
use Rattle.types.specs.Refusals.{value, refused}
use Rattle.merkle.specs.Width.{doubled, width_of, has_tree, num_leafs, first_node}

-- a smaller power has a smaller exponent
pow-above : (i j : ℕ) → 2 ^ i < 2 ^ j → i < j
pow-above i j h = pick (leb (suc i) j) refl
  where
    pick : (b : Bool) → leb (suc i) j ≡ b → i < j
    pick true e = leb-true (suc i) j e
    pick false e = absurd (let q : j < suc i = leb-false (suc i) j e in omega (arith, pow_mono {i = j} {j = i} (omega arith)))

-- from 2 ^ j, doubling ends at 2 ^ m, the first power that is not below n
doubles : (k j m n : ℕ) → j ≤ m → m ≤ j + k → n ≤ 2 ^ m → 2 ^ m < 2 * n → doubled k (2 ^ j) n ≡ 2 ^ m
unfolding doubled
doubles zero j m n a b h l = ap (λ (i : ℕ). 2 ^ i) (omega arith)
doubles (suc k) j m n a b h l = pick (leb n (2 ^ j)) refl (λ p q. doubles k (suc j) m n p q h l)
  where
    pick : (t : Bool) → leb n (2 ^ j) ≡ t → (suc j ≤ m → m ≤ suc j + k → doubled k (2 ^ suc j) n ≡ 2 ^ m) → cond t (2 ^ j) (doubled k (2 * 2 ^ j) n) ≡ 2 ^ m
    pick true e r =
        let f : n ≤ 2 ^ j = leb-true n (2 ^ j) e in
        let i : m < suc j = pow-above m (suc j) (omega (arith, pow-succ' 2 j)) in
        ap (λ (i : ℕ). 2 ^ i) (omega arith)
    pick false e r =
        let f : 2 ^ j < n = leb-false n (2 ^ j) e in
        let i : j < m = pow-above j m (omega arith) in
        rw (← pow-succ' 2 j) (r i (omega arith))

-- w is the smallest power of two that is not below n
pub record Least (n w : ℕ) : Type 0 where
  pub k : ℕ
  pub is : w ≡ 2 ^ k
  pub small : k ≤ 30
  pub above : n ≤ w
  pub least : (j : ℕ) → n ≤ 2 ^ j → w ≤ 2 ^ j

-- the digits of n less one: the exponent of the width
pub record Digits (n : ℕ) : Type 0 where
  pub m : ℕ
  pub zeros : count_leading_zeros 64 (n - 1) + m ≡ 64
  pub small : m ≤ 30
  pub high : n ≤ 2 ^ m
  pub low : 2 ^ m < 2 * n

module _ (n : ℕ) (some : 1 ≤ n) (few : n ≤ 2 ^ 30) where
  pub digits : Digits n
  digits =
      let t = leading_length 64 (n - 1) (omega arith) in
      let s : t.0 < 31 = pow-above t.0 31 (omega (arith, t.3)) in
      record { m = t.0; zeros = t.1; small = omega arith; high = omega (arith, t.2); low = omega (arith, t.3) }

  pub shift : 64 - count_leading_zeros 64 (n - 1) < 64
  shift = omega (arith, digits)

  width_power : width_of n ≡ 2 ^ digits.m
  width_power =
      let d = digits in
      doubles 30 0 d.m n (omega arith) (omega arith) d.high d.low

  pub width-counted : (1 * 2 ^ (64 - count_leading_zeros 64 (n - 1))) % 2 ^ 64 ≡ width_of n
  width-counted =
      let d = digits in
      let e : 64 - count_leading_zeros 64 (n - 1) ≡ d.m = omega arith in
      let l : 2 ^ d.m < 2 ^ 64 = pow-lt {i = d.m} {j = 64} (omega arith) in
      rw (e, one-mul, mod-eq_of_lt l) (sym width_power)

  pub width-least : Least n (width_of n)
  width-least =
      let d = digits in
      rw width_power
      (record {
        k = d.m;
        is = refl;
        small = d.small;
        above = d.high;
        least = λ j h. let i : d.m < suc j = pow-above d.m (suc j) (omega (arith, pow-succ' 2 j)) in pow_mono (omega arith);
      })

-- a count with a tree is not 0 and at most the limit
tree-some : (n : ℕ) → has_tree n ≡ true → (1 ≤ n) × (n ≤ 1073741823)
tree-some n = pick (leb 1 n) refl
  where
    pick : (b : Bool) → leb 1 n ≡ b → cond b (leb n 1073741823) false ≡ true → (1 ≤ n) × (n ≤ 1073741823)
    pick true e t = (leb-true 1 n e, leb-true n 1073741823 t)
    pick false e t = absurd (let z : ◌≡◌ {A = ℕ} 0 1 = cc in omega arith)

pub from-width : (n w : ℕ) → value w ≡ num_leafs n → (1 ≤ w) × (value (w - 1) ≡ first_node n)
from-width n w = pick (has_tree n) refl
  where
    pick : (b : Bool) → has_tree n ≡ b → value w ≡ cond b (value (width_of n)) (refused 16) → (1 ≤ w) × (value (w - 1) ≡ cond b (value (width_of n - 1)) (refused 16))
    pick true t e =
        let s = tree-some n t in
        let l = width-least n s.0 (omega arith) in
        let i : w ≡ width_of n = cc in
        (omega (arith, l.above), ap (λ (v : ℕ). value (v - 1)) i)
    pick false t e = absurd (let z : ◌≡◌ {A = ℕ} 0 1 = cc in omega arith)

-- for the width by leading zeros
pub ruleset by_digits = (shift, width-counted)
