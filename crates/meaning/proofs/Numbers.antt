-- Laws of pieces and of files laid end to end, on numbers alone. They rely on the laws of sums and of quotients in `lists` and on
-- the kit's.
--     one-file                     a byte is a byte of one file
--     piece_of, quotient-low       the piece of a byte, which is not past the last
--     round_up, size_of            the first piece from a byte on, and the size of a piece
use Prim.Native.Nat.{ℕ, zero, suc, ◌+◌, ◌-◌, ◌*◌, ◌/◌, ◌%◌, ◌≤◌, ◌<◌, min}
use mathlib.Core.Path.{◌≡◌, refl, sym}
use mathlib.Core.Logic.{◌⊎◌, inl, inr}
use mathlib.Core.Bool.{Bool, true, false, cond}
use mathlib.Core.List.{List, [], ◌∷◌}
use native.Mathlib.Nat.{suc-mul, div-lt_iff_lt-mul, div-mul-le_self, lt-div-mul-add, div-add-mod', mod-lt}
use native.Mathlib.Numerals.{add-one}
use native.Mathlib.Omega.{arith}
use borrow.Author.Tests.{eqb-true, eqb-false}
use lib.Dec.{eqb}
use lib.ListN.{length, get_or}
use Rattle.lists.specs.Lists.{sum, ceiling}
use Rattle.lists.proofs.Orders.{le-or-lt}
use Rattle.lists.proofs.Sums.{sum-take-more, sum-take-mono, sum-take-le}
use Rattle.lists.proofs.Quotients.{ceiling-below, ceiling-covers, ceiling-is}
use Rattle.meaning.specs.Layout.{begin_of, end_of, InFile, InPiece}

-- ---- files

-- where a file begins and ends
pub end_is : (xs : List ℕ) (k : ℕ) → end_of xs k ≡ begin_of xs k + get_or xs k 0
end_is xs k = sum-take-more xs k

pub end_low : (xs : List ℕ) (k : ℕ) → end_of xs k ≤ sum xs
end_low xs k = sum-take-le xs (k + 1)

-- no byte is a byte of two files
pub one-file : (xs : List ℕ) (j k t : ℕ) → InFile xs j t → InFile xs k t → j ≡ k
one-file xs j k t a b = at (le-or-lt j k) (le-or-lt k j)
  where
    apart : (i l : ℕ) → i < l → InFile xs i t → InFile xs l t → ⊥
    apart i l h a b = omega (arith, sum-take-mono xs (i + 1) l (omega arith), a.below, b.from)

    at : (j ≤ k) ⊎ (k < j) → (k ≤ j) ⊎ (j < k) → j ≡ k
    at (inl x) (inl y) = omega arith
    at (inl x) (inr y) = absurd (apart j k y a b)
    at (inr x) y = absurd (apart k j x b a)

-- where there is a byte, there is a file
pub some-file : (xs : List ℕ) (t : ℕ) → t < sum xs → 0 < length xs
some-file [] t h = absurd (omega arith)
some-file (x ∷ xs) t h = omega arith

-- ---- pieces

pub next : (p n : ℕ) → (p + 1) * n ≡ p * n + n
next p n = rw (add-one p) (suc-mul p n)

pub piece_of : (n t : ℕ) → 0 < n → InPiece n (t / n) t
piece_of n t h = record { from = div-mul-le_self t n; below = rw (next (t / n) n) (lt-div-mul-add {a = t} {b = n} h) }

pub quotient-low : (n total t : ℕ) → 0 < n → t ≤ total → t / n ≤ ceiling total n
quotient-low n total t h l =
    let c = ceiling-covers total n h in
    let b : t < suc (ceiling total n) * n = rw (suc-mul (ceiling total n) n) (omega arith) in
    let d = (div-lt_iff_lt-mul {k = n} {x = t} {y = suc (ceiling total n)} h).1 b in
    omega arith

-- the first piece that begins at byte b or after it
pub round_up : (n b : ℕ) → 0 < n → cond (eqb (b % n) 0) (b / n) (b / n + 1) ≡ ceiling b n
round_up n b h = at (eqb (b % n) 0) refl
  where
    d : b / n * n + b % n ≡ b
    d = div-add-mod' b n

    m : b % n < n
    m = mod-lt b h

    at : (x : Bool) → eqb (b % n) 0 ≡ x → cond x (b / n) (b / n + 1) ≡ ceiling b n
    at true e = sym (ceiling-is b n h (b / n) (omega (arith, d, eqb-true (b % n) 0 e)) (omega (arith, d, h)))
    at false e =
        let z = eqb-false (b % n) 0 e in
        let k = next (b / n) n in
        sym (ceiling-is b n h (b / n + 1) (rw k (omega (arith, d, m))) (rw k (omega (arith, d, some (b % n) z))))
      where
        some : (i : ℕ) → (i ≡ 0 → ⊥) → 0 < i
        some zero f = absurd (f refl)
        some (suc i) f = omega arith

pub size_of : (n total p : ℕ) → 0 < n → p < ceiling total n → cond (eqb (p + 1) (ceiling total n)) (total - p * n) n ≡ min n (total - p * n)
size_of n total p h l = at (eqb (p + 1) (ceiling total n)) refl
  where
    at : (x : Bool) → eqb (p + 1) (ceiling total n) ≡ x → cond x (total - p * n) n ≡ min n (total - p * n)
    at true e =
        let c : total ≤ p * n + n = rw (← next p n, eqb-true (p + 1) (ceiling total n) e) (ceiling-covers total n h) in
        omega arith
    at false e =
        let z = eqb-false (p + 1) (ceiling total n) e in
        let c : p * n + n < total = rw (next p n) at (ceiling-below total n h (p + 1) (omega arith)) in
        omega arith
