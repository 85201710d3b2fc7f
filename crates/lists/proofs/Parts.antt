-- Laws of the parts of a list: `part_of xs at n` is the n elements from position `at` on, or as many of them as there are.
-- They rely on the kit's laws of `take` and `drop`.
use mathlib.Core.Path.{◌≡◌, ap, ◌∙◌}
use mathlib.Core.Logic.{⊎_elim}
use mathlib.Core.List.{List, [], ◌∷◌, ◌++◌}
use Prim.Native.Nat.{ℕ, zero, suc, ◌+◌, ◌-◌, ◌≤◌, min}
use native.Mathlib.Nat.{zero-min, min-zero, suc-min-suc, sub-zero, zero-sub, suc-sub-suc}
use native.Mathlib.Omega.{arith}
use lib.ListN.{length, take, drop, replicate, length-take, length-drop}
use lib.Seq.{take-nil, drop-nil, take_all, take-take, drop-drop, take-append-le, drop-append-le, drop-append-add}
use Rattle.lists.specs.Lists.{part_of}
use Rattle.lists.proofs.Orders.{le-or-lt}

module _ {A : Type 0} where
  -- what lies past the end may be left out of a count
  pub take-clipped : (n : ℕ) (l : List A) → take (min n (length l)) l ≡ take n l
  take-clipped zero l = rw (zero-min (length l))
  take-clipped (suc n) [] = rw (min-zero (suc n))
  take-clipped (suc n) (x ∷ xs) = rw (suc-min-suc n (length xs)) (ap (λ (r : List A). x ∷ r) (take-clipped n xs))

  -- the first elements of two lists in a row, and what is left of them
  pub take-append : (n : ℕ) (a b : List A) → take n (a ++ b) ≡ take n a ++ take (n - length a) b
  take-append n [] b = rw (sub-zero n, take-nil n)
  take-append zero (x ∷ a) b = rw (zero-sub (suc (length a)))
  take-append (suc n) (x ∷ a) b = rw (suc-sub-suc n (length a)) (ap (λ (r : List A). x ∷ r) (take-append n a b))

  pub drop-append : (n : ℕ) (a b : List A) → drop n (a ++ b) ≡ drop n a ++ drop (n - length a) b
  drop-append n [] b = rw (sub-zero n, drop-nil n)
  drop-append zero (x ∷ a) b = rw (zero-sub (suc (length a)))
  drop-append (suc n) (x ∷ a) b = rw (suc-sub-suc n (length a)) (drop-append n a b)

  pub drop-replicate : (n m : ℕ) (a : A) → drop n (replicate m a) ≡ replicate (m - n) a
  drop-replicate zero m a = rw (sub-zero m)
  drop-replicate (suc n) zero a = rw (zero-sub (suc n))
  drop-replicate (suc n) (suc m) a = rw (suc-sub-suc m n) (drop-replicate n m a)

  -- the first elements of the first elements, and what is left of them
  pub take-take-min : (m n : ℕ) (l : List A) → take m (take n l) ≡ take (min m n) l
  take-take-min m n l =
      ⊎_elim (λ h. let e : min m n ≡ m = omega arith in rw (e, take-take m n l h))
      (λ h. let e : min m n ≡ n = omega arith in rw e (take_all m (take n l) (omega (arith, length-take n l))))
      (le-or-lt m n)

  pub drop-take : (i n : ℕ) (l : List A) → drop i (take n l) ≡ take (n - i) (drop i l)
  drop-take zero n l = rw (sub-zero n)
  drop-take (suc i) zero l = rw (zero-sub (suc i))
  drop-take (suc i) (suc n) [] = rw (take-nil (suc n - suc i))
  drop-take (suc i) (suc n) (x ∷ l) = rw (suc-sub-suc n i) (drop-take i n l)

  -- how long a part is
  pub part_length : (l : List A) (at n : ℕ) → length (part_of l at n) ≡ min n (length l - at)
  part_length l at n = length-take n (drop at l) ∙ rw (length-drop at l)

  pub part-length-within : (l : List A) (at n : ℕ) → at + n ≤ length l → length (part_of l at n) ≡ n
  part-length-within l at n h = omega (arith, part_length l at n)

  -- the whole, and a part of a part
  pub part-whole : (l : List A) (n : ℕ) → length l ≤ n → part_of l 0 n ≡ l
  part-whole l n h = take_all n l h

  pub part-part : (l : List A) (at n i m : ℕ) → part_of (part_of l at n) i m ≡ part_of l (at + i) (min m (n - i))
  part-part l at n i m = rw (drop-take i n (drop at l), take-take-min m (n - i) (drop i (drop at l)), drop-drop i at l)

  pub part-part-within : (l : List A) (at n i m : ℕ) → i + m ≤ n → part_of (part_of l at n) i m ≡ part_of l (at + i) m
  part-part-within l at n i m h = let e : min m (n - i) ≡ m = omega arith in part-part l at n i m ∙ rw e

  -- a part of two lists in a row: of both, of the first, of the second
  pub part-append : (a b : List A) (at n : ℕ) → part_of (a ++ b) at n ≡ part_of a at n ++ part_of b (at - length a) (n - (length a - at))
  part-append a b at n = rw (drop-append at a b, take-append n (drop at a) (drop (at - length a) b), length-drop at a)

  pub part-append-first : (a b : List A) (at n : ℕ) → at + n ≤ length a → part_of (a ++ b) at n ≡ part_of a at n
  part-append-first a b at n h =
      rw (drop-append-le at a b (omega arith), take-append-le n (drop at a) b (omega (arith, length-drop at a)))

  pub part-append-second : (a b : List A) (at n : ℕ) → part_of (a ++ b) (length a + at) n ≡ part_of b at n
  part-append-second a b at n = rw (drop-append-add a b at)
