-- Laws of sums of lists of numbers. They rely on the kit's laws of `take` and `drop`.
use mathlib.Core.Path.{◌≡◌, refl, sym, ◌∙◌}
use mathlib.Core.List.{List, [], ◌∷◌, ◌++◌}
use Prim.Native.Nat.{ℕ, zero, suc, ◌+◌, ◌≤◌}
use native.Mathlib.Omega.{arith}
use native.Mathlib.Numerals.{add-one}
use lib.ListN.{get_or, take, drop, take-append-drop}
use lib.Seq.{take-take}
use Rattle.lists.specs.Lists.{sum}

pub sum-append : (xs ys : List ℕ) → sum (xs ++ ys) ≡ sum xs + sum ys
sum-append [] ys = omega arith
sum-append (x ∷ xs) ys = omega (arith, sum-append xs ys)

pub sum-take-drop : (xs : List ℕ) (i : ℕ) → sum (take i xs) + sum (drop i xs) ≡ sum xs
sum-take-drop xs i = sym (sum-append (take i xs) (drop i xs)) ∙ rw (take-append-drop i xs)

-- one element more; past the end it is 0
pub sum-take-more : (xs : List ℕ) (i : ℕ) → sum (take (i + 1) xs) ≡ sum (take i xs) + get_or xs i 0
sum-take-more xs i = rw (add-one i) (more xs i)
  where
    more : (xs : List ℕ) (i : ℕ) → sum (take (suc i) xs) ≡ sum (take i xs) + get_or xs i 0
    more [] zero = refl
    more [] (suc i) = refl
    more (x ∷ xs) zero = omega arith
    more (x ∷ xs) (suc i) = omega (arith, more xs i)

-- the first elements, and more of them
pub sum-take-le : (xs : List ℕ) (i : ℕ) → sum (take i xs) ≤ sum xs
sum-take-le xs i = omega (arith, sum-take-drop xs i)

pub sum-take-mono : (xs : List ℕ) (i j : ℕ) → i ≤ j → sum (take i xs) ≤ sum (take j xs)
sum-take-mono xs i j h = rw (take-take i j xs h) at (sum-take-le (take j xs) i)
