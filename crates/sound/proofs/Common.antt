-- Small laws that several proofs here use: sums by places, and sums of tables. They rely on the laws of `lists` and `tables`.
use mathlib.Core.Path.{◌≡◌, refl, ap, ◌∙◌}
use mathlib.Core.List.{List, [], ◌∷◌, ◌++◌, map, map-append}
use Prim.Native.Nat.{ℕ, zero, suc, ◌+◌, ◌<◌}
use native.Mathlib.Omega.{arith}
use Rattle.lists.specs.Lists.{sum}
use Rattle.lists.proofs.Sums.{sum-append}
use Rattle.tables.specs.Model.{tabled}
use Rattle.tables.proofs.Tabled.{tabled-more}
use Rattle.sound.specs.Sound.{sum_to}

pub sum_same : (n : ℕ) (v w : ℕ → ℕ) → ((k : ℕ) → k < n → v k ≡ w k) → sum_to n v ≡ sum_to n w
unfolding sum_to
sum_same zero v w e = refl
sum_same (suc n) v w e = omega (arith, sum_same n v w (λ k h. e k (omega arith)), e n (omega arith))

pub sum_more : (n : ℕ) (w : ℕ → ℕ) → sum_to (n + 1) w ≡ sum_to n w + w n
unfolding sum_to
sum_more n w = let e : n + 1 ≡ suc n = omega arith in rw e

pub sum-map-append : {A : Type 0} (f : A → ℕ) (xs ys : List A) → sum (map f (xs ++ ys)) ≡ sum (map f xs) + sum (map f ys)
sum-map-append f xs ys = ap sum (map-append f xs ys) ∙ sum-append (map f xs) (map f ys)

-- the sum over a table
pub sum-tabled : {A : Type 0} (f : A → ℕ) (n : ℕ) (g : ℕ → A) → sum (map f (tabled n g)) ≡ sum_to n (λ k. f (g k))
unfolding sum_to tabled
sum-tabled f zero g = refl
sum-tabled f (suc n) g =
    ap (λ l. sum (map f l)) (tabled-more n g)
    ∙ sum-map-append f (tabled n g) (g n ∷ [])
    ∙ omega (arith, sum-tabled f n g)
