-- Laws of tables by their places: `tabled n g` is g 0, …, g (n − 1). They rely on nothing but lists.
use mathlib.Core.Path.{◌≡◌, refl, ap}
use mathlib.Core.List.{List, [], ◌∷◌, ◌++◌}
use Prim.Native.Nat.{ℕ, zero, suc, ◌<◌}
use native.Mathlib.Omega.{arith}
use lib.ListN.{length, get_or}
use Rattle.tables.specs.Model.{tabled}

module _ {A : Type 0} where
  pub length-tabled : (n : ℕ) (g : ℕ → A) → length (tabled n g) ≡ n
  unfolding tabled
  length-tabled zero g = refl
  length-tabled (suc n) g = ap suc (length-tabled n (λ k. g (suc k)))

  pub get_or-tabled : (n : ℕ) (g : ℕ → A) (k : ℕ) (d : A) → k < n → get_or (tabled n g) k d ≡ g k
  unfolding tabled
  get_or-tabled zero g k d h = absurd (omega arith)
  get_or-tabled (suc n) g zero d h = refl
  get_or-tabled (suc n) g (suc k) d h = get_or-tabled n (λ j. g (suc j)) k d (omega arith)

  -- one more place, at the end
  pub tabled-more : (n : ℕ) (g : ℕ → A) → tabled (suc n) g ≡ tabled n g ++ (g n ∷ [])
  unfolding tabled
  tabled-more zero g = refl
  tabled-more (suc n) g = ap (λ (l : List A). g 0 ∷ l) (tabled-more n (λ k. g (suc k)))

  -- the same below n
  pub tabled-same : (n : ℕ) (g h : ℕ → A) → ((k : ℕ) → k < n → g k ≡ h k) → tabled n g ≡ tabled n h
  unfolding tabled
  tabled-same zero g h e = refl
  tabled-same (suc n) g h e = more (e 0 (omega arith)) (tabled-same n (λ k. g (suc k)) (λ k. h (suc k)) (λ k b. e (suc k) (omega arith)))
    where
      more : g 0 ≡ h 0 → tabled n (λ k. g (suc k)) ≡ tabled n (λ k. h (suc k)) → g 0 ∷ tabled n (λ k. g (suc k)) ≡ h 0 ∷ tabled n (λ k. h (suc k))
      more p q = cc
