-- The front of a path in a buffer: bytes written one after another make it up. These laws rely on the kit's laws of
-- lists.
use Prim.Native.Nat.{ℕ, suc, ◌≤◌}
use mathlib.Core.Path.{◌≡◌, refl, sym, ap, ◌∙◌}
use mathlib.Core.List.{List, [], ◌∷◌}
use native.Mathlib.Omega.{arith}
use lib.ListN.{length, get_or, take, drop}
use Rattle.std.specs.Prelude.{Option, Some, None, MatchOption}
use Rattle.std.specs.List.{FoldsTo}
use Rattle.std.specs.Option.{unwrap_or}

-- one byte more of those that are left of a path
pub next_left : (r : Option ℕ) (rest after ys : List ℕ) (x y : ℕ) → MatchOption r ((rest ≡ []) × (after ≡ [])) (λ z. rest ≡ z ∷ after) → x ≡ unwrap_or r 0 → rest ≡ y ∷ ys → (x ≡ y) × (after ≡ ys)
next_left None rest after ys x y m e l = absurd (let z = ap length (sym l ∙ m.0) in omega arith)
next_left (Some z) rest after ys x y m e l = let s : z ∷ after ≡ y ∷ ys = sym m ∙ l in (e ∙ ap (λ (t : List ℕ). get_or t 0 0) s, ap (drop 1) s)

-- what is written by calls that give the items of a list, one after another
module _ {F : Type 0} (steps : F → ℕ → F → Type 0) (left : F → List ℕ)
    (gives : (f h : F) (x y : ℕ) (ys : List ℕ) → steps f x h → left f ≡ y ∷ ys → (x ≡ y) × (left h ≡ ys)) where
  one-on : (xs all : List ℕ) (x : ℕ) (f h last : F) → left f ≡ all → steps f x h → suc (length xs) ≤ length all
      → (length xs ≤ length (left h) → xs ≡ take (length xs) (left h)) → x ∷ xs ≡ take (suc (length xs)) all
  one-on xs [] x f h last e q l r = absurd (omega arith)
  one-on xs (y ∷ ys) x f h last e q l r =
      let g = gives f h x y ys q e in
      rw (g.0, ← g.1) (ap (λ (t : List ℕ). y ∷ t) (r (omega (arith, ap length g.1))))

  pub filled : (xs : List ℕ) (f last : F) → FoldsTo steps f xs last → length xs ≤ length (left f) → xs ≡ take (length xs) (left f)
  filled [] f last k l = refl
  filled (x ∷ xs) f last k l = one-on xs (left f) x f k.0 last refl k.1 (omega arith) (filled xs k.0 last k.2)
