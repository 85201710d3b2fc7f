-- Laws of the tests on lists: `equal` says whether two lists are the same. They rely on the kit's laws of `eqb`.
use mathlib.Core.Path.{◌≡◌, refl, sym, ap, ◌∙◌}
use mathlib.Core.Bool.{Bool, true, false, cond, false≢true, ◌&&◌}
use mathlib.Core.List.{List, [], ◌∷◌}
use Prim.Native.Nat.{ℕ}
use lib.Dec.{eqb}
use lib.ListN.{length, get_or}
use borrow.Author.Tests.{eqb-true, eq-eqb}
use Rattle.std.specs.Cmp.Lexicographic.{pointwise}
use Rattle.lists.specs.Lists.{equal}

-- the library's test of two lists
pub pointwise-equal : (a b : List ℕ) → pointwise eqb a b ≡ equal a b
pointwise-equal [] [] = refl
pointwise-equal [] (y ∷ b) = refl
pointwise-equal (x ∷ a) [] = refl
pointwise-equal (x ∷ a) (y ∷ b) = by (eqb x y) (pointwise-equal a b)
  where
    by : (t : Bool) → pointwise eqb a b ≡ equal a b → (t && pointwise eqb a b) ≡ cond t (equal a b) false
    by true e = e
    by false e = refl

pub equal-refl : (a : List ℕ) → equal a a ≡ true
equal-refl [] = refl
equal-refl (x ∷ a) = rw (eq-eqb x x refl) (equal-refl a)

cons-true : (x y : ℕ) (a b : List ℕ) (t : Bool) → eqb x y ≡ t → cond t (equal a b) false ≡ true → (equal a b ≡ true → a ≡ b) → x ∷ a ≡ y ∷ b
cons-true x y a b true q e f = cc (eqb-true x y q, f e)
cons-true x y a b false q e f = absurd (false≢true e)

pub equal-true : (a b : List ℕ) → equal a b ≡ true → a ≡ b
equal-true [] [] e = refl
equal-true [] (y ∷ b) e = absurd (false≢true e)
equal-true (x ∷ a) [] e = absurd (false≢true e)
equal-true (x ∷ a) (y ∷ b) e = cons-true x y a b (eqb x y) refl e (equal-true a b)

pub equal-false : (a b : List ℕ) → equal a b ≡ false → a ≡ b → ⊥
equal-false a b e q = false≢true (sym (rw q at e) ∙ equal-refl b)

pub equal-length : (a b : List ℕ) → (length a ≡ length b → ⊥) → equal a b ≡ false
equal-length a b h = at (equal a b) refl
  where
    at : (t : Bool) → equal a b ≡ t → t ≡ false
    at true e = absurd (h (ap length (equal-true a b e)))
    at false e = refl

-- lists that are the same, and lists that differ at a place
pub equal-same : (a b : List ℕ) → a ≡ b → equal a b ≡ true
equal-same a b e = rw e (equal-refl b)

pub equal-differs : (a b : List ℕ) (i : ℕ) → (get_or a i 0 ≡ get_or b i 0 → ⊥) → equal a b ≡ false
equal-differs a b i h = at (equal a b) refl
  where
    at : (t : Bool) → equal a b ≡ t → t ≡ false
    at true e = absurd (h (ap (λ (l : List ℕ). get_or l i 0) (equal-true a b e)))
    at false e = refl

-- for a comparison from the back
pub ruleset comparing = (equal-length, equal-same, equal-differs)
