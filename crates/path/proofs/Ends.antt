-- Laws of a path's two ends: the last byte, which is trimmed where it passes a test, and a part to the end. They
-- rely on the kit's laws of lists.
use Prim.Native.Nat.{ℕ, ◌-◌, ◌≤◌}
use mathlib.Core.Path.{◌≡◌, refl, sym, ap, ◌∙◌}
use mathlib.Core.Bool.{Bool, true, false, cond}
use mathlib.Core.List.{List, [], ◌∷◌, ◌++◌}
use native.Mathlib.Omega.{arith}
use lib.ListN.{length, get_or, take, drop, length-append, length-drop}
use lib.Seq.{take_all, take-length, take-append-le}
use Rattle.lists.specs.Lists.{part_of}
use Rattle.path.specs.Split.{is_separator, is_either, trimmed_from, trimmed}
use Rattle.path.specs.Join.{closed_from, is_closed}

-- a path without its last byte, where that passes a test that 0 fails
cons-cond : (c : ℕ) (b : Bool) (x y : List ℕ) → c ∷ cond b x y ≡ cond b (c ∷ x) (c ∷ y)
cons-cond c true x y = refl
cons-cond c false x y = refl

trimmed-from : (f : ℕ → Bool) (c : ℕ) (t : List ℕ) → trimmed_from f c t ≡ cond (f (get_or (c ∷ t) (length t) 0)) (take (length t) (c ∷ t)) (c ∷ t)
trimmed-from f c [] = refl
trimmed-from f c (d ∷ t) =
    ap (λ (l : List ℕ). c ∷ l) (trimmed-from f d t) ∙ cons-cond c (f (get_or (d ∷ t) (length t) 0)) (take (length t) (d ∷ t)) (d ∷ t)

trimmed-is : (f : ℕ → Bool) → f 0 ≡ false → (p : List ℕ) (k : ℕ) → k ≡ length p - 1 → cond (f (get_or p k 0)) (take k p) p ≡ trimmed f p
trimmed-is f z [] k e = rw z
trimmed-is f z (c ∷ t) k e = let q : k ≡ length t = omega arith in rw q (sym (trimmed-from f c t))

module _ (f : ℕ → Bool) (z : f 0 ≡ false) (p : List ℕ) (k : ℕ) (e : k ≡ length p - 1) where
  pub trim-yes : f (get_or p k 0) ≡ true → take k p ≡ trimmed f p
  trim-yes h = rw h at (trimmed-is f z p k e)

  pub trim-no : f (get_or p k 0) ≡ false → p ≡ trimmed f p
  trim-no h = rw h at (trimmed-is f z p k e)

-- the same of either test, as a last byte is told from the rest
module _ (either : Bool) (p : List ℕ) where
  abbrev test : ℕ → Bool
  test = cond either is_either is_separator

  fails : (b : Bool) → cond b is_either is_separator 0 ≡ false
  fails true = refl
  fails false = refl

  pub last_taken : test (get_or p (length p - 1) 0) ≡ true → take (length p - 1) p ≡ trimmed test p
  last_taken h = trim-yes test (fails either) p (length p - 1) refl h

  pub last_kept : test (get_or p (length p - 1) 0) ≡ false → p ≡ trimmed test p
  last_kept h = trim-no test (fails either) p (length p - 1) refl h

-- what is trimmed stands at a path's end
trimmed-rest-from : (f : ℕ → Bool) (c : ℕ) (t : List ℕ) → (r : List ℕ) × (c ∷ t ≡ trimmed_from f c t ++ r)
trimmed-rest-from f c [] = at (f c)
  where
    at : (b : Bool) → (r : List ℕ) × (c ∷ [] ≡ cond b [] (c ∷ []) ++ r)
    at true = (c ∷ [], refl)
    at false = ([], refl)
trimmed-rest-from f c (d ∷ t) =
    let w = trimmed-rest-from f d t in (w.0, ap (λ (l : List ℕ). c ∷ l) w.1)

pub trimmed-rest : (f : ℕ → Bool) (p : List ℕ) → (r : List ℕ) × (p ≡ trimmed f p ++ r)
trimmed-rest f [] = ([], refl)
trimmed-rest f (c ∷ t) = trimmed-rest-from f c t

-- so the length of what is left says where it ends
pub trimmed_front : (p : List ℕ) → (length (trimmed is_separator p) ≤ length p) × (take (length (trimmed is_separator p)) p ≡ trimmed is_separator p)
trimmed_front p =
    let w = trimmed-rest is_separator p in
    let t = trimmed is_separator p in
    let e : take (length t) (t ++ w.0) ≡ t = take-append-le (length t) t w.0 (omega arith) ∙ take-length t in
    (omega (arith, ap length w.1, length-append t w.0), ap (take (length t)) w.1 ∙ e)

-- the last byte says whether a path is closed
closed-from : (c : ℕ) (t : List ℕ) → is_separator (get_or (c ∷ t) (length t) 0) ≡ closed_from c t
closed-from c [] = refl
closed-from c (d ∷ t) = closed-from d t

pub closed_is : (p : List ℕ) (k : ℕ) → k ≡ length p - 1 → is_separator (get_or p k 0) ≡ is_closed p
closed_is [] k e = refl
closed_is (c ∷ t) k e = let q : k ≡ length t = omega arith in rw q (closed-from c t)

-- a part that is asked for to the end
pub part-rest : (p : List ℕ) (k : ℕ) → part_of p k (length p) ≡ drop k p
part-rest p k = take_all (length p) (drop k p) (omega (arith, length-drop k p))
