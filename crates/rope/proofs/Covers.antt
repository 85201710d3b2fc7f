-- Laws of a directory and a part of a path: the directory's end is looked at first, and then the bytes before it. They
-- rely on the kit's laws of lists.
use Prim.Native.Nat.{ℕ, ◌≤◌}
use mathlib.Core.Path.{◌≡◌, refl, sym, ◌∙◌}
use mathlib.Core.Bool.{Bool, true, false, cond}
use mathlib.Core.List.{List, [], ◌∷◌}
use native.Mathlib.Omega.{arith}
use lib.Dec.{eqb}
use lib.ListN.{length, take, drop}
use Rattle.lists.specs.Lists.{equal}
use Rattle.lookup.specs.Lookup.{covers}

pub covers-parts : (d p : List ℕ) → length p ≤ length d → covers d p ≡ cond (covers (drop (length p) d) []) (equal (take (length p) d) p) false
covers-parts [] [] h = refl
covers-parts (x ∷ d) [] h = at (eqb x 47)
  where
    at : (b : Bool) → b ≡ cond b true false
    at true = refl
    at false = refl
covers-parts [] (y ∷ p) h = absurd (omega arith)
covers-parts (x ∷ d) (y ∷ p) h = at (eqb x y) (covers (drop (length p) d) []) (covers-parts d p (omega arith))
  where
    at : (b u : Bool) → covers d p ≡ cond u (equal (take (length p) d) p) false → cond b (covers d p) false ≡ cond u (cond b (equal (take (length p) d) p) false) false
    at true u k = k
    at false true k = refl
    at false false k = refl

-- a part of e bytes
module _ (d p : List ℕ) (e : ℕ) (n : length p ≡ e) (h : e ≤ length d) where
  pub covers-on : covers (drop e d) [] ≡ true → equal (take e d) p ≡ covers d p
  covers-on k =
      let q : length p ≤ length d = omega arith in
      sym (covers-parts d p q ∙ rw (n, k))

  pub covers-off : covers (drop e d) [] ≡ false → false ≡ covers d p
  covers-off k =
      let q : length p ≤ length d = omega arith in
      sym (covers-parts d p q ∙ rw (n, k))
