-- Laws of `is_front` and `covers_front`, the tests on the first e bytes of a path: where the path has e bytes, they are
-- tests on those, and where it ends before, both fail. They rely on the laws of `equal` (`lists`), on those of `covers`
-- (`lookup`) and on proofs/Covers.antt.
use Prim.Native.Nat.{ℕ, ◌≤◌, ◌<◌}
use mathlib.Core.Path.{◌≡◌, refl, sym, ◌∙◌}
use mathlib.Core.Bool.{Bool, true, false, ◌&&◌}
use mathlib.Core.List.{List, []}
use mathlib.Core.Logic.{⊎_elim}
use native.Mathlib.Omega.{arith}
use lib.Dec.{eqb}
use lib.ListN.{length, take, drop, length-take}
use lib.Seq.{length-take-le}
use borrow.Author.Tests.{eq-eqb, eqb-true, eqb-false, le-leb, lt-leb}
use Rattle.lists.specs.Lists.{equal}
use Rattle.lists.proofs.Orders.{le-or-lt}
use Rattle.lists.proofs.Equality.{equal-length}
use Rattle.lookup.specs.Lookup.{covers}
use Rattle.lookup.proofs.Paths.{covers_short}
use Rattle.rope.specs.Rope.{is_front, covers_front}
use Rattle.rope.proofs.Covers.{covers-on, covers-off}

-- ---- a list as the first e bytes

module _ (t p : List ℕ) (e : ℕ) where
  -- a list of e bytes, and one of another length
  pub front_long : length t ≡ e → equal t (take e p) ≡ is_front t p e
  front_long h = rw (eq-eqb (length t) e h)

  -- a path that ends before, and one of e bytes
  pub front_short : length p < e → is_front t p e ≡ false
  front_short h = at (eqb (length t) e) refl
    where
      at : (b : Bool) → eqb (length t) e ≡ b → (b && equal t (take e p)) ≡ false
      at true q = equal-length t (take e p) (λ l. omega (arith, l, eqb-true (length t) e q, length-take e p))
      at false q = refl

  pub front_is : e ≤ length p → is_front t p e ≡ equal t (take e p)
  front_is h = at (eqb (length t) e) refl
    where
      at : (b : Bool) → eqb (length t) e ≡ b → (b && equal t (take e p)) ≡ equal t (take e p)
      at true q = refl
      at false q = sym (equal-length t (take e p) (λ l. eqb-false (length t) e q (l ∙ length-take-le e p h)))

-- ---- a directory that covers them

module _ (d p : List ℕ) (e : ℕ) where
  covers-past : length p < e → covers_front d p e ≡ false
  covers-past h = rw (lt-leb e (length p) h)

  pub covers-front : e ≤ length p → covers_front d p e ≡ covers d (take e p)
  covers-front h = rw (le-leb e (length p) h)

  -- a directory of fewer bytes
  pub cover_short : length d < e → false ≡ covers_front d p e
  cover_short l =
      ⊎_elim (λ (h : e ≤ length p). covers_short d (take e p) (omega (arith, length-take-le e p h)) ∙ sym (covers-front h))
      (λ (h : length p < e). sym (covers-past h))
      (le-or-lt e (length p))

  -- one of e bytes or more, by what stands at its place e
  module _ (l : e ≤ length d) where
    pub cover_on : covers (drop e d) [] ≡ true → is_front (take e d) p e ≡ covers_front d p e
    cover_on k =
        ⊎_elim (λ (h : e ≤ length p). front_is (take e d) p e h ∙ covers-on d (take e p) e (length-take-le e p h) l k ∙ sym (covers-front h))
        (λ (h : length p < e). front_short (take e d) p e h ∙ sym (covers-past h))
        (le-or-lt e (length p))

    pub cover_off : covers (drop e d) [] ≡ false → false ≡ covers_front d p e
    cover_off k =
        ⊎_elim (λ (h : e ≤ length p). covers-off d (take e p) e (length-take-le e p h) l k ∙ sym (covers-front h))
        (λ (h : length p < e). sym (covers-past h))
        (le-or-lt e (length p))

-- the cases of a directory held against the first e bytes
pub ruleset covering = (cover_short, cover_on, cover_off)
