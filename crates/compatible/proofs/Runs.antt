-- Laws of two rows of bytes compared run by run: a run of each, of one length, and what follows. They rely on the laws of equality.
use Prim.Native.Nat.{ℕ, suc, ◌-◌, ◌<◌, ◌≤◌}
use native.Mathlib.Omega.{arith}
use lib.ListN.{length, take, drop, get_or}
use lib.Dec.{eqb}
use mathlib.Core.Path.{◌≡◌, refl, sym, ap, ◌∙◌}
use mathlib.Core.Bool.{Bool, true, false, cond, not, ◌&&◌}
use mathlib.Core.List.{List, [], ◌∷◌, ◌++◌, append_assoc}
use Rattle.std.specs.Borrow.{Bor}
use Rattle.std.proofs.lemmas.List.{take_all}
use Rattle.std.specs.List.{list_all}
use Rattle.std.specs.Cmp.Lexicographic.{pointwise}
use Rattle.path.specs.Join.{is_empty}
use Rattle.lists.specs.Lists.{equal}
use Rattle.lists.proofs.Equality.{pointwise-equal, equal-true, equal-false}
use Rattle.compatible.specs.private.Walk.{bytes_of}

-- the order of the two does not matter
pub equal-turned : (a b : List ℕ) → equal a b ≡ equal b a
equal-turned a b = at (equal a b) refl (equal b a) refl
  where
    at : (s : Bool) → equal a b ≡ s → (t : Bool) → equal b a ≡ t → s ≡ t
    at true e true f = refl
    at false e false f = refl
    at true e false f = absurd (equal-false b a f (sym (equal-true a b e)))
    at false e true f = absurd (equal-false a b e (sym (equal-true b a f)))

-- a run of each, and what follows
pub by-run : (p f x z : List ℕ) → length p ≡ length f → equal (p ++ x) (f ++ z) ≡ cond (equal p f) (equal x z) false
by-run [] [] x z h = refl
by-run [] (d ∷ f) x z h = absurd (omega (arith, h))
by-run (c ∷ p) [] x z h = absurd (omega (arith, h))
by-run (c ∷ p) (d ∷ f) x z h = at (eqb c d) (by-run p f x z (omega (arith, h)))
  where
    at : (t : Bool) → equal (p ++ x) (f ++ z) ≡ cond (equal p f) (equal x z) false → cond t (equal (p ++ x) (f ++ z)) false ≡ cond (cond t (equal p f) false) (equal x z) false
    at true e = e
    at false e = refl

-- pieces that are all empty
pub all-empty : (rs : List (Bor (List ℕ))) → list_all (λ (r : Bor (List ℕ)). is_empty r.now) rs ≡ equal [] (bytes_of rs)
all-empty [] = refl
all-empty (r ∷ rs) = at r.now (all-empty rs)
  where
    at : (l : List ℕ) → list_all (λ (s : Bor (List ℕ)). is_empty s.now) rs ≡ equal [] (bytes_of rs)
        → (is_empty l && list_all (λ (s : Bor (List ℕ)). is_empty s.now) rs) ≡ equal [] (l ++ bytes_of rs)
    at [] e = e
    at (x ∷ l) e = refl

flip : (b t : Bool) → not b ≡ t → b ≡ not t
flip true t e = ap not e
flip false t e = ap not e

-- a turn: the piece p is compared with as much of q, of which r is left, and `n` says that they differ; then the pieces behind come
module _ (p q f r x y : List ℕ) (cut : q ≡ f ++ r) (even : length f ≡ length p) (n : Bool) (says : n ≡ not (pointwise eqb p f)) where
  whole : equal (p ++ x) (q ++ y) ≡ cond (equal p f) (equal x (r ++ y)) false
  whole = rw (cut, append_assoc) (by-run p f x (r ++ y) (sym even))

  run-is : (t : Bool) → n ≡ t → equal p f ≡ not t
  run-is t e = sym (pointwise-equal p f) ∙ flip (pointwise eqb p f) t (sym says ∙ e)

  pub turn-same : n ≡ false → equal x (r ++ y) ≡ equal (p ++ x) (q ++ y)
  turn-same e = sym (whole ∙ rw (run-is false e))

  pub turn-differs : n ≡ true → false ≡ equal (p ++ x) (q ++ y)
  turn-differs e = sym (whole ∙ rw (run-is true e))

  pub turned-same : n ≡ false → equal (r ++ y) x ≡ equal (q ++ y) (p ++ x)
  turned-same e = equal-turned (r ++ y) x ∙ turn-same e ∙ equal-turned (p ++ x) (q ++ y)

  pub turned-differs : n ≡ true → false ≡ equal (q ++ y) (p ++ x)
  turned-differs e = turn-differs e ∙ equal-turned (p ++ x) (q ++ y)

-- the first piece of a row and those behind it, and a row with none
pub next-piece : (rs : List (Bor (List ℕ))) (d : Bor (List ℕ)) → 1 ≤ length rs → (get_or rs 0 d).now ++ bytes_of (take (length rs - 1) (drop 1 rs)) ≡ bytes_of rs
next-piece [] d h = absurd (omega (arith, h))
next-piece (r ∷ rs) d h =
    let e : suc (length rs) - 1 ≡ length rs = omega arith in
    rw e (ap (λ (l : List (Bor (List ℕ))). r.now ++ bytes_of l) (take_all (length rs) rs (omega arith)))

pub no-piece : (rs : List (Bor (List ℕ))) → length rs < 1 → bytes_of rs ≡ []
no-piece [] h = refl
no-piece (r ∷ rs) h = absurd (omega (arith, h))

-- bytes that are left of a piece where the other row has none
pub none-left : (x r y : List ℕ) → x ≡ [] → length r ≡ 0 → equal [] y ≡ equal x (r ++ y)
none-left x [] y e h = rw e refl
none-left x (c ∷ r) y e h = absurd (omega (arith, h))

pub some-left : (x r y : List ℕ) → x ≡ [] → 0 < length r → false ≡ equal x (r ++ y)
some-left x [] y e h = absurd (omega (arith, h))
some-left x (c ∷ r) y e h = rw e refl

pub some-behind : (x r y : List ℕ) → x ≡ [] → 0 < length r → false ≡ equal (r ++ y) x
some-behind x r y e h = some-left x r y e h ∙ equal-turned x (r ++ y)
