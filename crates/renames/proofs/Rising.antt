-- Renames in ascending order: what tables in order read, where a rename more stands, and that it leaves them so. These laws rely
-- on those of proofs/Ordered.antt.
use Prim.Native.Nat.{ℕ, zero, suc, ◌+◌, ◌-◌, ◌*◌, ◌≤◌, ◌<◌}
use mathlib.Core.Path.{◌≡◌}
use mathlib.Core.Bool.{true}
use mathlib.Core.Logic.{⊎_elim}
use mathlib.Core.List.{List, [], ◌∷◌}
use native.Mathlib.Omega.{arith}
use borrow.Author.Tests.{lt-ltb, le-ltb, eq-eqb, ne_eqb}
use lib.ListN.{get_or, drop}
use Rattle.lists.proofs.Orders.{le-or-lt}
use Rattle.renames.specs.Renames.{Renamed, renames_from, ordered_from, with_rename}
use Rattle.renames.proofs.Ordered.{order-first, order-rest}

-- numbers each above the one before it, from `least` on
abbrev pub Rises : ℕ → List Renamed → Type 0
Rises least [] = Unit
Rises least (r ∷ rs) = (least ≤ r.file) × Rises (r.file + 1) rs

-- numbers of 31 bits
abbrev pub Small : List Renamed → Type 0
Small [] = Unit
Small (r ∷ rs) = (r.file ≤ 2147483647) × Small rs

-- tables in order read such a list
pub rises-read : (n i least left : ℕ) (e t : List ℕ) → ordered_from n i least left e ≡ true → Rises least (renames_from n i e t)
unfolding renames_from
rises-read zero i least left e t h = tt
rises-read (suc n) i least left e t h =
    let l = get_or e (i * 4 + 2) 0 in
    ((order-first n i least left e h).0, rises-read n (i + 1) (get_or e (i * 4) 0 + 1) (left - l) e (drop l t) (order-rest n i least left e h))

pub small-read : (n i least left : ℕ) (e t : List ℕ) → ordered_from n i least left e ≡ true → Small (renames_from n i e t)
unfolding renames_from
small-read zero i least left e t h = tt
small-read (suc n) i least left e t h =
    let l = get_or e (i * 4 + 2) 0 in
    ((order-first n i least left e h).1, small-read n (i + 1) (get_or e (i * 4) 0 + 1) (left - l) e (drop l t) (order-rest n i least left e h))

pub rises-weaker : (rs : List Renamed) (least m : ℕ) → m ≤ least → Rises least rs → Rises m rs
rises-weaker [] least m h a = tt
rises-weaker (r ∷ rs) least m h a = (omega (arith, a.0), a.1)

-- a rename stands before the first that is above it, in place of the one with its number, or after the one below it
pub with-before : (r x : Renamed) (xs : List Renamed) → r.file < x.file → with_rename r (x ∷ xs) ≡ r ∷ x ∷ xs
with-before r x xs h = rw (lt-ltb r.file x.file h)

pub with-same : (r x : Renamed) (xs : List Renamed) → r.file ≡ x.file → with_rename r (x ∷ xs) ≡ r ∷ xs
with-same r x xs h = rw (le-ltb r.file x.file (omega arith), eq-eqb r.file x.file h)

pub with-behind : (r x : Renamed) (xs : List Renamed) → x.file < r.file → with_rename r (x ∷ xs) ≡ x ∷ with_rename r xs
with-behind r x xs h = rw (le-ltb r.file x.file (omega arith), ne_eqb r.file x.file (λ q. omega arith))

-- the three cases
pub data Side (a b : ℕ) : Type 0 where
  below : a < b → Side a b
  same : a ≡ b → Side a b
  above : b < a → Side a b

pub side : (a b : ℕ) → Side a b
side a b = ⊎_elim (λ h. ⊎_elim (λ g. same (omega arith)) (λ g. below g) (le-or-lt b a)) (λ h. above h) (le-or-lt a b)

-- and a rename more leaves it so
pub rises-with : (r : Renamed) (rs : List Renamed) (least : ℕ) → least ≤ r.file → Rises least rs → Rises least (with_rename r rs)
rises-with r [] least h a = (h, tt)
rises-with r (x ∷ xs) least h a = step (side r.file x.file) (λ g. rises-with r xs (x.file + 1) g a.1)
  where
    step : Side r.file x.file → (x.file + 1 ≤ r.file → Rises (x.file + 1) (with_rename r xs)) → Rises least (with_rename r (x ∷ xs))
    step (below g) ih = rw (with-before r x xs g) (h, (omega arith, a.1))
    step (same g) ih = rw (with-same r x xs g) (h, rises-weaker xs (x.file + 1) (r.file + 1) (omega arith) a.1)
    step (above g) ih = rw (with-behind r x xs g) (a.0, ih (omega arith))

pub small-with : (r : Renamed) (rs : List Renamed) → r.file ≤ 2147483647 → Small rs → Small (with_rename r rs)
small-with r [] h a = (h, tt)
small-with r (x ∷ xs) h a = step (side r.file x.file) (small-with r xs h a.1)
  where
    step : Side r.file x.file → Small (with_rename r xs) → Small (with_rename r (x ∷ xs))
    step (below g) ih = rw (with-before r x xs g) (h, a)
    step (same g) ih = rw (with-same r x xs g) (h, a.1)
    step (above g) ih = rw (with-behind r x xs g) (a.0, ih)
