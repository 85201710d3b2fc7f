-- The renames that a list of names leads to: those that it does not name, and of each number's names the last. These laws rely on
-- those of `renames` (its proofs/Rising.antt).
use Prim.Native.Nat.{ℕ, ◌+◌, ◌<◌}
use mathlib.Core.Path.{◌≡◌, refl, sym, ap, ◌∙◌}
use mathlib.Core.Bool.{Bool, true, false, cond, not, true≢false, ◌&&◌}
use mathlib.Core.List.{List, [], ◌∷◌, ◌++◌}
use native.Mathlib.Omega.{arith}
use borrow.Author.Tests.{eq-eqb, ne_eqb, eqb-true}
use lib.Dec.{eqb}
use lib.IntN.{ℤ}
use lib.ListN.{length, get_or, take, drop, length-append}
use Rattle.rules.specs.Bounds.{clamped_of, is_below}
use Rattle.renames.specs.Renames.{Renamed, texts_of, with_rename}
use Rattle.imports.specs.Imports.{Naming, namings, full_path, imported}
use Rattle.imports.specs.private.Importing.{is_of, is_listed, renames_kept, renames_given, with_all, Fresh}
use Rattle.renames.proofs.Rising.{Rises, Side, below, same, above, side, rises-weaker, rises-with, with-before, with-same, with-behind}

-- ---- one number more in the list

module _ (files : ℕ) (z : ℤ) (zs : List ℤ) where
  -- a number past the end names no file
  listed-past : (k : ℕ) → is_below files z ≡ false → is_listed files (z ∷ zs) k ≡ is_listed files zs k
  listed-past k h = rw h

  -- nor does it name another file
  both-no : (b : Bool) → (b && false) ≡ false
  both-no true = refl
  both-no false = refl

  listed-other : (k : ℕ) → (clamped_of z ≡ k → ⊥) → is_listed files (z ∷ zs) k ≡ is_listed files zs k
  listed-other k h = rw (ne_eqb (clamped_of z) k h, both-no (is_below files z))

  -- it names its own
  listed-own : (k : ℕ) → is_below files z ≡ true → clamped_of z ≡ k → is_listed files (z ∷ zs) k ≡ true
  listed-own k b h = rw (b, eq-eqb (clamped_of z) k h)

  -- and a repeat names no more
  listed-repeat : (k : ℕ) → is_listed files zs (clamped_of z) ≡ true → is_listed files (z ∷ zs) k ≡ is_listed files zs k
  listed-repeat k h = at (eqb (clamped_of z) k) refl
    where
      yes : (b : Bool) → is_listed files zs k ≡ true → cond (b && true) true (is_listed files zs k) ≡ is_listed files zs k
      yes true e = sym e
      yes false e = refl

      at : (b : Bool) → eqb (clamped_of z) k ≡ b → cond (is_below files z && b) true (is_listed files zs k) ≡ is_listed files zs k
      at true e = yes (is_below files z) (ap (is_listed files zs) (sym (eqb-true (clamped_of z) k e)) ∙ h)
      at false e = rw (both-no (is_below files z))

  -- where none of both is meant, neither is
  unlisted_rest : (k : ℕ) → is_listed files (z ∷ zs) k ≡ false → is_listed files zs k ≡ false
  unlisted_rest k e = at (is_of files k z) e
    where
      at : (b : Bool) → cond b true (is_listed files zs k) ≡ false → is_listed files zs k ≡ false
      at true e = absurd (true≢false e)
      at false e = e

  unlisted-other : (k : ℕ) → is_below files z ≡ true → is_listed files (z ∷ zs) k ≡ false → clamped_of z ≡ k → ⊥
  unlisted-other k b e h = true≢false (sym (listed-own k b h) ∙ e)

-- lists of numbers that name the same
kept-alike : (files : ℕ) (zs ys : List ℤ) (rs : List Renamed) → ((k : ℕ) → is_listed files zs k ≡ is_listed files ys k) → renames_kept (is_listed files zs) rs ≡ renames_kept (is_listed files ys) rs
kept-alike files zs ys [] h = refl
kept-alike files zs ys (r ∷ rs) h = rw (h r.file, kept-alike files zs ys rs h)

kept-none : (files : ℕ) (rs : List Renamed) → renames_kept (is_listed files []) rs ≡ rs
kept-none files [] = refl
kept-none files (r ∷ rs) = ap (λ (x : List Renamed). r ∷ x) (kept-none files rs)

-- ---- the renames that stay are in order too

pub rises-kept : (files : ℕ) (zs : List ℤ) (rs : List Renamed) (least : ℕ) → Rises least rs → Rises least (renames_kept (is_listed files zs) rs)
rises-kept files zs [] least a = tt
rises-kept files zs (r ∷ rs) least a = at (is_listed files zs r.file) (rises-kept files zs rs (r.file + 1) a.1)
  where
    at : (b : Bool) → Rises (r.file + 1) (renames_kept (is_listed files zs) rs) → Rises least (cond b (renames_kept (is_listed files zs) rs) (r ∷ renames_kept (is_listed files zs) rs))
    at true ih = rises-weaker (renames_kept (is_listed files zs) rs) (r.file + 1) least (omega (arith, a.0)) ih
    at false ih = (a.0, ih)

with_first : (r : Renamed) (rs : List Renamed) → Rises (r.file + 1) rs → with_rename r rs ≡ r ∷ rs
with_first r [] a = refl
with_first r (x ∷ xs) a = with-before r x xs (omega (arith, a.0))

-- ---- a rename more, then those that stay

module _ (files : ℕ) (zs : List ℤ) (r : Renamed) where
  -- of a file that the list names: it goes again
  kept-named : is_listed files zs r.file ≡ true → (rs : List Renamed) → renames_kept (is_listed files zs) (with_rename r rs) ≡ renames_kept (is_listed files zs) rs
  kept-named h [] = rw h
  kept-named h (x ∷ xs) = step (side r.file x.file) (kept-named h xs)
    where
      step : Side r.file x.file → renames_kept (is_listed files zs) (with_rename r xs) ≡ renames_kept (is_listed files zs) xs → renames_kept (is_listed files zs) (with_rename r (x ∷ xs)) ≡ renames_kept (is_listed files zs) (x ∷ xs)
      step (below g) ih = rw (with-before r x xs g, h)
      step (same g) ih = rw (with-same r x xs g, h, ← g, h)
      step (above g) ih = rw (with-behind r x xs g, ih)

  -- of a file that the list does not name, but one number more names: it comes to those that stay
  module _ (z : ℤ) (here : is_below files z ≡ true) (own : clamped_of z ≡ r.file) (new : is_listed files zs r.file ≡ false) where
    kept_above : (rs : List Renamed) → Rises (r.file + 1) rs → renames_kept (is_listed files (z ∷ zs)) rs ≡ renames_kept (is_listed files zs) rs
    kept_above [] a = refl
    kept_above (x ∷ xs) a =
        rw (listed-other files z zs x.file (λ q. omega (arith, a.0)), kept_above xs (rises-weaker xs (x.file + 1) (r.file + 1) (omega (arith, a.0)) a.1))

    -- those above the rename's file stand behind it
    kept-first : (rs : List Renamed) → Rises (r.file + 1) rs → r ∷ renames_kept (is_listed files zs) rs ≡ with_rename r (renames_kept (is_listed files (z ∷ zs)) rs)
    kept-first rs a = rw (kept_above rs a) (sym (with_first r (renames_kept (is_listed files zs) rs) (rises-kept files zs rs (r.file + 1) a)))

    kept_new : (rs : List Renamed) (least : ℕ) → Rises least rs → renames_kept (is_listed files zs) (with_rename r rs) ≡ with_rename r (renames_kept (is_listed files (z ∷ zs)) rs)
    kept_new [] least a = rw new
    kept_new (x ∷ xs) least a = step (side r.file x.file) (kept_new xs (x.file + 1) a.1)
      where
        behind : (b : Bool) → x.file < r.file → renames_kept (is_listed files zs) (with_rename r xs) ≡ with_rename r (renames_kept (is_listed files (z ∷ zs)) xs)
            → cond b (renames_kept (is_listed files zs) (with_rename r xs)) (x ∷ renames_kept (is_listed files zs) (with_rename r xs))
            ≡ with_rename r (cond b (renames_kept (is_listed files (z ∷ zs)) xs) (x ∷ renames_kept (is_listed files (z ∷ zs)) xs))
        behind true g ih = ih
        behind false g ih = rw (with-behind r x (renames_kept (is_listed files (z ∷ zs)) xs) g) (ap (λ (l : List Renamed). x ∷ l) ih)

        step : Side r.file x.file → renames_kept (is_listed files zs) (with_rename r xs) ≡ with_rename r (renames_kept (is_listed files (z ∷ zs)) xs)
            → renames_kept (is_listed files zs) (with_rename r (x ∷ xs)) ≡ with_rename r (renames_kept (is_listed files (z ∷ zs)) (x ∷ xs))
        step (below g) ih = rw (with-before r x xs g, new) (kept-first (x ∷ xs) (omega arith, a.1))
        step (same g) ih =
            rw (with-same r x xs g, new, listed-own files z zs x.file here (own ∙ g))
            (kept-first xs (rises-weaker xs (x.file + 1) (r.file + 1) (omega arith) a.1))
        step (above g) ih =
            rw (with-behind r x xs g, listed-other files z zs x.file (λ q. omega arith))
            (behind (is_listed files zs x.file) g ih)

-- ---- `imported` is what the list gives, with what stays

-- one number and its name, in front of a list of which the law is known
module _ (files : ℕ) (z : ℤ) (zs : List ℤ) (lengths t : List ℕ) (rs : List Renamed) where
  abbrev first : Renamed
  first = full_path (record { file = z; name = take (get_or lengths 0 0) t })

  abbrev after : List Renamed
  after = renames_given files zs (drop 1 lengths) (drop (get_or lengths 0 0) t)

  abbrev rest : List Naming
  rest = namings zs (drop 1 lengths) (drop (get_or lengths 0 0) t)

  imported-turn : Rises 0 rs → ((l : List Renamed) → Rises 0 l → imported files rest l ≡ with_all after (renames_kept (is_listed files zs) l))
      → (b c : Bool) → is_below files z ≡ b → is_listed files zs (clamped_of z) ≡ c
      → imported files rest (cond b (with_rename first rs) rs) ≡ with_all (cond (b && not c) (first ∷ after) after) (renames_kept (is_listed files (z ∷ zs)) rs)
  imported-turn a ih true true p q =
      ih (with_rename first rs) (rises-with first rs 0 (omega arith) a)
      ∙ ap (with_all after) (kept-named files zs first q rs ∙ sym (kept-alike files (z ∷ zs) zs rs (λ k. listed-repeat files z zs k q)))
  imported-turn a ih true false p q =
      ih (with_rename first rs) (rises-with first rs 0 (omega arith) a) ∙ ap (with_all after) (kept_new files zs first z p refl q rs 0 a)
  imported-turn a ih false c p q =
      ih rs a ∙ ap (with_all after) (sym (kept-alike files (z ∷ zs) zs rs (λ k. listed-past files z zs k p)))

pub imported-is : (files : ℕ) (zs : List ℤ) (lengths t : List ℕ) (rs : List Renamed) → Rises 0 rs
    → imported files (namings zs lengths t) rs ≡ with_all (renames_given files zs lengths t) (renames_kept (is_listed files zs) rs)
imported-is files [] lengths t rs a = sym (kept-none files rs)
imported-is files (z ∷ zs) lengths t rs a =
    imported-turn files z zs lengths t rs a (λ l b. imported-is files zs (drop 1 lengths) (drop (get_or lengths 0 0) t) l b)
    (is_below files z)
    (is_listed files zs (clamped_of z))
    refl
    refl

-- ---- how many there are

pub fresh_kept : (files : ℕ) (zs : List ℤ) (rs : List Renamed) → Fresh files zs (renames_kept (is_listed files zs) rs)
fresh_kept files zs [] = tt
fresh_kept files zs (r ∷ rs) = at (is_listed files zs r.file) refl (fresh_kept files zs rs)
  where
    at : (b : Bool) → is_listed files zs r.file ≡ b → Fresh files zs (renames_kept (is_listed files zs) rs) → Fresh files zs (cond b (renames_kept (is_listed files zs) rs) (r ∷ renames_kept (is_listed files zs) rs))
    at true q ih = ih
    at false q ih = (q, ih)

pub fresh-rest : (files : ℕ) (z : ℤ) (zs : List ℤ) (rs : List Renamed) → Fresh files (z ∷ zs) rs → Fresh files zs rs
fresh-rest files z zs [] a = tt
fresh-rest files z zs (r ∷ rs) a = (unlisted_rest files z zs r.file a.0, fresh-rest files z zs rs a.1)

pub fresh-with : (files : ℕ) (zs : List ℤ) (r : Renamed) (rs : List Renamed) → is_listed files zs r.file ≡ false → Fresh files zs rs → Fresh files zs (with_rename r rs)
fresh-with files zs r [] h a = (h, tt)
fresh-with files zs r (x ∷ xs) h a = step (side r.file x.file) (fresh-with files zs r xs h a.1)
  where
    step : Side r.file x.file → Fresh files zs (with_rename r xs) → Fresh files zs (with_rename r (x ∷ xs))
    step (below g) ih = rw (with-before r x xs g) (h, a)
    step (same g) ih = rw (with-same r x xs g) (h, a.1)
    step (above g) ih = rw (with-behind r x xs g) (a.0, ih)

-- a rename of a new file: one more, with its text
module _ (files : ℕ) (z : ℤ) (zs : List ℤ) (r : Renamed) (here : is_below files z ≡ true) (own : clamped_of z ≡ r.file) where
  abbrev Longer : List Renamed → Type 0
  Longer rs =
      (length (with_rename r rs) ≡ length rs + 1) × (length (texts_of (with_rename r rs)) ≡ length (texts_of rs) + length r.name)

  pub fresh-longer : (rs : List Renamed) → Fresh files (z ∷ zs) rs → Longer rs
  fresh-longer [] a = (refl, omega (arith, length-append r.name []))
  fresh-longer (x ∷ xs) a = step (side r.file x.file) (fresh-longer xs a.1)
    where
      step : Side r.file x.file → Longer xs → Longer (x ∷ xs)
      step (below g) ih =
          rw (with-before r x xs g) (omega arith, omega (arith, length-append r.name (x.name ++ texts_of xs)))
      step (same g) ih = absurd (unlisted-other files z zs x.file here a.0 (own ∙ g))
      step (above g) ih =
          rw (with-behind r x xs g)
          (omega (arith, ih.0), omega (arith, ih.1, length-append x.name (texts_of (with_rename r xs)), length-append x.name (texts_of xs)))

-- all that come
abbrev Sums : List Renamed → List Renamed → Type 0
Sums xs rs =
    (length (with_all xs rs) ≡ length rs + length xs) × (length (texts_of (with_all xs rs)) ≡ length (texts_of rs) + length (texts_of xs))

module _ (files : ℕ) (z : ℤ) (zs : List ℤ) (r : Renamed) (after rs : List Renamed) (own : clamped_of z ≡ r.file) where
  sums-turn : Fresh files (z ∷ zs) rs → ((l : List Renamed) → Fresh files zs l → Sums after l)
      → (b c : Bool) → is_below files z ≡ b → is_listed files zs r.file ≡ c → Sums (cond (b && not c) (r ∷ after) after) rs
  sums-turn a ih true true p q = ih rs (fresh-rest files z zs rs a)
  sums-turn a ih true false p q =
      let s = ih (with_rename r rs) (fresh-with files zs r rs q (fresh-rest files z zs rs a)) in
      let n = fresh-longer files z zs r p own rs a in
      (omega (arith, s.0, n.0), omega (arith, s.1, n.1, length-append r.name (texts_of after)))
  sums-turn a ih false c p q = ih rs (fresh-rest files z zs rs a)

pub with-given : (files : ℕ) (zs : List ℤ) (lengths t : List ℕ) (rs : List Renamed) → Fresh files zs rs
    → (length (with_all (renames_given files zs lengths t) rs) ≡ length rs + length (renames_given files zs lengths t))
    × (length (texts_of (with_all (renames_given files zs lengths t) rs)) ≡ length (texts_of rs) + length (texts_of (renames_given files zs lengths t)))
with-given files [] lengths t rs a = (omega arith, omega arith)
with-given files (z ∷ zs) lengths t rs a =
    sums-turn files z zs (first files z zs lengths t rs) (after files z zs lengths t rs) rs refl a
    (λ l b. with-given files zs (drop 1 lengths) (drop (get_or lengths 0 0) t) l b)
    (is_below files z)
    (is_listed files zs (clamped_of z))
    refl
    refl
