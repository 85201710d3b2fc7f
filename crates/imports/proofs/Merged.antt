-- The merge gives what the import asks: renames in ascending order are told by what they give each file, and for each file the notes
-- hold the last name that the list gives it. These laws rely on those of proofs/Noting.antt and of `renames` (its
-- proofs/Rising.antt).
use Rattle.std.specs.Prelude.{Option, Some, None}
use Prim.Native.Nat.{ℕ, zero, suc, ◌+◌, ◌-◌, ◌≤◌, ◌<◌}
use mathlib.Core.Path.{◌≡◌, refl, sym, ap, ◌∙◌}
use mathlib.Core.Bool.{Bool, true, false, cond, not, true≢false, ◌&&◌}
use mathlib.Core.Logic.{⊎_elim}
use mathlib.Core.List.{List, [], ◌∷◌, ◌++◌}
use native.Mathlib.Nat.{add-zero}
use native.Mathlib.Omega.{arith}
use borrow.Author.Tests.{eq-eqb, ne_eqb, eqb-true, eqb-false}
use lib.Dec.{eqb}
use lib.IntN.{ℤ}
use lib.ListN.{length, get_or, set, drop, replicate, length-replicate}
use lib.Seq.{drop-drop, get_or-drop}
use Rattle.lists.specs.Lists.{part_of}
use Rattle.lists.proofs.Orders.{le-or-lt}
use Rattle.rules.specs.Bounds.{clamped_of, is_below}
use Rattle.renames.specs.declared.rename.RenameMode.TheVariants.{FullPath}
use Rattle.renames.specs.Renames.{Renamed, with_rename}
use Rattle.renames.specs.Finding.{rename_for}
use Rattle.imports.specs.Imports.{Naming, namings, full_path, imported}
use Rattle.imports.specs.private.Importing.{is_of, is_listed, renames_kept, Fresh}
use Rattle.imports.specs.private.Merging.{noted_from, Noted, placed_from, given_at, own_at, left_at, rest_at, merged_from}
use Rattle.renames.proofs.Rising.{Rises, Side, below, same, above, side, rises-weaker, rises-with, with-before, with-same, with-behind}
use Rattle.imports.proofs.Imported.{rises-kept, fresh_kept}
use Rattle.imports.proofs.Noting.{length-cell, zeros-read, cell, cell-none, listed_in}

-- ---- renames in ascending order are told by what they give each file

no-rename : (rs : List Renamed) (a k : ℕ) → Rises a rs → k < a → rename_for k rs ≡ None
no-rename [] a k r h = refl
no-rename (x ∷ xs) a k r h = rw (ne_eqb x.file k (λ e. omega (arith, r.0))) (no-rename xs (x.file + 1) k r.1 (omega (arith, r.0)))

absent-not : (x : Renamed) → None ≡ Some x → ⊥
absent-not x e = let z : ◌≡◌ {A = ℕ} 0 1 = cc in omega arith

own-rename : (x : Renamed) (xs : List Renamed) → rename_for x.file (x ∷ xs) ≡ Some x
own-rename x xs = rw (eq-eqb x.file x.file refl)

pub alike : (xs ys : List Renamed) (a b : ℕ) → Rises a xs → Rises b ys → ((k : ℕ) → rename_for k xs ≡ rename_for k ys) → xs ≡ ys
alike [] [] a b r s h = refl
alike [] (y ∷ ys) a b r s h = absurd (absent-not y (h y.file ∙ own-rename y ys))
alike (x ∷ xs) [] a b r s h = absurd (absent-not x (sym (h x.file) ∙ own-rename x xs))
alike (x ∷ xs) (y ∷ ys) a b r s h = step (side x.file y.file) (alike xs ys (x.file + 1) (y.file + 1) r.1 s.1)
  where
    others : x.file ≡ y.file → (k : ℕ) (c : Bool) → eqb x.file k ≡ c → rename_for k xs ≡ rename_for k ys
    others e k true q =
        let f = eqb-true x.file k q in
        no-rename xs (x.file + 1) k r.1 (omega arith) ∙ sym (no-rename ys (y.file + 1) k s.1 (omega arith))
    others e k false q =
        let n = h k in
        let z : eqb y.file k ≡ false = rw (← e) q in
        rw (q, z) at n

    step : Side x.file y.file → (((k : ℕ) → rename_for k xs ≡ rename_for k ys) → xs ≡ ys) → x ∷ xs ≡ y ∷ ys
    step (below g) ih =
        absurd (absent-not x (sym (no-rename (y ∷ ys) y.file x.file (omega arith, s.1) g) ∙ sym (h x.file) ∙ own-rename x xs))
    step (above g) ih =
        absurd (absent-not y (sym (no-rename (x ∷ xs) x.file y.file (omega arith, r.1) g) ∙ h y.file ∙ own-rename y ys))
    step (same g) ih =
        let n = h x.file in
        let p : Some x ≡ Some y = sym (own-rename x xs) ∙ n ∙ ap (λ (k : ℕ). rename_for k (y ∷ ys)) g ∙ own-rename y ys in
        let q : x ≡ y = cc in
        rw (ih (λ k. others g k (eqb x.file k) refl)) (ap (λ (z : Renamed). z ∷ ys) q)

-- ---- what an import gives a file

module _ (files k : ℕ) where
  -- the last name of the list for file k, or o where there is none
  abbrev given_or : List Naming → Option Renamed → Option Renamed
  given_or [] o = o
  given_or (x ∷ xs) o = given_or xs (cond (is_of files k x.file) (Some (full_path x)) o)

  with-for : (r : Renamed) (rs : List Renamed) → rename_for k (with_rename r rs) ≡ cond (eqb r.file k) (Some r) (rename_for k rs)
  with-for r [] = refl
  with-for r (x ∷ xs) = step (side r.file x.file) (with-for r xs)
    where
      twice : (c d : Bool) (p o : Option Renamed) → c ≡ d → cond c p o ≡ cond c p (cond d (Some x) o)
      twice true d p o e = refl
      twice false true p o e = absurd (true≢false (sym e))
      twice false false p o e = refl

      apart : (c d : Bool) → eqb r.file k ≡ c → eqb x.file k ≡ d → x.file < r.file
          → (o : Option Renamed) → cond d (Some x) (cond c (Some r) o) ≡ cond c (Some r) (cond d (Some x) o)
      apart true true p q g o = absurd (omega (arith, eqb-true r.file k p, eqb-true x.file k q))
      apart true false p q g o = refl
      apart false true p q g o = refl
      apart false false p q g o = refl

      step : Side r.file x.file → rename_for k (with_rename r xs) ≡ cond (eqb r.file k) (Some r) (rename_for k xs)
          → rename_for k (with_rename r (x ∷ xs)) ≡ cond (eqb r.file k) (Some r) (rename_for k (x ∷ xs))
      step (below g) ih = rw (with-before r x xs g)
      step (same g) ih = rw (with-same r x xs g) (twice (eqb r.file k) (eqb x.file k) (Some r) (rename_for k xs) (ap (λ (n : ℕ). eqb n k) g))
      step (above g) ih = rw (with-behind r x xs g, ih) (apart (eqb r.file k) (eqb x.file k) refl refl g (rename_for k xs))

  imported-for : (xs : List Naming) (rs : List Renamed) → rename_for k (imported files xs rs) ≡ given_or xs (rename_for k rs)
  imported-for [] rs = refl
  imported-for (x ∷ xs) rs =
      imported-for xs (cond (is_below files x.file) (with_rename (full_path x) rs) rs) ∙ ap (given_or xs) (at (is_below files x.file))
    where
      at : (b : Bool) → rename_for k (cond b (with_rename (full_path x) rs) rs) ≡ cond (b && eqb (clamped_of x.file) k) (Some (full_path x)) (rename_for k rs)
      at true = with-for (full_path x) rs
      at false = refl

pub rises-imported : (files : ℕ) (xs : List Naming) (rs : List Renamed) → Rises 0 rs → Rises 0 (imported files xs rs)
rises-imported files [] rs a = a
rises-imported files (x ∷ xs) rs a = rises-imported files xs (cond (is_below files x.file) (with_rename (full_path x) rs) rs) (at (is_below files x.file))
  where
    at : (b : Bool) → Rises 0 (cond b (with_rename (full_path x) rs) rs)
    at true = rises-with (full_path x) rs 0 (omega arith) a
    at false = a

-- ---- what the merge gives a file

lower : (x k : ℕ) → k ≤ x → (x ≡ k → ⊥) → k + 1 ≤ x
lower x k h n = ⊎_elim (λ g. g) (λ g. absurd (n (omega arith))) (le-or-lt (k + 1) x)

kept_for : (named : ℕ → Bool) (k : ℕ) (rs : List Renamed) → rename_for k (renames_kept named rs) ≡ cond (named k) None (rename_for k rs)
kept_for named k [] = none (named k)
  where
    none : (b : Bool) → ◌≡◌ {A = Option Renamed} None (cond b None None)
    none true = refl
    none false = refl
kept_for named k (r ∷ rs) = at (named r.file) (eqb r.file k) refl refl (kept_for named k rs)
  where
    at : (b c : Bool) → named r.file ≡ b → eqb r.file k ≡ c → rename_for k (renames_kept named rs) ≡ cond (named k) None (rename_for k rs)
        → rename_for k (cond b (renames_kept named rs) (r ∷ renames_kept named rs)) ≡ cond (named k) None (cond c (Some r) (rename_for k rs))
    at true true p q ih = let n : named k ≡ true = ap named (sym (eqb-true r.file k q)) ∙ p in ih ∙ rw n
    at true false p q ih = ih
    at false true p q ih = let n : named k ≡ false = ap named (sym (eqb-true r.file k q)) ∙ p in rw (q, n)
    at false false p q ih = rw q ih

module _ (files : ℕ) (zs : List ℤ) (given : ℕ → Renamed) (own : (k : ℕ) → (given k).file ≡ k) where
  abbrev named : ℕ → Bool
  named = is_listed files zs

  -- one file
  rest_in : (k : ℕ) (rs : List Renamed) → Rises k rs → Fresh files zs rs → (b : Bool) → named k ≡ b
      → Rises (k + 1) (cond b rs (left_at k rs)) × Fresh files zs (cond b rs (left_at k rs))
  rest_in k [] a f true q = (tt, tt)
  rest_in k [] a f false q = (tt, tt)
  rest_in k (r ∷ rs) a f true q =
      ((lower r.file k a.0 (λ e. true≢false (sym q ∙ ap named (sym e) ∙ f.0)), a.1), f)
  rest_in k (r ∷ rs) a f false q = at (eqb r.file k) refl
    where
      at : (c : Bool) → eqb r.file k ≡ c → Rises (k + 1) (cond c rs (r ∷ rs)) × Fresh files zs (cond c rs (r ∷ rs))
      at true e = (rises-weaker rs (r.file + 1) (k + 1) (omega (arith, eqb-true r.file k e)) a.1, f.1)
      at false e = ((lower r.file k a.0 (eqb-false r.file k e), a.1), f)

  -- the file itself, and any other
  module _ (k : ℕ) (m : List Renamed) where
    step-own : (rs : List Renamed) → Rises k rs → rename_for k m ≡ None → (b : Bool)
        → rename_for k (cond b (given k ∷ []) (own_at k rs) ++ m) ≡ cond b (Some (given k)) (rename_for k rs)
    step-own rs a n true = rw (eq-eqb (given k).file k (own k))
    step-own [] a n false = n
    step-own (r ∷ rs) a n false = at (eqb r.file k) refl
      where
        at : (c : Bool) → eqb r.file k ≡ c → rename_for k (cond c (r ∷ []) [] ++ m) ≡ cond c (Some r) (rename_for k rs)
        at true e = rw e
        at false e = n ∙ sym (no-rename rs (r.file + 1) k a.1 (omega (arith, a.0)))

    step_other : (j : ℕ) → (k ≡ j → ⊥) → (rs : List Renamed) (b : Bool) → rename_for j (cond b (given k ∷ []) (own_at k rs) ++ m) ≡ rename_for j m
    step_other j h rs true = rw (ne_eqb (given k).file j (λ e. h (sym (own k) ∙ e)))
    step_other j h [] false = refl
    step_other j h (r ∷ rs) false = at (eqb r.file k) refl
      where
        at : (c : Bool) → eqb r.file k ≡ c → rename_for j (cond c (r ∷ []) [] ++ m) ≡ rename_for j m
        at true e = rw (ne_eqb r.file j (λ q. h (sym (eqb-true r.file k e) ∙ q)))
        at false e = refl

  rest-other : (k j : ℕ) → (k ≡ j → ⊥) → (rs : List Renamed) (b : Bool) → rename_for j (cond b rs (left_at k rs)) ≡ rename_for j rs
  rest-other k j h rs true = refl
  rest-other k j h [] false = refl
  rest-other k j h (r ∷ rs) false = at (eqb r.file k) refl
    where
      at : (c : Bool) → eqb r.file k ≡ c → rename_for j (cond c rs (r ∷ rs)) ≡ rename_for j (r ∷ rs)
      at true e = rw (ne_eqb r.file j (λ q. h (sym (eqb-true r.file k e) ∙ q)))
      at false e = refl

  -- all files
  abbrev merged : ℕ → ℕ → List Renamed → List Renamed
  merged n k rs = merged_from named given n k rs

  rises-step : (k : ℕ) (rs m : List Renamed) → Rises k rs → Rises (k + 1) m → (b : Bool) → Rises k (cond b (given k ∷ []) (own_at k rs) ++ m)
  rises-step k rs m a h true = (omega (arith, own k), rises-weaker m (k + 1) ((given k).file + 1) (omega (arith, own k)) h)
  rises-step k [] m a h false = rises-weaker m (k + 1) k (omega arith) h
  rises-step k (r ∷ rs) m a h false = at (eqb r.file k) refl
    where
      at : (c : Bool) → eqb r.file k ≡ c → Rises k (cond c (r ∷ []) [] ++ m)
      at true e = (a.0, rises-weaker m (k + 1) (r.file + 1) (omega (arith, eqb-true r.file k e)) h)
      at false e = rises-weaker m (k + 1) k (omega arith) h

  rises-merged : (n k : ℕ) (rs : List Renamed) → Rises k rs → Fresh files zs rs → Rises k (merged_from named given n k rs)
  unfolding merged_from
  rises-merged zero k rs a f = a
  rises-merged (suc n) k rs a f =
      let r = rest_in k rs a f (named k) refl in
      rises-step k rs (merged_from named given n (k + 1) (rest_at named k rs)) a (rises-merged n (k + 1) (rest_at named k rs) r.0 r.1) (named k)

  merged-later : (n k : ℕ) (rs : List Renamed) (j : ℕ) → k + n ≤ j → rename_for j (merged_from named given n k rs) ≡ rename_for j rs
  unfolding merged_from
  merged-later zero k rs j h = refl
  merged-later (suc n) k rs j h =
      let d : k ≡ j → ⊥ = λ e. omega arith in
      step_other k (merged_from named given n (k + 1) (rest_at named k rs)) j d rs (named k)
      ∙ merged-later n (k + 1) (rest_at named k rs) j (omega arith)
      ∙ rest-other k j d rs (named k)

  merged-within : (n k : ℕ) (rs : List Renamed) → Rises k rs → Fresh files zs rs → (j : ℕ) → k ≤ j → j < k + n
      → rename_for j (merged_from named given n k rs) ≡ cond (named j) (Some (given j)) (rename_for j rs)
  unfolding merged_from
  merged-within zero k rs a f j h g = absurd (omega arith)
  merged-within (suc n) k rs a f j h g =
      let r = rest_in k rs a f (named k) refl in
      let m = merged_from named given n (k + 1) (rest_at named k rs) in
      ⊎_elim
      (λ x.
      let d : k ≡ j → ⊥ = λ e. omega arith in
      step_other k m j d rs (named k)
      ∙ merged-within n (k + 1) (rest_at named k rs) r.0 r.1 j x (omega arith)
      ∙ ap (λ (o : Option Renamed). cond (named j) (Some (given j)) o) (rest-other k j d rs (named k)))
      (λ x.
      let q : k ≡ j = omega arith in
      let z = no-rename m (k + 1) k (rises-merged n (k + 1) (rest_at named k rs) r.0 r.1) (omega arith) in
      rw (← q) (step-own k m rs a z (named k)))
      (le-or-lt (k + 1) j)

-- ---- what the notes give a file

module _ (files k : ℕ) (lengths names : List ℕ) (old : Option Renamed) where
  -- as it is read from the notes l and the places p
  abbrev read : List ℕ → List ℕ → Option Renamed
  read l p = cond (eqb (get_or l k 0) 0) old (Some (given_at l p lengths names k))

  module _ (z : ℤ) (i at : ℕ) (l p : List ℕ) (h : files ≤ length l) (g : files ≤ length p) where
    abbrev x : Naming
    x = record { file = z; name = part_of names at (get_or lengths i 0) }

    read_one : (b c : Bool) → is_below files z ≡ b → eqb (clamped_of z) k ≡ c
        → read (cond b (set l (clamped_of z) (i + 1)) l) (cond b (set p (clamped_of z) at) p) ≡ cond (b && c) (Some (full_path x)) (read l p)
    read_one b c q e =
        let u : get_or (cond b (set l (clamped_of z) (i + 1)) l) k 0 ≡ cond (b && c) (i + 1) (get_or l k 0) = cell files k z (i + 1) l h b q ∙ rw e in
        let v : get_or (cond b (set p (clamped_of z) at) p) k 0 ≡ cond (b && c) at (get_or p k 0) = cell files k z at p g b q ∙ rw e in
        rw (u, v) (both b c q e)
      where
        both : (b c : Bool) → is_below files z ≡ b → eqb (clamped_of z) k ≡ c
            → cond (eqb (cond (b && c) (i + 1) (get_or l k 0)) 0) old
            (Some (record { file = k; mode = FullPath; name = part_of names (cond (b && c) at (get_or p k 0)) (get_or lengths (cond (b && c) (i + 1) (get_or l k 0) - 1) 0) }))
            ≡ cond (b && c) (Some (full_path x)) (read l p)
        both true true q e =
            let n : i + 1 - 1 ≡ i = omega arith in
            rw (ne_eqb (i + 1) 0 (λ w. omega arith), n, eqb-true (clamped_of z) k e)
        both true false q e = refl
        both false c q e = refl

  notes-say : (zs : List ℤ) (i at : ℕ) (l p : List ℕ) → length l ≡ files → length p ≡ files
      → read (noted_from i zs l) (placed_from at zs (drop i lengths) p) ≡ given_or files k (namings zs (drop i lengths) (drop at names)) (read l p)
  notes-say [] i at l p h g = refl
  notes-say (z ∷ zs) i at l p h g =
      let f : get_or (drop i lengths) 0 0 ≡ get_or lengths i 0 = get_or-drop i lengths 0 0 ∙ rw (add-zero i) in
      let d : drop 1 (drop i lengths) ≡ drop (i + 1) lengths = drop-drop 1 i lengths in
      let u : drop (get_or lengths i 0) (drop at names) ≡ drop (at + get_or lengths i 0) names = drop-drop (get_or lengths i 0) at names in
      let l' = cond (is_below files z) (set l (clamped_of z) (i + 1)) l in
      let p' = cond (is_below files z) (set p (clamped_of z) at) p in
      let ih = notes-say zs (i + 1) (at + get_or lengths i 0) l' p'
      (length-cell (is_below files z) l (clamped_of z) (i + 1) ∙ h) (length-cell (is_below files z) p (clamped_of z) at ∙ g) in
      rw (h, g, f, d, u) (ih ∙ ap (given_or files k (namings zs (drop (i + 1) lengths) (drop (at + get_or lengths i 0) names))) (read_one z i at l p (omega (arith, h)) (omega (arith, g)) (is_below files z) (eqb (clamped_of z) k) refl refl))

-- ---- the merge is the import

module _ (files : ℕ) (zs : List ℤ) (lengths names l p : List ℕ) (rs : List Renamed) (n : Noted files zs l) (places : p ≡ placed_from 0 zs lengths (replicate files 0)) (up : Rises 0 rs) where
  abbrev lists : ℕ → Bool
  lists = is_listed files zs

  abbrev gives : ℕ → Renamed
  gives = given_at l p lengths names

  abbrev stays : List Renamed
  stays = renames_kept lists rs

  zeros-in : length {A = ℕ} (replicate files 0) ≡ files
  zeros-in = length-replicate {A = ℕ} files 0

  imported-gives : (k : ℕ) → rename_for k (imported files (namings zs lengths names) rs) ≡ cond (lists k) (Some (gives k)) (rename_for k rs)
  imported-gives k =
      let old = rename_for k rs in
      let z : eqb (get_or {A = ℕ} (replicate files 0) k 0) 0 ≡ true = rw (zeros-read files k) in
      let s : read files k lengths names old l p ≡ given_or files k (namings zs lengths names) (read files k lengths names old (replicate files 0) (replicate files 0)) =
      rw (n, places) (notes-say files k lengths names old zs 0 0 (replicate files 0) (replicate files 0) zeros-in zeros-in) in
      let o : read files k lengths names old (replicate files 0) (replicate files 0) ≡ old = rw z in
      let c : read files k lengths names old l p ≡ cond (lists k) (Some (gives k)) old = rw (cell-none files k zs l n) (flip (lists k) old) in
      imported-for files k (namings zs lengths names) rs ∙ ap (given_or files k (namings zs lengths names)) (sym o) ∙ sym s ∙ c
    where
      flip : (b : Bool) (old : Option Renamed) → cond (not b) old (Some (gives k)) ≡ cond b (Some (gives k)) old
      flip true old = refl
      flip false old = refl

  merged-gives : (k : ℕ) → rename_for k (merged_from lists gives files 0 stays) ≡ cond (lists k) (Some (gives k)) (rename_for k rs)
  merged-gives k =
      ⊎_elim
      (λ h. merged-later files zs gives (λ j. refl) files 0 stays k (omega arith) ∙ kept_for lists k rs ∙ past (lists k) refl h)
      (λ h.
      merged-within files zs gives (λ j. refl) files 0 stays (rises-kept files zs rs 0 up) (fresh_kept files zs rs) k (omega arith) (omega arith)
      ∙ ap (λ (o : Option Renamed). cond (lists k) (Some (gives k)) o) (kept_for lists k rs)
      ∙ twice (lists k))
      (le-or-lt files k)
    where
      past : (b : Bool) → lists k ≡ b → files ≤ k → cond b None (rename_for k rs) ≡ cond b (Some (gives k)) (rename_for k rs)
      past true q h = absurd (omega (arith, listed_in files k zs q))
      past false q h = refl

      twice : (b : Bool) → cond b (Some (gives k)) (cond b None (rename_for k rs)) ≡ cond b (Some (gives k)) (rename_for k rs)
      twice true = refl
      twice false = refl

  pub merged-is : merged_from (is_listed files zs) (given_at l p lengths names) files 0 (renames_kept (is_listed files zs) rs) ≡ imported files (namings zs lengths names) rs
  merged-is =
      alike (merged_from lists gives files 0 stays) (imported files (namings zs lengths names) rs) 0 0
      (rises-merged files zs gives (λ j. refl) files 0 stays (rises-kept files zs rs 0 up) (fresh_kept files zs rs))
      (rises-imported files (namings zs lengths names) rs up)
      (λ k. merged-gives k ∙ sym (imported-gives k))
