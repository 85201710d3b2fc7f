-- Laws of the notes of a list: what a file's cell holds, and that it tells whether the list names the file and whether a number
-- counts. They rely on the kit's laws of `set`.
use Prim.Native.Nat.{ℕ, zero, suc, ◌+◌, ◌≤◌, ◌<◌}
use mathlib.Core.Path.{◌≡◌, refl, sym, subst, ap, ◌∙◌, fun_ext}
use mathlib.Core.Bool.{Bool, true, false, cond, not, true≢false, ◌&&◌}
use mathlib.Core.List.{List, [], ◌∷◌}
use native.Mathlib.Nat.{add-zero}
use native.Mathlib.Omega.{arith}
use native.Mathlib.Numerals.{add-one}
use borrow.Author.Tests.{eq-eqb, ne_eqb, eqb-true, eqb-false, leb-true}
use Rattle.std.proofs.Common.{min}
use Rattle.std.proofs.lemmas.List.{take-replicate}
use lib.Dec.{eqb, leb}
use lib.IntN.{ℤ, pos}
use lib.ListN.{length, get_or, set, take, drop, replicate, length-set, length-replicate}
use lib.Seq.{drop-cons, drop-drop, get_or-drop, get_or-set_same, get_or-set_other}
use Rattle.rules.specs.Bounds.{clamped_of, is_below}
use Rattle.tables.specs.declared.storage.FileStorage.{FileStorage}
use Rattle.rules.specs.Questions.{few_entries}
use Rattle.rules.proofs.Rules.{both_true}
use Rattle.rules.proofs.Deciding.{below-is}
use Rattle.imports.specs.private.Importing.{is_of, is_listed}
use Rattle.imports.specs.private.Merging.{noted_from, Noted, placed_from, is_noted}

pub length-cell : (b : Bool) (l : List ℕ) (j v : ℕ) → length (cond b (set l j v) l) ≡ length l
length-cell true l j v = length-set l j v
length-cell false l j v = refl

pub zeros-read : (n k : ℕ) → get_or {A = ℕ} (replicate n 0) k 0 ≡ 0
zeros-read zero k = refl
zeros-read (suc n) zero = refl
zeros-read (suc n) (suc k) = zeros-read n k

module _ (files k : ℕ) where
  -- a number written down: the file's cell changes if it names the file
  module _ (z : ℤ) (v : ℕ) (l : List ℕ) (h : files ≤ length l) where
    cell_in : is_below files z ≡ true → (c : Bool) → eqb (clamped_of z) k ≡ c → get_or (set l (clamped_of z) v) k 0 ≡ cond c v (get_or l k 0)
    cell_in b true q =
        let e = eqb-true (clamped_of z) k q in
        rw e (get_or-set_same l k v 0 (omega (arith, below-is files z b, e)))
    cell_in b false q = get_or-set_other l (clamped_of z) k v 0 (λ e. eqb-false (clamped_of z) k q (sym e))

    pub cell : (b : Bool) → is_below files z ≡ b → get_or (cond b (set l (clamped_of z) v) l) k 0 ≡ cond (b && eqb (clamped_of z) k) v (get_or l k 0)
    cell true b = cell_in b (eqb (clamped_of z) k) refl
    cell false b = refl

  -- what the cell holds after the numbers zs, the first of which is number i, if it held d
  abbrev last_at : ℕ → List ℤ → ℕ → ℕ
  last_at i [] d = d
  last_at i (z ∷ zs) d = last_at (i + 1) zs (cond (is_of files k z) (i + 1) d)

  note-read : (zs : List ℤ) (i : ℕ) (l : List ℕ) → length l ≡ files → get_or (noted_from i zs l) k 0 ≡ last_at i zs (get_or l k 0)
  note-read [] i l h = refl
  note-read (z ∷ zs) i l h =
      let m = cond (is_below files z) (set l (clamped_of z) (i + 1)) l in
      rw h
      (note-read zs (i + 1) m (length-cell (is_below files z) l (clamped_of z) (i + 1) ∙ h)
      ∙ ap (last_at (i + 1) zs) (cell z (i + 1) l (omega (arith, h)) (is_below files z) refl))

  -- the list names the file, or not
  last-unlisted : (zs : List ℤ) (i d : ℕ) → is_listed files zs k ≡ false → last_at i zs d ≡ d
  last-unlisted [] i d h = refl
  last-unlisted (z ∷ zs) i d h = at (is_of files k z) h (last-unlisted zs (i + 1) d)
    where
      at : (b : Bool) → cond b true (is_listed files zs k) ≡ false → (is_listed files zs k ≡ false → last_at (i + 1) zs d ≡ d)
          → last_at (i + 1) zs (cond b (i + 1) d) ≡ d
      at true e ih = absurd (true≢false e)
      at false e ih = ih e

  last-listed : (zs : List ℤ) (i d : ℕ) → is_listed files zs k ≡ true → i < last_at i zs d
  last-listed [] i d h = absurd (true≢false (sym h))
  last-listed (z ∷ zs) i d h =
      at (is_of files k z) (is_listed files zs k) refl h (last-listed zs (i + 1)) (last-unlisted zs (i + 1))
    where
      at : (b c : Bool) → is_listed files zs k ≡ c → cond b true c ≡ true
          → ((d : ℕ) → is_listed files zs k ≡ true → i + 1 < last_at (i + 1) zs d)
          → ((d : ℕ) → is_listed files zs k ≡ false → last_at (i + 1) zs d ≡ d)
          → i < last_at (i + 1) zs (cond b (i + 1) d)
      at true true q e more none = omega (arith, more (i + 1) q)
      at true false q e more none = omega (arith, none (i + 1) q)
      at false true q e more none = omega (arith, more d q)
      at false false q e more none = absurd (true≢false (sym e))

  pub listed_in : (zs : List ℤ) → is_listed files zs k ≡ true → k < files
  listed_in [] h = absurd (true≢false (sym h))
  listed_in (z ∷ zs) h = at (is_below files z) (eqb (clamped_of z) k) refl refl h (listed_in zs)
    where
      at : (b c : Bool) → is_below files z ≡ b → eqb (clamped_of z) k ≡ c → cond (b && c) true (is_listed files zs k) ≡ true
          → (is_listed files zs k ≡ true → k < files) → k < files
      at true true p q e ih = omega (arith, below-is files z p, eqb-true (clamped_of z) k q)
      at true false p q e ih = ih e
      at false c p q e ih = ih e

  -- the numbers after one that names the file decide
  last-split : (zs : List ℤ) (j i d : ℕ) → i < length zs → is_of files k (get_or zs i (pos 0)) ≡ true
      → last_at j zs d ≡ last_at (j + suc i) (drop (suc i) zs) (j + suc i)
  last-split [] j i d h q = absurd (omega arith)
  last-split (z ∷ zs) j zero d h q = rw q
  last-split (z ∷ zs) j (suc i) d h q =
      let e : j + 1 + suc i ≡ j + suc (suc i) = omega arith in
      let ih = last-split zs (j + 1) i (cond (is_of files k z) (j + 1) d) (omega arith) q in
      rw e at ih

  module _ (zs : List ℤ) (l : List ℕ) (n : Noted files zs l) where
    cell-is : get_or l k 0 ≡ last_at 0 zs 0
    cell-is =
        ap (λ (x : List ℕ). get_or x k 0) n
        ∙ note-read zs 0 (replicate files 0) (length-replicate {A = ℕ} files 0)
        ∙ ap (last_at 0 zs) (zeros-read files k)

    pub cell-none : eqb (get_or l k 0) 0 ≡ not (is_listed files zs k)
    cell-none = rw cell-is (at (is_listed files zs k) refl)
      where
        at : (b : Bool) → is_listed files zs k ≡ b → eqb (last_at 0 zs 0) 0 ≡ not b
        at true q = ne_eqb (last_at 0 zs 0) 0 (λ e. omega (arith, last-listed zs 0 0 q, e))
        at false q = eq-eqb (last_at 0 zs 0) 0 (last-unlisted zs 0 0 q)

    pub noted-is : is_noted l k ≡ is_listed files zs k
    noted-is = rw cell-none (not-not (is_listed files zs k))
      where
        not-not : (b : Bool) → not (not b) ≡ b
        not-not true = refl
        not-not false = refl

    -- number i names the file: it counts where it is the one that is noted
    pub last-is : (i : ℕ) → i < length zs → is_of files k (get_or zs i (pos 0)) ≡ true → eqb (get_or l k 0) (i + 1) ≡ not (is_listed files (drop (i + 1) zs) k)
    last-is i h q =
        let e : last_at 0 zs 0 ≡ last_at (0 + suc i) (drop (suc i) zs) (0 + suc i) = last-split zs 0 i 0 h q in
        let s : 0 + suc i ≡ suc i = omega arith in
        rw (add-one i, cell-is, e, s) (at (is_listed files (drop (suc i) zs) k) refl)
      where
        at : (b : Bool) → is_listed files (drop (suc i) zs) k ≡ b → eqb (last_at (suc i) (drop (suc i) zs) (suc i)) (suc i) ≡ not b
        at true q = ne_eqb _ (suc i) (λ e. omega (arith, last-listed (drop (suc i) zs) (suc i) (suc i) q, e))
        at false q = eq-eqb _ (suc i) (last-unlisted (drop (suc i) zs) (suc i) (suc i) q)

pub noted-named : (files : ℕ) (zs : List ℤ) (l : List ℕ) → Noted files zs l → is_noted l ≡ is_listed files zs
noted-named files zs l n = fun_ext (λ k. noted-is files k zs l n)

-- there is a cell for each file
length-noted : (zs : List ℤ) (i : ℕ) (l : List ℕ) → length (noted_from i zs l) ≡ length l
length-noted [] i l = refl
length-noted (z ∷ zs) i l =
    length-noted zs (i + 1) (cond (is_below (length l) z) (set l (clamped_of z) (i + 1)) l) ∙ length-cell (is_below (length l) z) l (clamped_of z) (i + 1)

pub noted-length : (files : ℕ) (zs : List ℤ) (l : List ℕ) → Noted files zs l → length l ≡ files
noted-length files zs l n = ap length n ∙ length-noted zs 0 (replicate files 0) ∙ length-replicate {A = ℕ} files 0

-- of so many cells one is lent for each file: they are zeros, and the notes of a list in them
pub lent_zeros : {n files : ℕ} (cells : ℕ) → min files 65536 ≤ cells → n ≡ min files 65536 → min files 65536 ≡ files → take {A = ℕ} n (replicate cells 0) ≡ replicate files 0
lent_zeros {n} cells g h e = take-replicate n cells 0 (omega (arith, h)) ∙ ap (λ (k : ℕ). replicate k 0) (h ∙ e)

pub lent_notes : {n : ℕ} (cells files : ℕ) (zs : List ℤ) (l : List ℕ) → min files 65536 ≤ cells → l ≡ noted_from 0 zs (take n (replicate cells 0)) → n ≡ min files 65536
    → Noted (length l) zs l × (length l ≡ min files 65536)
lent_notes {n} cells files zs l g e h =
    let m : Noted n zs l = e ∙ ap (noted_from 0 zs) (take-replicate n cells 0 (omega (arith, h))) in
    let k = noted-length n zs l m in
    (subst (λ (i : ℕ). Noted i zs l) (sym k) m, k ∙ h)

-- a set that is counted has no more files than there are cells
pub few-files : (fs : FileStorage) → few_entries fs ≡ true → min fs.num_files 65536 ≡ fs.num_files
few-files fs h =
    let f = leb-true fs.num_files 65535 (both_true (leb fs.num_files 65535) (leb fs.num_paths 65535) h).0 in
    omega arith

-- the notes of a list that is held, for a set that is counted
pub held-named : (fs : FileStorage) (zs : List ℤ) (l : List ℕ) → Noted (length l) zs l → length l ≡ min fs.num_files 65536 → (held : Bool) → (held && few_entries fs) ≡ true
    → (length l ≡ fs.num_files) × (is_noted l ≡ is_listed fs.num_files zs)
held-named fs zs l n e held h =
    let q : length l ≡ fs.num_files = e ∙ few-files fs (both_true held (few_entries fs) h).1 in
    (q, noted-named (length l) zs l n ∙ ap (λ (k : ℕ). is_listed k zs) q)

-- ---- one number written down

module _ (zs : List ℤ) where
  pub placed-turn : (i at : ℕ) (lengths l : List ℕ) → i < length zs
      → placed_from at (drop i zs) (drop i lengths) l
      ≡ placed_from (at + get_or lengths i 0) (drop (i + 1) zs) (drop (i + 1) lengths) (cond (is_below (length l) (get_or zs i (pos 0))) (set l (clamped_of (get_or zs i (pos 0))) at) l)
  placed-turn i at lengths l h =
      let f : get_or (drop i lengths) 0 0 ≡ get_or lengths i 0 = get_or-drop i lengths 0 0 ∙ rw (add-zero i) in
      let g : drop 1 (drop i lengths) ≡ drop (i + 1) lengths = drop-drop 1 i lengths in
      let k : drop i zs ≡ get_or zs i (pos 0) ∷ drop (i + 1) zs = drop-cons zs i (pos 0) h ∙ rw (add-one i) in
      let m = cond (is_below (length l) (get_or zs i (pos 0))) (set l (clamped_of (get_or zs i (pos 0))) at) l in
      rw k
      (ap (λ (n : ℕ). placed_from (at + n) (drop (i + 1) zs) (drop 1 (drop i lengths)) m) f
      ∙ ap (λ (x : List ℕ). placed_from (at + get_or lengths i 0) (drop (i + 1) zs) x m) g)
