-- A set's tables that hold files of given sizes, end to end: then the slices of a block are the walk over those sizes, the
-- tables of a set in order are such tables, and the record of a slice is the one that the table has. It relies on the law of the search
-- that begins with a window in `layout`, and on what a set in order is in `sound`.
--     Holds, held-in-order        tables that hold files of these sizes
--     laid                        the files end to end
--     slices-are                  the slices of a block, for every window
--     records-are, slices-back    slices, written as records and read again
use mathlib.Core.Path.{◌≡◌, refl, sym, ap, ◌∙◌}
use mathlib.Core.Logic.{◌⊎◌, inl, inr}
use mathlib.Core.Bool.{Bool, true, false, cond}
use mathlib.Core.List.{List, [], ◌∷◌, map}
use Prim.Native.Nat.{ℕ, zero, suc, ◌+◌, ◌-◌, ◌*◌, ◌%◌, ◌^◌, ◌≤◌, ◌<◌, min}
use native.Mathlib.Omega.{arith}
use native.Mathlib.Numerals.{add-one}
use lib.Dec.{eqb}
use lib.ListN.{length, get_or, take, drop, drop_of_length-le}
use lib.Seq.{drop-cons, take_all}
use Rattle.lists.specs.Lists.{sum}
use Rattle.lists.proofs.Orders.{le-or-lt}
use Rattle.lists.proofs.Sums.{sum-take-more}
use Rattle.types.specs.declared.index.FileSlice.{FileSlice}
use Rattle.tables.specs.declared.storage.FileStorage.{FileStorage}
use Rattle.tables.specs.Rows.{row_at}
use Rattle.tables.specs.Model.{File, Store, tabled, file_of, view_of}
use Rattle.tables.proofs.Tabled.{length-tabled, get_or-tabled}
use Rattle.rules.specs.Bounds.{limit}
use Rattle.sound.specs.Sound.{Sound, sum_to, size_of_row}
use Rattle.sound.proofs.Files.{map-tabled}
use Rattle.layout.specs.declared.window.Window.{Window}
use Rattle.layout.specs.Search.{found_within}
use Rattle.layout.specs.Mapping.{slices_within}
use Rattle.layout.specs.declared.slices.Slice as layout_slices
use Rattle.layout.specs.Mapping as layout
use Rattle.mapping.specs.Table as mapping
use Rattle.layout.proofs.Halving.{Last}
use Rattle.layout.proofs.Starting.{Laid, found_within_lem}
use Rattle.book.specs.Slices.{Slice, slice}
use Rattle.book.specs.Demand.{slice_of, record_of}
use Rattle.book.proofs.Walks.{before, walk}
use Rattle.book.proofs.Blocks.{Lie, walk_from}

-- tables of a set of that piece length whose files have these sizes and lie end to end
pub record Holds (n : ℕ) (xs : List ℕ) (fs : FileStorage) (rows : List ℕ) : Type 0 where
  pub long : fs.piece_length ≡ n
  pub some : 0 < n
  pub signed : n ≤ 2147483647
  -- as many files as sizes, and a row for each
  pub count : fs.num_files ≡ length xs
  pub few : length xs ≤ 65535
  pub few-paths : fs.num_paths ≤ 65535
  pub held : length xs * 8 ≤ length rows
  -- each of its size, after those before it
  pub sizes : (k : ℕ) → k < length xs → get_or xs k 0 ≡ (row_at rows k).size
  pub offsets : (k : ℕ) → k < length xs → (row_at rows k).offset ≡ sum (take k xs)
  pub total : fs.total_size ≡ sum xs
  pub limited : sum xs ≤ limit

-- ---- a set in order

-- the sum of a table's first k numbers, by places
sum-take-tabled : (n : ℕ) (w : ℕ → ℕ) (k : ℕ) → k ≤ n → sum (take k (tabled n w)) ≡ sum_to k w
unfolding sum_to
sum-take-tabled n w zero h = refl
sum-take-tabled n w (suc k) h =
    let e : suc k ≡ k + 1 = omega arith in
    let q = sum-take-more (tabled n w) k in
    let p : sum (take (suc k) (tabled n w)) ≡ sum (take k (tabled n w)) + get_or (tabled n w) k 0 = rw e q in
    omega (arith, p, sum-take-tabled n w k (omega arith), get_or-tabled n w k 0 h)

pub held-in-order : (n : ℕ) (xs : List ℕ) (s : Store) → Sound s → s.fs.piece_length ≡ n → 0 < n → n ≤ 2147483647
    → map (λ (f : File). f.size) (view_of s).files ≡ xs → Holds n xs s.fs s.rows
held-in-order n xs s w e p q d =
    record {
      long = e;
      some = p;
      signed = q;
      count = sym counted;
      few = rw counted w.few-files;
      few-paths = w.few-paths;
      held = rw counted w.rows-hold;
      sizes = λ k h. rw is (get_or-tabled files (size_of_row s) k 0 (rw counted at h));
      offsets = λ k h. w.offsets k (rw counted at h) ∙ sym (summed k (omega (arith, rw counted at h)));
      total = w.total ∙ sym all;
      limited = rw (all, ← w.total) w.limited;
    }
  where
    files : ℕ
    files = s.fs.num_files

    is : xs ≡ tabled files (size_of_row s)
    is = sym d ∙ map-tabled (λ (f : File). f.size) files (file_of s)

    counted : length xs ≡ files
    counted = ap length is ∙ length-tabled files (size_of_row s)

    summed : (k : ℕ) → k ≤ files → sum (take k xs) ≡ sum_to k (size_of_row s)
    summed k h = rw is (sum-take-tabled files (size_of_row s) k h)

    all : sum xs ≡ sum_to files (size_of_row s)
    all = sym (ap sum (take_all files xs (omega (arith, counted)))) ∙ summed files (omega arith)

-- ---- the slices of a block

-- the port's record of a slice, as the book has it
abbrev pub as_slice : layout_slices.Slice → Slice
as_slice p = slice p.file p.offset p.size

before-is : (p : layout_slices.Slice) (r : List layout_slices.Slice) → map as_slice (layout.before p r) ≡ before (as_slice p) (map as_slice r)
before-is p r = at (eqb p.size 0)
  where
    at : (b : Bool) → map as_slice (cond b r (p ∷ r)) ≡ cond b (map as_slice r) (as_slice p ∷ map as_slice r)
    at true = refl
    at false = refl

-- a walk from file k on, by what that file has
walk_at : (xs : List ℕ) (k t m x : ℕ) → k < length xs → get_or xs k 0 ≡ x
    → walk k (drop k xs) t m ≡ before (slice k t (min (x - t) m)) (walk (k + 1) (drop (k + 1) xs) (t - x) (m - (x - t)))
walk_at xs k t m x h e = ap (λ (l : List ℕ). walk k l t m) (drop-cons xs k 0 h) ∙ rw (add-one k, e)

module _ {n : ℕ} {xs : List ℕ} {fs : FileStorage} {rows : List ℕ} (h : Holds n xs fs rows) where
  walk_is : (f k t m : ℕ) → k + f ≡ length xs → map as_slice (layout.walk f rows k t m) ≡ walk k (drop k xs) t m
  unfolding layout.walk
  walk_is zero k t m e = rw (drop_of_length-le xs {i = k} (omega arith))
  walk_is (suc f) k t m e =
      before-is (record { file = k; offset = t; size = min ((row_at rows k).size - t) m }) (layout.walk f rows (k + 1) (t - (row_at rows k).size) (m - ((row_at rows k).size - t))) ∙
      ap (before (slice k t (min ((row_at rows k).size - t) m)))
      (walk_is f (k + 1) (t - (row_at rows k).size) (m - ((row_at rows k).size - t)) (omega arith)) ∙
      sym (walk_at xs k t m (row_at rows k).size (omega arith) (h.sizes k (omega arith)))

  pub laid : Laid rows (length xs)
  laid i b =
      let e : sum (take (i + 1) xs) ≡ sum (take i xs) + (row_at rows i).size = sum-take-more xs i ∙ ap (λ (x : ℕ). sum (take i xs) + x) (h.sizes i (omega arith)) in
      h.offsets (i + 1) b ∙ e ∙ ap (λ (x : ℕ). x + (row_at rows i).size) (sym (h.offsets i (omega arith)))

  -- from the file found, and where there is none
  from : (t m k : ℕ) → Last rows (length xs) t k → map as_slice (layout.walk (length xs - k) rows k (t - (row_at rows k).offset) (min m (sum xs - t))) ≡ walk 0 xs t m
  from t m k l =
      let o = h.offsets k l.among in
      let b : sum (take k xs) ≤ t = rw o at l.low in
      rw o (walk_is (length xs - k) k (t - sum (take k xs)) (min m (sum xs - t)) (omega (arith, l.among)) ∙ walk_from xs t m k b (omega (arith, l.among)))

  no-file : (t m k s r : ℕ) → length xs ≤ 0 → map as_slice (layout.walk (length xs - k) rows k s r) ≡ walk 0 xs t m
  unfolding layout.walk
  no-file t m k s r z =
      let e : length xs - k ≡ 0 = omega arith in
      rw (e, empty xs z)
    where
      empty : (l : List ℕ) → length l ≤ 0 → l ≡ []
      empty [] z = refl
      empty (x ∷ l) z = absurd (omega arith)

  -- whatever window the search begins with
  pub slices-are : (w : Window) (t m : ℕ) → map as_slice (slices_within fs rows w t m) ≡ walk 0 xs t m
  slices-are w t m = rw (h.count, h.total) (by (le-or-lt (length xs) 0))
    where
      by : (length xs ≤ 0) ⊎ (0 < length xs)
          → map as_slice (layout.walk (length xs - found_within rows (length xs) w t) rows (found_within rows (length xs) w t) (t - (row_at rows (found_within rows (length xs) w t)).offset) (min m (sum xs - t))) ≡ walk 0 xs t m
      by (inl z) = no-file t m (found_within rows (length xs) w t) _ _ z
      by (inr p) =
          from t m (found_within rows (length xs) w t)
          (found_within_lem rows (length xs) t laid w p (omega (arith, h.offsets 0 p)))

-- ---- records

-- the files are far below the 31 bits of a record's file number
pub records-are : (xs : List ℕ) (t : ℕ) (l : List layout_slices.Slice) → length xs ≤ 65535 → Lie xs t (map as_slice l) → map mapping.record_of l ≡ map record_of (map as_slice l)
records-are xs t [] h w = refl
records-are xs t (p ∷ l) h w =
    let e : p.file % 2 ^ 31 ≡ p.file = omega (arith, w.0.known) in
    rw e (ap (λ (r : List FileSlice). record_of (as_slice p) ∷ r) (records-are xs (t + p.size) l h w.1))

pub slices-back : (l : List Slice) → map slice_of (map record_of l) ≡ l
slices-back [] = refl
slices-back (p ∷ l) = ap (λ (r : List Slice). p ∷ r) (slices-back l)
