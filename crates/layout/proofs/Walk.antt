-- Laws of the slices of a block, as a step to the next one and those that count and store them use them.
--     walk_low                   offsets and sizes are far below 2 ^ 63
--     walk_none, walk_end        nothing left to take, or no file left
--     walk_files, walk_bytes     there are no more slices than files, nor than bytes
--     pass, found                a file that has no byte of the block is passed over; one that has some gives the next slice
use Rattle.std.proofs.Common.{◌≡◌, ℕ, zero, suc, ◌+◌, ◌-◌, ◌^◌, ◌<◌, ◌≤◌, min, Bool, true, false, cond, eqb, List, [], ◌∷◌, length, refl, sym, ◌∙◌, arith, ne_eqb}
use borrow.Author.Tests.{eqb-false}
use native.Mathlib.Nat.{mod-lt}
use Rattle.tables.specs.Rows.{row_at}
use Rattle.layout.specs.declared.slices.Slice.{Slice}
use Rattle.layout.specs.Mapping.{before, walk}

pub one_le : (n : ℕ) → cond (eqb n 0) 0 1 ≤ 1
one_le n = at (eqb n 0)
  where
    at : (b : Bool) → cond b 0 1 ≤ 1
    at true = omega arith
    at false = omega arith

count-le : (n : ℕ) → cond (eqb n 0) 0 1 ≤ n
count-le zero = omega arith
count-le (suc n) =
    let e : eqb (suc n) 0 ≡ false = ne_eqb (suc n) 0 (omega arith) in
    rw e (omega arith)

before_more : (s : Slice) (rest : List Slice) → length (before s rest) ≡ cond (eqb s.size 0) 0 1 + length rest
before_more s rest = at (eqb s.size 0)
  where
    at : (b : Bool) → length (cond b rest (s ∷ rest)) ≡ cond b 0 1 + length rest
    at true = omega arith
    at false = omega arith

-- offsets and sizes are within a row's size
abbrev pub Low : List Slice → Type 0
Low [] = Unit
Low (s ∷ ss) = (s.offset < 2 ^ 48) × (s.size < 2 ^ 48) × Low ss

before-low : (s : Slice) (ss : List Slice) (size n : ℕ) → size < 2 ^ 48 → s.size ≡ min (size - s.offset) n → Low ss → Low (before s ss)
before-low s ss size n h e w = at (eqb s.size 0) refl
  where
    at : (b : Bool) → eqb s.size 0 ≡ b → Low (cond b ss (s ∷ ss))
    at true q = w
    at false q = let some : ¬ (s.size ≡ 0) = eqb-false s.size 0 q in (omega arith, omega arith, w)

module _ (rows : List ℕ) where
  pub walk_low : (f k s n : ℕ) → Low (walk f rows k s n)
  unfolding walk
  walk_low zero k s n = tt
  walk_low (suc f) k s n =
      before-low
      (record { file = k; offset = s; size = min ((row_at rows k).size - s) n })
      (walk f rows (k + 1) (s - (row_at rows k).size) (n - ((row_at rows k).size - s)))
      _ n (mod-lt _ (omega arith)) refl
      (walk_low f (k + 1) (s - (row_at rows k).size) (n - ((row_at rows k).size - s)))

  pub walk_none : (f k s n : ℕ) → n ≡ 0 → walk f rows k s n ≡ []
  unfolding walk
  walk_none zero k s n z = refl
  walk_none (suc f) k s n z =
      let e : min ((row_at rows k).size - s) n ≡ 0 = omega arith in
      rw e (walk_none f (k + 1) (s - (row_at rows k).size) (n - ((row_at rows k).size - s)) (omega arith))

  pub walk_end : (files k s n : ℕ) → files ≤ k → walk (files - k) rows k s n ≡ []
  unfolding walk
  walk_end files k s n h = let e : files - k ≡ 0 = omega arith in rw e

  -- no file has two slices, and none is empty
  pub walk_files : (f k s n : ℕ) → length (walk f rows k s n) ≤ f
  unfolding walk
  walk_files zero k s n = omega arith
  walk_files (suc f) k s n =
      let s' : Slice = record { file = k; offset = s; size = min ((row_at rows k).size - s) n } in
      let rest = walk f rows (k + 1) (s - (row_at rows k).size) (n - ((row_at rows k).size - s)) in
      let i : length rest ≤ f = walk_files f (k + 1) (s - (row_at rows k).size) (n - ((row_at rows k).size - s)) in
      let e = before_more s' rest in
      let o = one_le (min ((row_at rows k).size - s) n) in
      omega arith

  pub walk_bytes : (f k s n : ℕ) → length (walk f rows k s n) ≤ n
  unfolding walk
  walk_bytes zero k s n = omega arith
  walk_bytes (suc f) k s n =
      let part = min ((row_at rows k).size - s) n in
      let rest = walk f rows (k + 1) (s - (row_at rows k).size) (n - ((row_at rows k).size - s)) in
      let i : length rest ≤ n - ((row_at rows k).size - s) = walk_bytes f (k + 1) (s - (row_at rows k).size) (n - ((row_at rows k).size - s)) in
      let e = before_more (record { file = k; offset = s; size = part }) rest in
      let o = count-le part in
      omega arith

  -- a turn at file k
  turn : (files k s n : ℕ) → k < files
      → walk (files - k) rows k s n
      ≡ before (record { file = k; offset = s; size = min ((row_at rows k).size - s) n })
      (walk (files - (k + 1)) rows (k + 1) (s - (row_at rows k).size) (n - ((row_at rows k).size - s)))
  unfolding walk
  turn files k s n h = let e : files - k ≡ suc (files - (k + 1)) = omega arith in rw e

  -- the size of file k is at most s
  pub pass : (files k s n : ℕ) {size : ℕ} → k < files → size ≡ (row_at rows k).size → size ≤ s → walk (files - (k + 1)) rows (k + 1) (s - size) n ≡ walk (files - k) rows k s n
  pass files k s n {size} h es low =
      let p : min ((row_at rows k).size - s) n ≡ 0 = omega arith in
      let m : n - ((row_at rows k).size - s) ≡ n = omega arith in
      sym (turn files k s n h ∙ rw (p, m, es))

  -- it is more
  pub found : (files k s n : ℕ) {size part : ℕ} → k < files → size ≡ (row_at rows k).size → s < size → part ≡ min (size - s) n → 0 < n
      → walk (files - k) rows k s n ≡ record { file = k; offset = s; size = part } ∷ walk (files - (k + 1)) rows (k + 1) 0 (n - part)
  found files k s n {size} {part} h es high ep some =
      let p : min ((row_at rows k).size - s) n ≡ part = omega arith in
      let e : eqb part 0 ≡ false = ne_eqb part 0 (λ q. omega arith) in
      let z : s - (row_at rows k).size ≡ 0 = omega arith in
      let m : n - ((row_at rows k).size - s) ≡ n - part = omega arith in
      turn files k s n h ∙ rw (p, e, z, m)

-- what a step to the next slice needs
pub ruleset next_slice = (walk_none, walk_end, pass, found)
