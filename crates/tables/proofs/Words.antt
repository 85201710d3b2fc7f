-- Laws of single rows, directory rows and roots: each is what its words are, so a row that is written reads back, and
-- every other row stays. They rely on `lists` for the laws of runs.
use mathlib.Core.Path.{◌≡◌, refl, sym, ap, ◌∙◌}
use mathlib.Core.Logic.{◌⊎◌, inl, inr, ⊎_elim}
use mathlib.Core.List.{List, [], ◌∷◌, ◌++◌}
use Prim.Native.Nat.{ℕ, zero, suc, ◌+◌, ◌*◌, ◌/◌, ◌%◌, ◌^◌, ◌≤◌, ◌<◌}
use native.Mathlib.Nat.{zero-add, mul-le-mul_right, mod-eq_of_lt, mod-lt}
use native.Mathlib.Numerals.{add-one}
use native.Mathlib.Omega.{arith}
use lib.ListN.{length, get_or, set, take, drop, replicate, length-append, length-take, length-drop}
use lib.Seq.{sets, take_all, take-suc, length-take-le, length-sets, ext_get_or, get_or-take, get_or-drop}
use Rattle.std.proofs.lemmas.List.{take-replicate}
use Rattle.lists.proofs.Orders.{le-or-lt}
use Rattle.lists.proofs.Runs.{sets-after, sets-append, sets-part, sets-drop, sets-past, get_or-sets, get_or-sets-below, get_or-sets-above}
use Rattle.tables.specs.declared.span.Span.{Span}
use Rattle.tables.specs.declared.rows.Row.{Row}
use Rattle.tables.specs.Rows.{row_at, packed, words, put_row, dir_at, dir_words, put_dir, root_at, put_root}
use Rattle.tables.proofs.Agree.{get_or-above}

-- words stored side by side: one more of them, and all
pub stored_more : (t l : List ℕ) (at k : ℕ) → k < length t → set (sets l at (take k t)) (at + k) (get_or t k 0) ≡ sets l at (take (k + 1) t)
stored_more t l at k h =
    let e = sets-append (take k t) (get_or t k 0 ∷ []) l at in
    rw (add-one k, take-suc t k 0 h) (sym (rw (length-take-le k t (omega arith)) at e))

pub stored_all : (t l : List ℕ) (at k : ℕ) → length t ≤ k → sets l at (take k t) ≡ sets l at t
stored_all t l at k h = rw (take_all k t h)

-- the same from the start of what is left of a table
pub stored_next : (t l : List ℕ) (k : ℕ) → k < length t → set (sets l 0 (take k t)) k (get_or t k 0) ≡ sets l 0 (take (k + 1) t)
stored_next t l k h = rw (zero-add k) at (stored_more t l 0 k h)

-- words stored in the place of the first n of the rest of a table
pub stored_whole : (l t : List ℕ) (at n : ℕ) → at ≤ length l → length t ≡ n → n ≤ length (drop at l) → take at l ++ (t ++ drop n (drop at l)) ≡ sets l at t
stored_whole l t at n h e f =
    let p = sets-part t l at n h (omega (arith, length-drop at l)) in
    rw (take_all n t (omega arith)) at p

pub ruleset storing = (stored_next, stored_all, stored_whole, sets-drop, sets-past)

-- two places that are not the same
sides : (i k : ℕ) → (k ≡ i → ⊥) → (k < i) ⊎ (i < k)
sides i k n = at (le-or-lt i k) (le-or-lt k i)
  where
    at : (i ≤ k) ⊎ (k < i) → (k ≤ i) ⊎ (i < k) → (k < i) ⊎ (i < k)
    at (inr h) q = inl h
    at (inl h) (inr g) = inr g
    at (inl h) (inl g) = absurd (n (omega arith))

-- a word of the row that is written, w words a row, and of any other
module _ (w : ℕ) (l t : List ℕ) (i : ℕ) (wide : length t ≡ w) (j : ℕ) (b : j < w) where
  pub word_same : i * w + w ≤ length l → get_or (sets l (i * w) t) (i * w + j) 0 ≡ get_or t j 0
  word_same f = get_or-sets t l (i * w) j 0 (omega arith) (omega arith)

  pub word-other : (k : ℕ) → (k ≡ i → ⊥) → get_or (sets l (i * w) t) (k * w + j) 0 ≡ get_or l (k * w + j) 0
  word-other k n = ⊎_elim below above (sides i k n)
    where
      below : k < i → get_or (sets l (i * w) t) (k * w + j) 0 ≡ get_or l (k * w + j) 0
      below h =
          let m : suc k * w ≤ i * w = mul-le-mul_right w h in
          get_or-sets-below t l (i * w) (k * w + j) 0 (omega arith)

      above : i < k → get_or (sets l (i * w) t) (k * w + j) 0 ≡ get_or l (k * w + j) 0
      above h =
          let m : suc i * w ≤ k * w = mul-le-mul_right w h in
          get_or-sets-above t l (i * w) (k * w + j) 0 (omega arith)

-- file rows
pub row-ext : (a b : List ℕ) (i k : ℕ)
    → ((j : ℕ) → j < 8 → get_or a (i * 8 + j) 0 ≡ get_or b (k * 8 + j) 0) → row_at a i ≡ row_at b k
row-ext a b i k e =
    let p : i * 8 + 0 ≡ i * 8 = omega arith in
    let q : k * 8 + 0 ≡ k * 8 = omega arith in
    let e0 : get_or a (i * 8) 0 ≡ get_or b (k * 8) 0 = rw (p, q) at (e 0 (omega arith)) in
    rw (e0, e 1 (omega arith), e 2 (omega arith), e 3 (omega arith), e 4 (omega arith), e 5 (omega arith), e 6 (omega arith), e 7 (omega arith))

-- a size and flags that are in range are read back from their word
packed-size : (s f : ℕ) → s < 2 ^ 48 → packed s f % 2 ^ 48 ≡ s
packed-size s f h = omega arith

packed-flags : (s f : ℕ) → f < 2 ^ 16 → packed s f / 2 ^ 48 % 2 ^ 16 ≡ f
packed-flags s f h = omega arith

-- a row whose offset and size are below 2 ^ 48 and whose flags are below 2 ^ 16 is what its words say
pub record InRange (r : Row) : Type 0 where
  pub offset : r.offset < 2 ^ 48
  pub size : r.size < 2 ^ 48
  pub flags : r.flags < 2 ^ 16

-- as every row that is read is
pub row-in-range : (rows : List ℕ) (i : ℕ) → InRange (row_at rows i)
row-in-range rows i =
    record { offset = mod-lt _ (omega arith); size = mod-lt _ (omega arith); flags = mod-lt _ (omega arith) }

pub row_words : (a : List ℕ) (i : ℕ) (r : Row) → InRange r
    → ((j : ℕ) → j < 8 → get_or a (i * 8 + j) 0 ≡ get_or (words r) j 0) → row_at a i ≡ r
row_words a i r k e =
    let p : i * 8 + 0 ≡ i * 8 = omega arith in
    let e0 : get_or a (i * 8) 0 ≡ r.offset = rw p at (e 0 (omega arith)) in
    rw (e0, e 1 (omega arith), e 2 (omega arith), e 3 (omega arith), e 4 (omega arith), e 5 (omega arith), e 6 (omega arith), e 7 (omega arith), mod-eq_of_lt k.offset, packed-size r.size r.flags k.size, packed-flags r.size r.flags k.flags)

module _ (rows : List ℕ) (i : ℕ) (r : Row) where
  pub length-put-row : length (put_row rows i r) ≡ length rows
  length-put-row = length-sets rows (i * 8) (words r)

  pub row_back : i * 8 + 8 ≤ length rows → InRange r → row_at (put_row rows i r) i ≡ r
  row_back f k = row_words (put_row rows i r) i r k (λ j b. word_same 8 rows (words r) i refl j b f)

  pub row_other : (k : ℕ) → (k ≡ i → ⊥) → row_at (put_row rows i r) k ≡ row_at rows k
  row_other k n = row-ext (put_row rows i r) rows k k (λ j b. word-other 8 rows (words r) i refl j b k n)

pub row-above : (rows rows₀ : List ℕ) (m : ℕ) → drop (m * 8) rows ≡ drop (m * 8) rows₀ → (k : ℕ) → m ≤ k → row_at rows k ≡ row_at rows₀ k
row-above rows rows₀ m e k h = row-ext rows rows₀ k k (λ j b. get_or-above rows rows₀ (m * 8) e (k * 8 + j) 0 (omega arith))

-- directory rows
pub dir-ext : (a b : List ℕ) (i k : ℕ) → ((j : ℕ) → j < 2 → get_or a (i * 2 + j) 0 ≡ get_or b (k * 2 + j) 0) → dir_at a i ≡ dir_at b k
dir-ext a b i k e =
    let p : i * 2 + 0 ≡ i * 2 = omega arith in
    let q : k * 2 + 0 ≡ k * 2 = omega arith in
    let e0 : get_or a (i * 2) 0 ≡ get_or b (k * 2) 0 = rw (p, q) at (e 0 (omega arith)) in
    rw (e0, e 1 (omega arith))

pub dir-words : (a : List ℕ) (i : ℕ) (s : Span) → ((j : ℕ) → j < 2 → get_or a (i * 2 + j) 0 ≡ get_or (dir_words s) j 0) → dir_at a i ≡ s
dir-words a i s e =
    let p : i * 2 + 0 ≡ i * 2 = omega arith in
    let e0 : get_or a (i * 2) 0 ≡ s.at = rw p at (e 0 (omega arith)) in
    rw (e0, e 1 (omega arith))

module _ (dirs : List ℕ) (i : ℕ) (s : Span) where
  pub dir-back : i * 2 + 2 ≤ length dirs → dir_at (put_dir dirs i s) i ≡ s
  dir-back f = dir-words (put_dir dirs i s) i s (λ j b. word_same 2 dirs (dir_words s) i refl j b f)

  pub dir-other : (k : ℕ) → (k ≡ i → ⊥) → dir_at (put_dir dirs i s) k ≡ dir_at dirs k
  dir-other k n = dir-ext (put_dir dirs i s) dirs k k (λ j b. word-other 2 dirs (dir_words s) i refl j b k n)

pub dir-above : (dirs dirs₀ : List ℕ) (m : ℕ) → drop (m * 2) dirs ≡ drop (m * 2) dirs₀ → (k : ℕ) → m ≤ k → dir_at dirs k ≡ dir_at dirs₀ k
dir-above dirs dirs₀ m e k h = dir-ext dirs dirs₀ k k (λ j b. get_or-above dirs dirs₀ (m * 2) e (k * 2 + j) 0 (omega arith))

-- roots
zeros : (n k : ℕ) → get_or {A = ℕ} (replicate n 0) k 0 ≡ 0
zeros zero k = refl
zeros (suc n) zero = refl
zeros (suc n) (suc k) = zeros n k

padded : (n : ℕ) (xs : List ℕ) (k : ℕ) → get_or (xs ++ replicate n 0) k 0 ≡ get_or xs k 0
padded n [] k = zeros n k
padded n (x ∷ xs) zero = refl
padded n (x ∷ xs) (suc k) = padded n xs k

-- a copy to the front of n zeros is the copy, filled up with zeros
copied : (n m : ℕ) (xs : List ℕ) → n ≤ m → sets (replicate n 0) 0 (take n xs) ≡ take n (xs ++ replicate m 0)
copied zero m xs h = refl
copied (suc n) m [] h = sym (take-replicate (suc n) m 0 h)
copied (suc n) m (x ∷ xs) h =
    sets-after (take n xs) (x ∷ []) (replicate n 0) 0 ∙ ap (λ (l : List ℕ). x ∷ l) (copied n m xs (omega arith))

pub root_copied : (roots : List ℕ) (i : ℕ) → sets (replicate 32 0) 0 (take 32 (drop (i * 32) roots)) ≡ root_at roots i
root_copied roots i = copied 32 32 (drop (i * 32) roots) (omega arith)

module _ (roots : List ℕ) (i : ℕ) where
  pub root-byte : (j : ℕ) → j < 32 → get_or (root_at roots i) j 0 ≡ get_or roots (i * 32 + j) 0
  root-byte j b =
      get_or-take 32 (drop (i * 32) roots ++ replicate 32 0) j 0 b
      ∙ padded 32 (drop (i * 32) roots) j
      ∙ get_or-drop (i * 32) roots j 0

  pub length-root : length (root_at roots i) ≡ 32
  length-root =
      omega (
        arith,
        length-take 32 (drop (i * 32) roots ++ replicate 32 0),
        length-append (drop (i * 32) roots) (replicate 32 0),
      )

pub root-words : (a : List ℕ) (i : ℕ) (root : List ℕ) → length root ≡ 32
    → ((j : ℕ) → j < 32 → get_or a (i * 32 + j) 0 ≡ get_or root j 0) → root_at a i ≡ root
root-words a i root n e =
    let m = length-root a i in
    ext_get_or 0 (root_at a i) root (m ∙ sym n) (λ j b. let q : j < 32 = omega arith in root-byte a i j q ∙ e j q)

pub root-ext : (a b : List ℕ) (i k : ℕ) → ((j : ℕ) → j < 32 → get_or a (i * 32 + j) 0 ≡ get_or b (k * 32 + j) 0) → root_at a i ≡ root_at b k
root-ext a b i k e = root-words a i (root_at b k) (length-root b k) (λ j h. e j h ∙ sym (root-byte b k j h))

pub length-put-root : (roots : List ℕ) (i : ℕ) (root : List ℕ) → length (put_root roots i root) ≡ length roots
length-put-root roots i root = length-sets roots (i * 32) root

module _ (roots : List ℕ) (i : ℕ) (root : List ℕ) (n : length root ≡ 32) where
  pub root-back : i * 32 + 32 ≤ length roots → root_at (put_root roots i root) i ≡ root
  root-back f = root-words (put_root roots i root) i root n (λ j b. word_same 32 roots root i n j b f)

  pub root-other : (k : ℕ) → (k ≡ i → ⊥) → root_at (put_root roots i root) k ≡ root_at roots k
  root-other k d = root-ext (put_root roots i root) roots k k (λ j b. word-other 32 roots root i n j b k d)
