-- A walk over files given by their sizes: s bytes are skipped, and the next n are taken, a slice a file. Two walks of which
-- one begins where the other ends join into one, so blocks in a row join to each file once and in full. It relies on nothing but
-- the definitions of slices.
--     walk                the slices of n bytes from byte s on
--     walk-ascends        one slice a file at most, in file order
--     walk-join           two walks in a row
--     join-blocks         blocks in a row that cover all
use mathlib.Core.Path.{◌≡◌, refl, sym, ap, ap₂, ◌∙◌}
use mathlib.Core.Bool.{Bool, true, false, cond}
use mathlib.Core.List.{List, [], ◌∷◌, ◌++◌}
use Prim.Native.Nat.{ℕ, suc, ◌+◌, ◌-◌, ◌≤◌, ◌<◌, min}
use native.Mathlib.Omega.{arith}
use native.Mathlib.Decide.{dec_le, dec_lt}
use lib.Dec.{eqb}
use borrow.Author.Tests.{eqb-true, eqb-false, eq-eqb, ne_eqb}
use Rattle.lists.specs.Lists.{sum}
use Rattle.book.specs.Slices.{Slice, slice, joined_to, joined, whole_from, whole_files, AscendingFrom}

-- a slice in front of others, where it is not empty
abbrev pub before : Slice → List Slice → List Slice
before p rest = cond (eqb p.size 0) rest (p ∷ rest)

-- the files from number f on: s bytes are skipped, then n are taken
abbrev pub walk : ℕ → List ℕ → ℕ → ℕ → List Slice
walk f [] s n = []
walk f (x ∷ xs) s n = before (slice f s (min (x - s) n)) (walk (suc f) xs (s - x) (n - (x - s)))

-- ---- a slice in front of others, and the first file of a walk

-- what holds of the others where it is empty, and of it and the others where it is not
pub before-by : (P : List Slice → Type 0) (p : Slice) (r : List Slice) → (p.size ≡ 0 → P r) → (0 < p.size → P (p ∷ r)) → P (before p r)
before-by P p r none some = at (eqb p.size 0) refl
  where
    at : (b : Bool) → eqb p.size 0 ≡ b → P (cond b r (p ∷ r))
    at true e = none (eqb-true p.size 0 e)
    at false e = some (omega (arith, eqb-false p.size 0 e))

before-none : (f o n : ℕ) (r : List Slice) → n ≡ 0 → before (slice f o n) r ≡ r
before-none f o n r e = rw e

before-some : (f o n : ℕ) (r : List Slice) → 0 < n → before (slice f o n) r ≡ slice f o n ∷ r
before-some f o n r h = let e : eqb n 0 ≡ false = ne_eqb n 0 (λ (q : n ≡ 0). omega arith) in rw e

pub walk_none : (f : ℕ) (xs : List ℕ) (s n : ℕ) → n ≡ 0 → walk f xs s n ≡ []
walk_none f [] s n e = refl
walk_none f (x ∷ xs) s n e =
    before-none f s (min (x - s) n) (walk (suc f) xs (s - x) (n - (x - s))) (omega arith) ∙
    walk_none (suc f) xs (s - x) (n - (x - s)) (omega arith)

-- a file that ends at or before the first byte, one that is taken up to its end, and one that reaches beyond the last byte
pub walk-skip : (f x : ℕ) (xs : List ℕ) (s n : ℕ) → x ≤ s → walk f (x ∷ xs) s n ≡ walk (suc f) xs (s - x) n
walk-skip f x xs s n h =
    let e : n - (x - s) ≡ n = omega arith in
    before-none f s (min (x - s) n) (walk (suc f) xs (s - x) (n - (x - s))) (omega arith) ∙ ap (walk (suc f) xs (s - x)) e

walk-all : (f x : ℕ) (xs : List ℕ) (s n : ℕ) → s < x → x ≤ s + n → walk f (x ∷ xs) s n ≡ slice f s (x - s) ∷ walk (suc f) xs 0 (n - (x - s))
walk-all f x xs s n h k =
    let e : min (x - s) n ≡ x - s = omega arith in
    let z : s - x ≡ 0 = omega arith in
    rw (e, z) (before-some f s (x - s) _ (omega arith))

walk-part : (f x : ℕ) (xs : List ℕ) (s n : ℕ) → 0 < n → s + n < x → walk f (x ∷ xs) s n ≡ slice f s n ∷ []
walk-part f x xs s n h k =
    let e : min (x - s) n ≡ n = omega arith in
    rw e
    (before-some f s n _ h ∙ ap (λ (r : List Slice). slice f s n ∷ r) (walk_none (suc f) xs (s - x) (n - (x - s)) (omega arith)))

-- ---- one slice a file at most, in file order

ascending-less : (f g : ℕ) (r : List Slice) → f ≤ g → AscendingFrom g r → AscendingFrom f r
ascending-less f g [] h w = tt
ascending-less f g (a ∷ r) h w = (omega (arith, w.0), w.1)

pub walk-ascends : (f : ℕ) (xs : List ℕ) (s n : ℕ) → AscendingFrom f (walk f xs s n)
walk-ascends f [] s n = tt
walk-ascends f (x ∷ xs) s n =
    let w = walk-ascends (suc f) xs (s - x) (n - (x - s)) in
    before-by (AscendingFrom f) (slice f s (min (x - s) n)) (walk (suc f) xs (s - x) (n - (x - s)))
    (λ e. ascending-less f (suc f) (walk (suc f) xs (s - x) (n - (x - s))) (omega arith) w)
    (λ h. (omega arith, w))

-- ---- slices joined to slices that are joined already

abbrev onto : List Slice → List Slice → List Slice
onto [] r = r
onto (a ∷ l) r = joined_to a (onto l r)

joined-append : (a b : List Slice) → joined (a ++ b) ≡ onto a (joined b)
joined-append [] b = refl
joined-append (x ∷ a) b = ap (joined_to x) (joined-append a b)

-- a slice of an earlier file does not touch; one that goes on does
join-new : (a : Slice) (r : List Slice) → AscendingFrom (suc a.file) r → joined_to a r ≡ a ∷ r
join-new a [] w = refl
join-new a (b ∷ r) w =
    let e : eqb a.file b.file ≡ false = ne_eqb a.file b.file (λ (q : a.file ≡ b.file). omega (arith, w.0)) in
    rw e

join-same : (f o n m : ℕ) (r : List Slice) → joined_to (slice f o n) (slice f (o + n) m ∷ r) ≡ slice f o (n + m) ∷ r
join-same f o n m r = rw (eq-eqb f f refl, eq-eqb (o + n) (o + n) refl)

-- ---- two walks in a row, by how the first file lies to the first of them

abbrev Joins : ℕ → List ℕ → ℕ → ℕ → ℕ → Type 0
Joins f xs s n m = onto (walk f xs s n) (walk f xs (s + n) m) ≡ walk f xs s (n + m)

joins-none : (f : ℕ) (xs : List ℕ) (s n m : ℕ) → n ≡ 0 → Joins f xs s n m
joins-none f xs s n m z =
    let e : s + n ≡ s = omega arith in
    let d : n + m ≡ m = omega arith in
    ap₂ onto (walk_none f xs s n z) (ap (λ (t : ℕ). walk f xs t m) e) ∙ sym (ap (walk f xs s) d)

joins-skip : (f x : ℕ) (xs : List ℕ) (s n m : ℕ) → x ≤ s → Joins (suc f) xs (s - x) n m → Joins f (x ∷ xs) s n m
joins-skip f x xs s n m h ih =
    let e : s + n - x ≡ s - x + n = omega arith in
    ap₂ onto (walk-skip f x xs s n h) (walk-skip f x xs (s + n) m (omega arith) ∙ ap (λ (t : ℕ). walk (suc f) xs t m) e) ∙
    ih ∙ sym (walk-skip f x xs s (n + m) h)

joins-all : (f x : ℕ) (xs : List ℕ) (s n m : ℕ) → s < x → x ≤ s + n → Joins (suc f) xs 0 (n - (x - s)) m → Joins f (x ∷ xs) s n m
joins-all f x xs s n m h k ih =
    let e : s + n - x ≡ 0 + (n - (x - s)) = omega arith in
    let d : n - (x - s) + m ≡ n + m - (x - s) = omega arith in
    ap₂ onto (walk-all f x xs s n h k) (walk-skip f x xs (s + n) m k ∙ ap (λ (t : ℕ). walk (suc f) xs t m) e) ∙
    ap (joined_to (slice f s (x - s))) (ih ∙ ap (walk (suc f) xs 0) d) ∙
    join-new (slice f s (x - s)) (walk (suc f) xs 0 (n + m - (x - s))) (walk-ascends (suc f) xs 0 (n + m - (x - s))) ∙
    sym (walk-all f x xs s (n + m) h (omega arith))

joins_part : (f x : ℕ) (xs : List ℕ) (s n m : ℕ) → 0 < n → s + n < x → Joins f (x ∷ xs) s n m
joins_part f x xs s n m h k =
    ap (λ (a : List Slice). onto a (walk f (x ∷ xs) (s + n) m)) (walk-part f x xs s n h k) ∙ rest (dec_le m 0) (dec_lt (s + n + m) x)
  where
    rest : Dec (m ≤ 0) → Dec (s + n + m < x) → joined_to (slice f s n) (walk f (x ∷ xs) (s + n) m) ≡ walk f (x ∷ xs) s (n + m)
    rest (yes z) c =
        let e : m ≡ 0 = omega arith in
        let d : n + m ≡ n = omega arith in
        ap (joined_to (slice f s n)) (walk_none f (x ∷ xs) (s + n) m e) ∙ sym (walk-part f x xs s n h k) ∙
        sym (ap (walk f (x ∷ xs) s) d)
    rest (no z) (yes c) =
        ap (joined_to (slice f s n)) (walk-part f x xs (s + n) m (omega arith) c) ∙ join-same f s n m [] ∙
        sym (walk-part f x xs s (n + m) (omega arith) (omega arith))
    rest (no z) (no c) =
        let e : n + (x - (s + n)) ≡ x - s = omega arith in
        let d : m - (x - (s + n)) ≡ n + m - (x - s) = omega arith in
        ap (joined_to (slice f s n)) (walk-all f x xs (s + n) m k (omega arith)) ∙
        join-same f s n (x - (s + n)) (walk (suc f) xs 0 (m - (x - (s + n)))) ∙
        ap₂ (λ (a b : ℕ). slice f s a ∷ walk (suc f) xs 0 b) e d ∙
        sym (walk-all f x xs s (n + m) (omega arith) (omega arith))

walk-join : (f : ℕ) (xs : List ℕ) (s n m : ℕ) → Joins f xs s n m
walk-join f [] s n m = refl
walk-join f (x ∷ xs) s n m =
    by (dec_le n 0) (dec_le x s) (dec_le x (s + n)) (walk-join (suc f) xs (s - x) n m) (walk-join (suc f) xs 0 (n - (x - s)) m)
  where
    by : Dec (n ≤ 0) → Dec (x ≤ s) → Dec (x ≤ s + n) → Joins (suc f) xs (s - x) n m → Joins (suc f) xs 0 (n - (x - s)) m → Joins f (x ∷ xs) s n m
    by (yes z) b c i j = joins-none f (x ∷ xs) s n m (omega arith)
    by (no z) (yes b) c i j = joins-skip f x xs s n m b i
    by (no z) (no b) (yes c) i j = joins-all f x xs s n m (omega arith) c j
    by (no z) (no b) (no c) i j = joins_part f x xs s n m (omega arith) (omega arith)

-- ---- all the bytes, in one walk and in blocks of the given sizes in a row

walk-whole : (f : ℕ) (xs : List ℕ) (n : ℕ) → n ≡ sum xs → walk f xs 0 n ≡ whole_from f xs
walk-whole f [] n e = refl
walk-whole f (x ∷ xs) n e =
    let a : min (x - 0) n ≡ x = omega arith in
    let b : 0 - x ≡ 0 = omega arith in
    rw (a, b) (ap (before (slice f 0 x)) (walk-whole (suc f) xs (n - (x - 0)) (omega arith)))

abbrev pub cut : List ℕ → ℕ → List ℕ → List Slice
cut xs t [] = []
cut xs t (n ∷ ns) = walk 0 xs t n ++ cut xs (t + n) ns

join-cut : (xs : List ℕ) (t : ℕ) (ns : List ℕ) → joined (cut xs t ns) ≡ walk 0 xs t (sum ns)
join-cut xs t [] = sym (walk_none 0 xs t 0 refl)
join-cut xs t (n ∷ ns) =
    joined-append (walk 0 xs t n) (cut xs (t + n) ns) ∙ ap (onto (walk 0 xs t n)) (join-cut xs (t + n) ns) ∙
    walk-join 0 xs t n (sum ns)

pub join-blocks : (xs ns : List ℕ) → sum ns ≡ sum xs → joined (cut xs 0 ns) ≡ whole_files xs
join-blocks xs ns e = join-cut xs 0 ns ∙ walk-whole 0 xs (sum ns) e
