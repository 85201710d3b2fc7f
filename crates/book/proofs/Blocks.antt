-- What holds of one block's slices, for files given by their sizes: how many there are and of how many bytes, where each
-- lies, which bytes they stand for, and that they may be sought from any file that begins at or before the block. It relies
-- on the walk of proofs/Walks.antt and on the laws of parts and sums of lists.
--     walk-bytes, walk_meets      the sizes' sum, and the number of slices
--     Lies, lies_at, walk-lie     where the slices lie
--     walk-content                the bytes that they stand for
--     walk_from                   the walk from a file at or before the first byte, cut to what is left
use mathlib.Core.Path.{◌≡◌, refl, sym, ap, ap₂, ◌∙◌}
use mathlib.Core.List.{List, [], ◌∷◌, ◌++◌, map}
use Prim.Native.Nat.{ℕ, zero, suc, ◌+◌, ◌-◌, ◌≤◌, ◌<◌, min, max}
use native.Mathlib.Omega.{arith}
use lib.ListN.{length, get_or, take, drop, length-append, length-drop}
use lib.Seq.{take-nil, drop-nil, take-append_seam, get_or-append_seam, append_snoc}
use Rattle.lists.specs.Lists.{sum, part_of}
use Rattle.lists.proofs.Parts.{take-clipped, part-append}
use Rattle.lists.proofs.Sums.{sum-append}
use Rattle.book.specs.Slices.{Slice, slice, bytes_in, one_if, meets_from, meets, end_to_end, content_of}
use Rattle.book.proofs.Walks.{before, walk, before-by, walk-skip}

-- ---- bytes and number

pub walk-bytes : (f : ℕ) (xs : List ℕ) (s n : ℕ) → s + n ≤ sum xs → bytes_in (walk f xs s n) ≡ n
walk-bytes f [] s n h = omega arith
walk-bytes f (x ∷ xs) s n h =
    let i : bytes_in (walk (suc f) xs (s - x) (n - (x - s))) ≡ n - (x - s) = walk-bytes (suc f) xs (s - x) (n - (x - s)) (omega arith) in
    before-by (λ (r : List Slice). bytes_in r ≡ n) (slice f s (min (x - s) n)) (walk (suc f) xs (s - x) (n - (x - s)))
    (λ e. omega arith)
    (λ k. omega arith)

-- the share of the first file, which begins at byte o, by where it lies and by what the walk skips and takes
sub-sub : (n a b : ℕ) → n - a - b ≡ n - (a + b)
sub-sub n a b = omega arith

min-sub : (n a b : ℕ) → min n a - b ≡ min (n - b) (a - b)
min-sub n a b = omega arith

over : (o x t : ℕ) → o - t + (x - (t - o)) ≡ o + x - t
over o x t = omega arith

max-left : (o x t : ℕ) → o + x - max o t ≡ x - (t - o)
max-left o x t = omega arith

max-right : (o n t : ℕ) → t + n - max o t ≡ n - (o - t)
max-right o n t = omega arith

length_before : (p : Slice) (r : List Slice) → length (before p r) ≡ one_if p.size + length r
length_before p r =
    before-by (λ (l : List Slice). length l ≡ one_if p.size + length r) p r (λ e. rw e (omega arith)) (λ h. one p.size h)
  where
    one : (n : ℕ) → 0 < n → suc (length r) ≡ one_if n + length r
    one zero h = absurd (omega arith)
    one (suc n) h = omega arith

meets-from : (f o : ℕ) (xs : List ℕ) (t n : ℕ) → length (walk f xs (t - o) (n - (o - t))) ≡ meets_from o xs t n
meets-from f o [] t n = refl
meets-from f o (x ∷ xs) t n =
    let e : min (x - (t - o)) (n - (o - t)) ≡ min (o + x) (t + n) - max o t = rw (min-sub, max-left, max-right) in
    let d : t - o - x ≡ t - (o + x) = sub-sub t o x in
    let g : n - (o - t) - (x - (t - o)) ≡ n - (o + x - t) = rw (sub-sub, over) in
    rw (e, d, g)
    (length_before (slice f (t - o) (min (o + x) (t + n) - max o t)) (walk (suc f) xs (t - (o + x)) (n - (o + x - t))) ∙
    ap (λ (k : ℕ). one_if (min (o + x) (t + n) - max o t) + k) (meets-from (suc f) (o + x) xs t n))

pub walk_meets : (xs : List ℕ) (t n : ℕ) → length (walk 0 xs t n) ≡ meets xs t n
walk_meets xs t n =
    let a : t - 0 ≡ t = omega arith in
    let b : n - (0 - t) ≡ n = omega arith in
    rw (a, b) at (meets-from 0 0 xs t n)

-- ---- places

-- a slice that is not empty, ends in its file, and whose first byte is byte t of all
pub record Lies (xs : List ℕ) (t : ℕ) (p : Slice) : Type 0 where
  pub nonempty : 0 < p.size
  pub within : p.offset + p.size ≤ get_or xs p.file 0
  pub known : p.file < length xs
  pub first : sum (take p.file xs) + p.offset ≡ t

-- slices of which each begins where the one before it ends
abbrev pub Lie : List ℕ → ℕ → List Slice → Type 0
Lie xs t [] = Unit {0}
Lie xs t (p ∷ r) = Lies xs t p × Lie xs (t + p.size) r

pub lies_at : (xs : List ℕ) (t : ℕ) (a : List Slice) (p : Slice) (b : List Slice) → Lie xs t (a ++ p ∷ b) → Lies xs (t + bytes_in a) p
lies_at xs t [] p b w =
    let e : t + 0 ≡ t = omega arith in
    rw e w.0
lies_at xs t (c ∷ a) p b w =
    let e : t + (c.size + bytes_in a) ≡ t + c.size + bytes_in a = omega arith in
    rw e (lies_at xs (t + c.size) a p b w.1)

before-lie : (xs : List ℕ) (t : ℕ) (p : Slice) (r : List Slice) → (0 < p.size → Lies xs t p) → Lie xs (t + p.size) r → Lie xs t (before p r)
before-lie xs t p r h w =
    before-by (Lie xs t) p r
    (λ e. let z : t + p.size ≡ t = omega arith in rw z at w)
    (λ k. (h k, w))

-- after files of the sizes a
lie-after : (a xs : List ℕ) (f s n t : ℕ) → f ≡ length a → (0 < n → t ≡ sum a + s) → Lie (a ++ xs) t (walk f xs s n)
lie-after a [] f s n t e h = tt
lie-after a (x ∷ xs) f s n t e h =
    before-lie (a ++ x ∷ xs) t (slice f s (min (x - s) n)) (walk (suc f) xs (s - x) (n - (x - s))) here
    (rw (← append_snoc a x xs)
    (lie-after (a ++ (x ∷ [])) xs (suc f) (s - x) (n - (x - s)) (t + min (x - s) n) (omega (arith, length-append a (x ∷ []))) later))
  where
    here : 0 < min (x - s) n → Lies (a ++ x ∷ xs) t (slice f s (min (x - s) n))
    here k =
        record {
          nonempty = k;
          within = rw (e, get_or-append_seam a x xs 0) (omega arith);
          known = omega (arith, length-append a (x ∷ xs));
          first = rw (e, take-append_seam a (x ∷ xs)) (sym (h (omega arith)));
        }

    later : 0 < n - (x - s) → t + min (x - s) n ≡ sum (a ++ (x ∷ [])) + (s - x)
    later k = omega (arith, h (omega arith), sum-append a (x ∷ []))

pub walk-lie : (xs : List ℕ) (t n : ℕ) → Lie xs t (walk 0 xs t n)
walk-lie xs t n = lie-after [] xs 0 t n t refl (λ (h : 0 < n). omega arith)

-- ---- content

content-before : (cs : List (List ℕ)) (p : Slice) (r : List Slice) → content_of cs (before p r) ≡ part_of (get_or cs p.file []) p.offset p.size ++ content_of cs r
content-before cs p r =
    before-by (λ (l : List Slice). content_of cs l ≡ part_of (get_or cs p.file []) p.offset p.size ++ content_of cs r) p r
    (λ e. rw e)
    (λ h. refl)

-- after files of the contents a
content-after : (a cs : List (List ℕ)) (f s n : ℕ) → f ≡ length a → content_of (a ++ cs) (walk f (map length cs) s n) ≡ part_of (end_to_end cs) s n
content-after a [] f s n e = rw (drop-nil {A = ℕ} s, take-nil {A = ℕ} n)
content-after a (c ∷ cs) f s n e =
    content-before (a ++ c ∷ cs) (slice f s (min (length c - s) n)) (walk (suc f) (map length cs) (s - length c) (n - (length c - s))) ∙
    ap₂ (λ (l r : List ℕ). l ++ r) here
    (rw (← append_snoc a c cs)
    (content-after (a ++ (c ∷ [])) cs (suc f) (s - length c) (n - (length c - s)) (omega (arith, length-append a (c ∷ []))))) ∙
    sym (part-append c (end_to_end cs) s n)
  where
    here : part_of (get_or (a ++ c ∷ cs) f []) s (min (length c - s) n) ≡ part_of c s n
    here =
        let q : min (length c - s) n ≡ min n (length c - s) = omega arith in
        rw (e, get_or-append_seam a c cs [], q, ← length-drop s c) (take-clipped n (drop s c))

pub walk-content : (cs : List (List ℕ)) (xs : List ℕ) (t n : ℕ) → map length cs ≡ xs → content_of cs (walk 0 xs t n) ≡ part_of (end_to_end cs) t n
walk-content cs xs t n e = rw (← e) (content-after [] cs 0 t n refl)

-- ---- from a later file, and cut to what is left

walk_after : (f : ℕ) (xs : List ℕ) (s n k : ℕ) → sum (take k xs) ≤ s → k ≤ length xs → walk f xs s n ≡ walk (f + k) (drop k xs) (s - sum (take k xs)) n
walk_after f xs s n zero h l =
    let e : f + 0 ≡ f = omega arith in
    let d : s - 0 ≡ s = omega arith in
    rw (e, d)
walk_after f [] s n (suc k) h l = refl
walk_after f (x ∷ xs) s n (suc k) h l =
    let e : f + suc k ≡ suc f + k = omega arith in
    let d : s - (x + sum (take k xs)) ≡ s - x - sum (take k xs) = omega arith in
    walk-skip f x xs s n (omega arith) ∙ walk_after (suc f) xs (s - x) n k (omega arith) (omega arith) ∙
    ap₂ (λ (a b : ℕ). walk a (drop k xs) b n) (sym e) (sym d)

left_over : (x a s : ℕ) → x + a - s - (x - s) ≡ a - (s - x)
left_over x a s = omega arith

walk-cut : (f : ℕ) (xs : List ℕ) (s n : ℕ) → walk f xs s (min n (sum xs - s)) ≡ walk f xs s n
walk-cut f [] s n = refl
walk-cut f (x ∷ xs) s n =
    let e : min (x - s) (min n (x + sum xs - s)) ≡ min (x - s) n = omega arith in
    let d : min n (x + sum xs - s) - (x - s) ≡ min (n - (x - s)) (sum xs - (s - x)) = rw (min-sub, left_over) in
    rw (e, d) (ap (before (slice f s (min (x - s) n))) (walk-cut (suc f) xs (s - x) (n - (x - s))))

pub walk_from : (xs : List ℕ) (t n k : ℕ) → sum (take k xs) ≤ t → k ≤ length xs
    → walk k (drop k xs) (t - sum (take k xs)) (min n (sum xs - t)) ≡ walk 0 xs t n
walk_from xs t n k h l =
    let d : k ≡ 0 + k = omega arith in
    ap (λ (f : ℕ). walk f (drop k xs) (t - sum (take k xs)) (min n (sum xs - t))) d ∙
    sym (walk_after 0 xs t (min n (sum xs - t)) k h l) ∙
    walk-cut 0 xs t n
