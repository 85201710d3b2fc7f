-- Laws of runs of stores: `sets l i t` is l with the elements of t stored from position i on, where what falls past the end
-- is dropped. They rely on the kit's laws of `set` and on the laws of proofs/Parts.antt.
use mathlib.Core.Path.{◌≡◌, refl, sym, ap, ◌∙◌}
use mathlib.Core.List.{List, [], ◌∷◌, ◌++◌, append-nil, append_assoc}
use Prim.Native.Nat.{ℕ, zero, suc, ◌+◌, ◌-◌, ◌≤◌, ◌<◌, min}
use native.Mathlib.Nat.{add-zero, zero-add, suc-add, add-suc}
use native.Mathlib.Omega.{arith}
use lib.ListN.{length, get_or, set, take, drop, replicate, length-set, length-take, length-drop, length-replicate, take-append-drop, drop_of_length-le}
use lib.Seq.{paste, sets, sets-eq, length-sets, drop-cons, set_out, set_comm, set-set, take_all, drop-drop, length-take-le, get_or-set_same, get_or-set_other, take-set-le, drop-set-lt}
use Rattle.std.proofs.lemmas.List.{take-replicate}
use Rattle.lists.specs.Lists.{part_of}
use Rattle.lists.proofs.Parts.{take-take-min, drop-take, part-whole, part-append-first, part-append-second}

module _ {A : Type 0} where
  -- a run that starts past the end does nothing
  pub sets-past : (t l : List A) (i : ℕ) → length l ≤ i → sets l i t ≡ l
  sets-past [] l i h = refl
  sets-past (x ∷ t) l i h = rw (set_out l i x h) (sets-past t l (suc i) (omega arith))

  -- a run of which nothing is left, or for which there is no room, does nothing
  pub sets-none : (t l : List A) (i : ℕ) → min (length l - i) (length t) ≡ 0 → sets l i t ≡ l
  sets-none [] l i h = refl
  sets-none (x ∷ t) l i h = sets-past (x ∷ t) l i (omega arith)

  -- one item of a copy, and its end
  pub copy_turn : (l s : List A) (j k i : ℕ) (v : A) → v ≡ get_or s i v → i < length s → k ≡ suc j → sets (set l j v) k (drop (suc i) s) ≡ sets l j (drop i s)
  copy_turn l s j k i v e h q = rw (q, drop-cons s i v h, sym e)

  pub copy_end : (l s : List A) (i : ℕ) → min (length l - i) (length s - i) ≡ 0 → sets l i (drop i s) ≡ l
  copy_end l s i h = sets-none (drop i s) l i (omega (arith, length-drop i s))

  -- two runs, one after the other
  pub sets-append : (t u l : List A) (i : ℕ) → sets l i (t ++ u) ≡ sets (sets l i t) (i + length t) u
  sets-append [] u l i = rw (add-zero i)
  sets-append (x ∷ t) u l i =
      let e : i + suc (length t) ≡ suc i + length t = omega arith in rw e (sets-append t u (set l i x) (suc i))

  -- a store, and a run of them, after a first part
  pub set_after : (p l : List A) (i : ℕ) (a : A) → set (p ++ l) (length p + i) a ≡ p ++ set l i a
  set_after [] l i a = rw (zero-add i)
  set_after (x ∷ p) l i a = rw (suc-add (length p) i) (ap (λ (r : List A). x ∷ r) (set_after p l i a))

  pub sets-after : (t p l : List A) (i : ℕ) → sets (p ++ l) (length p + i) t ≡ p ++ sets l i t
  sets-after [] p l i = refl
  sets-after (x ∷ t) p l i =
      rw (set_after p l i x, ← add-suc (length p) i) (sets-after t p (set l i x) (suc i))

  pub sets-drop : (l : List A) (k : ℕ) (t : List A) → k ≤ length l → sets l k t ≡ take k l ++ sets (drop k l) 0 t
  sets-drop l k t h =
      let e : length (take k l) + 0 ≡ k = omega (arith, length-take-le k l h) in
      let q : sets (take k l ++ drop k l) (length (take k l) + 0) t ≡ take k l ++ sets (drop k l) 0 t = sets-after t (take k l) (drop k l) 0 in
      rw (take-append-drop k l, e) at q

  -- the rest of a slice from place k on, lent and written from its start
  pub sets-lent : (l : List A) (k n : ℕ) (t : List A) → k ≤ length l → n ≡ length l - k
      → take k l ++ (sets (take n (drop k l)) 0 t ++ drop n (drop k l)) ≡ sets l k t
  sets-lent l k n t h e =
      let m : length (drop k l) ≤ n = omega (arith, length-drop k l) in
      rw (take_all n (drop k l) m, drop_of_length-le (drop k l) {i = n} m, append-nil) (sym (sets-drop l k t h))

  -- the last of a run may be stored first
  pub last-first : (t l : List A) (at : ℕ) (b : A) → sets (set l (at + length t) b) at t ≡ sets l at (t ++ (b ∷ []))
  last-first [] l at b = rw add-zero
  last-first (x ∷ t) l at b =
      let e : at + suc (length t) ≡ suc at + length t = omega arith in
      rw (e, set_comm l (suc at + length t) at b x (λ q. omega arith)) (last-first t (set l at x) (suc at) b)

  -- what falls past the end is dropped
  pub sets-cut : (t l : List A) (i : ℕ) → sets l i t ≡ sets l i (take (length l - i) t)
  sets-cut t l i =
      let n = length l - i in
      let e = sets-append (take n t) (drop n t) l i in
      let z = sets-none (drop n t) (sets l i (take n t)) (i + length (take n t)) (omega (arith, length-sets l i (take n t), length-take n t, length-drop n t)) in
      rw (take-append-drop n t) at e ∙ z

  -- a run as a write to a part leaves it: what there is room for, between what stands before and after
  pub sets-part : (t l : List A) (at n : ℕ) → at ≤ length l → n ≡ min (length l - at) (length t) → take at l ++ (take n t ++ drop n (drop at l)) ≡ sets l at t
  sets-part t l at n f h =
      let k : length (take n t) ≡ n = omega (arith, length-take n t) in
      let e = sets-eq (take n t) l at (omega arith) in
      let q = sets-append (take n t) (drop n t) l at in
      let z = sets-none (drop n t) (sets l at (take n t)) (at + length (take n t)) (omega (arith, length-sets l at (take n t), length-drop n t)) in
      rw drop-drop (sym (rw (take-append-drop n t, z, e, k, append_assoc) at q))

  -- the same at the list's start
  pub sets-front : (t l : List A) (n : ℕ) → n ≡ min (length l) (length t) → take 0 l ++ (take n t ++ drop n (drop 0 l)) ≡ sets l 0 t
  sets-front t l n h = sets-part t l 0 n (omega arith) (omega arith)

  -- items moved within a list: as many as stand there and as there is room for, or none
  pub moved : (l : List A) (u from to n : ℕ) → to ≤ length l → n ≡ min (min u (length l) - from) (length l - to)
      → paste l to (drop from l) n ≡ sets l to (drop from (take u l))
  moved l u from to n h e =
      let t = drop from (take u l) in
      let k : length t ≡ min u (length l) - from = omega (arith, length-drop from (take u l), length-take u l) in
      let m : min n (u - from) ≡ n = omega arith in
      let q : take n t ≡ take n (drop from l) = rw drop-take (rw m at (take-take-min n (u - from) (drop from l))) in
      append_assoc (take to l) (take n (drop from l)) (drop (to + n) l) ∙ rw (q, drop-drop n to l) at (sets-part t l to n h (omega arith))

  pub unmoved : (l : List A) (u from to : ℕ) → min (min u (length l) - from) (length l - to) ≡ 0
      → sets l to (drop from (take u l)) ≡ l
  unmoved l u from to e =
      sets-none (drop from (take u l)) l to (omega (arith, length-drop from (take u l), length-take u l))

  pub sets-filled : (l : List A) (at m n k : ℕ) (a : A) → at ≤ length l → n ≡ min m (length l - at) → k ≡ n
      → take at l ++ (replicate k a ++ drop n (drop at l)) ≡ sets l at (replicate m a)
  sets-filled l at m n k a f h e =
      let g : n ≤ m = omega arith in
      rw (e, ← take-replicate n m a g) (sets-part (replicate m a) l at n f (omega (arith, length-replicate m a)))

  -- a run that fills the list
  pub sets-whole : (l t : List A) → length t ≡ length l → sets l 0 t ≡ t
  sets-whole l t h =
      let n : length l ≤ 0 + length t = omega arith in
      sets-eq t l 0 (omega arith) ∙ rw (drop_of_length-le l {i = 0 + length t} n, append-nil t)

  -- an element below the run, above it, and in it
  pub get_or-sets-below : (t l : List A) (i k : ℕ) (d : A) → k < i → get_or (sets l i t) k d ≡ get_or l k d
  get_or-sets-below [] l i k d h = refl
  get_or-sets-below (x ∷ t) l i k d h =
      get_or-sets-below t (set l i x) (suc i) k d (omega arith) ∙ get_or-set_other l i k x d (λ e. omega arith)

  pub get_or-sets-above : (t l : List A) (i k : ℕ) (d : A) → i + length t ≤ k → get_or (sets l i t) k d ≡ get_or l k d
  get_or-sets-above [] l i k d h = refl
  get_or-sets-above (x ∷ t) l i k d h =
      get_or-sets-above t (set l i x) (suc i) k d (omega arith) ∙ get_or-set_other l i k x d (λ e. omega arith)

  pub get_or-sets : (t l : List A) (i k : ℕ) (d : A) → k < length t → i + k < length l → get_or (sets l i t) (i + k) d ≡ get_or t k d
  get_or-sets [] l i k d h f = absurd (omega arith)
  get_or-sets (x ∷ t) l i zero d h f =
      rw (add-zero i) (get_or-sets-below t (set l i x) (suc i) i d (omega arith) ∙ get_or-set_same l i x d (omega arith))
  get_or-sets (x ∷ t) l i (suc k) d h f =
      let e : i + suc k ≡ suc i + k = omega arith in
      rw e (get_or-sets t (set l i x) (suc i) k d (omega arith) (omega (arith, length-set l i x)))

  -- what stands before the run, and after it
  pub take-sets-le : (t l : List A) (i n : ℕ) → n ≤ i → take n (sets l i t) ≡ take n l
  take-sets-le [] l i n h = refl
  take-sets-le (x ∷ t) l i n h = take-sets-le t (set l i x) (suc i) n (omega arith) ∙ take-set-le n l i x h

  pub drop-sets-le : (t l : List A) (i n : ℕ) → i + length t ≤ n → drop n (sets l i t) ≡ drop n l
  drop-sets-le [] l i n h = refl
  drop-sets-le (x ∷ t) l i n h = drop-sets-le t (set l i x) (suc i) n (omega arith) ∙ drop-set-lt n l i x (omega arith)

  -- a part before the run, within it, and the run itself
  pub part-sets-before : (t l : List A) (i at n : ℕ) → at + n ≤ i → part_of (sets l i t) at n ≡ part_of l at n
  part-sets-before t l i at n h =
      let e : n ≡ at + n - at = omega arith in
      rw e (sym (drop-take at (at + n) (sets l i t)) ∙ ap (drop at) (take-sets-le t l i (at + n) h) ∙ drop-take at (at + n) l)

  pub part-sets-within : (t l : List A) (i j n : ℕ) → j + n ≤ length t → i + length t ≤ length l → part_of (sets l i t) (i + j) n ≡ part_of t j n
  part-sets-within t l i j n h f =
      let a = length-take-le i l (omega arith) in
      let r = drop (i + length t) l in
      let e : i + j ≡ length (take i l) + j = omega arith in
      rw (sets-eq t l i f, append_assoc (take i l) t r, e, part-append-second (take i l) (t ++ r) j n) (part-append-first t r j n h)

  pub part-sets : (t l : List A) (i : ℕ) → i + length t ≤ length l → part_of (sets l i t) i (length t) ≡ t
  part-sets t l i f =
      let p = part-sets-within t l i 0 (length t) (omega arith) f in
      rw (add-zero i) at p ∙ part-whole t (length t) (omega arith)

  -- a store before the run or after it, and a run after it, may be made first
  pub sets-set-below : (t l : List A) (i k : ℕ) (a : A) → k < i → sets (set l k a) i t ≡ set (sets l i t) k a
  sets-set-below [] l i k a h = refl
  sets-set-below (x ∷ t) l i k a h =
      rw (set_comm l k i a x (λ e. omega arith)) (sets-set-below t (set l i x) (suc i) k a (omega arith))

  pub sets-set-above : (t l : List A) (i k : ℕ) (a : A) → i + length t ≤ k → sets (set l k a) i t ≡ set (sets l i t) k a
  sets-set-above [] l i k a h = refl
  sets-set-above (x ∷ t) l i k a h =
      rw (set_comm l k i a x (λ e. omega arith)) (sets-set-above t (set l i x) (suc i) k a (omega arith))

  pub sets-comm : (t u l : List A) (i j : ℕ) → i + length t ≤ j → sets (sets l j u) i t ≡ sets (sets l i t) j u
  sets-comm t [] l i j h = refl
  sets-comm t (x ∷ u) l i j h = sets-comm t u (set l j x) i (suc j) (omega arith) ∙ rw (sets-set-above t l i j x h)

  -- a run over another that is no longer
  pub sets_over : (t u l : List A) (i : ℕ) → length t ≤ length u → sets (sets l i t) i u ≡ sets l i u
  sets_over [] u l i h = refl
  sets_over (x ∷ t) [] l i h = absurd (omega arith)
  sets_over (x ∷ t) (y ∷ u) l i h =
      rw (← sets-set-below t (set l i x) (suc i) i y (omega arith), set-set l i x y) (sets_over t u (set l i y) (suc i) (omega arith))

-- for copies to a part of a slice
pub ruleset storing = (sets-past, sets-none, sets-front, sets-filled, sets-lent)

-- for a copy, item by item
pub ruleset copying = (copy_turn, copy_end)

-- for a copy to what stands behind a split
pub ruleset behind = (sets-past, sets-drop)

-- for items moved within a slice
pub ruleset moving = (moved, unmoved)
