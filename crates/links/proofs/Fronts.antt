-- Laws of a path's front: frames written, bytes dropped, and what a link's text makes of the path. They rely on the
-- laws of frames in Flat.antt and on the kit's laws of lists.
use Prim.Native.Nat.{ℕ, zero, suc, ◌+◌, ◌-◌, ◌*◌, ◌/◌, ◌%◌, ◌≤◌, ◌<◌}
use mathlib.Core.Path.{◌≡◌, refl, sym, ap, ◌∙◌}
use mathlib.Core.Bool.{Bool, true, false, cond, not}
use mathlib.Core.List.{List, [], ◌∷◌, ◌++◌, append-nil, append_assoc}
use native.Mathlib.Omega.{arith}
use lib.Dec.{eqb}
use lib.ListN.{length, set, drop, replicate, length-set}
use lib.Seq.{get_or-set_same, get_or-set_other, drop-append-le, drop-drop}
use Rattle.path.specs.Join.{is_alone, is_closed, combined}
use Rattle.rope.specs.declared.lead.Lead.{Lead}
use Rattle.rope.specs.Rope.{leads, led_text, frame_width, half_word, kind, start, unused, segment, flat}
use Rattle.links.specs.private.Walking.{with_start, with_frame, word_of}
use Rattle.rope.proofs.Leads.{text_numbered}
use Rattle.rope.proofs.Flat.{segment-length, flat_step, flat_none}

-- ---- frames written

module _ (t : ℕ → List ℕ) (frames : List ℕ) where
  -- a store behind a frame leaves it, and the frames before it
  start-other : (k i v : ℕ) → k * frame_width + 2 < i → start (set frames i v) k ≡ start frames k
  unfolding start
  start-other k i v h =
      let p : k * frame_width + 1 ≡ i → ⊥ = λ e. omega arith in
      let q : k * frame_width + 2 ≡ i → ⊥ = λ e. omega arith in
      rw (
        get_or-set_other frames i (k * frame_width + 1) v 0 p,
        get_or-set_other frames i (k * frame_width + 2) v 0 q,
      )

  segment-other : (k i v : ℕ) → k * frame_width + 2 < i → segment t (set frames i v) k ≡ segment t frames k
  unfolding segment
  segment-other k i v h =
      let p : k * frame_width ≡ i → ⊥ = λ e. omega arith in
      rw (get_or-set_other frames i (k * frame_width) v 0 p, start-other k i v h)

  flat-other : (k i v : ℕ) → k * frame_width ≤ i → flat t (set frames i v) k ≡ flat t frames k
  unfolding flat
  flat-other zero i v h = refl
  flat-other (suc k) i v h = rw (segment-other k i v (omega arith), flat-other k i v (omega arith))

-- a start written: its frame has it and the same text, and the frames before it stay
module _ (frames : List ℕ) (k n : ℕ) where
  kind-start : kind (with_start frames k n) k ≡ kind frames k
  kind-start =
      let p : k * frame_width ≡ k * frame_width + 1 → ⊥ = λ e. omega arith in
      let q : k * frame_width ≡ k * frame_width + 2 → ⊥ = λ e. omega arith in
      get_or-set_other (set frames (k * frame_width + 1) (n % half_word)) (k * frame_width + 2) (k * frame_width) (n / half_word) 0 q
      ∙ get_or-set_other frames (k * frame_width + 1) (k * frame_width) (n % half_word) 0 p

  halves : n % half_word + n / half_word * half_word ≡ n
  halves = omega arith

  start-start : k * frame_width + 2 < length frames → start (with_start frames k n) k ≡ n
  unfolding start
  start-start h =
      let f = set frames (k * frame_width + 1) (n % half_word) in
      let l = length-set frames (k * frame_width + 1) (n % half_word) in
      let p : k * frame_width + 1 ≡ k * frame_width + 2 → ⊥ = λ e. omega arith in
      rw (
        get_or-set_other f (k * frame_width + 2) (k * frame_width + 1) (n / half_word) 0 p,
        get_or-set_same frames (k * frame_width + 1) (n % half_word) 0 (omega arith),
        get_or-set_same f (k * frame_width + 2) (n / half_word) 0 (omega (arith, l)),
      )
      halves

  flat_start : (t : ℕ → List ℕ) → flat t (with_start frames k n) k ≡ flat t frames k
  flat_start t =
      flat-other t (set frames (k * frame_width + 1) (n % half_word)) k (k * frame_width + 2) (n / half_word) (omega arith)
      ∙ flat-other t frames k (k * frame_width + 1) (n % half_word) (omega arith)

module _ (t : ℕ → List ℕ) (frames : List ℕ) where
  -- a start moved on
  segment-moved : (k n : ℕ) → k * frame_width + 2 < length frames → n ≤ length (unused t frames k)
      → segment t (with_start frames k (start frames k + n)) k ≡ drop n (segment t frames k)
  unfolding segment
  segment-moved k n h l =
      rw (
        kind-start frames k (start frames k + n),
        start-start frames k (start frames k + n) h,
        ← drop-drop n (start frames k) (t (kind frames k / 2)),
      )
      (sym (drop-append-le n (unused t frames k) (replicate (kind frames k % 2) 47) l))

  pub flat-moved : (k n : ℕ) → 0 < k → (k - 1) * frame_width + 2 < length frames
      → n < length (segment t frames (k - 1))
      → flat t (with_start frames (k - 1) (start frames (k - 1) + n)) k ≡ drop n (flat t frames k)
  flat-moved k n h q l =
      let f = with_start frames (k - 1) (start frames (k - 1) + n) in
      sym (flat_step t f k h)
      ∙ rw (segment-moved (k - 1) n q (omega (arith, segment-length t frames (k - 1))), flat_start frames (k - 1) (start frames (k - 1) + n) t)
      (sym (drop-append-le n (segment t frames (k - 1)) (flat t frames (k - 1)) (omega arith)))
      ∙ ap (drop n) (flat_step t frames k h)

-- a frame put in front
module _ (t : ℕ → List ℕ) (frames : List ℕ) (k w : ℕ) (h : k * frame_width + 2 < length frames) where
  segment-put : segment t (with_frame frames k w) k ≡ t (w / 2) ++ replicate (w % 2) 47
  unfolding segment
  segment-put =
      rw (
        kind-start (set frames (k * frame_width) w) k 0,
        start-start (set frames (k * frame_width) w) k 0 (omega (arith, length-set frames (k * frame_width) w)),
        get_or-set_same frames (k * frame_width) w 0 (omega arith),
      )

  flat-put : flat t (with_frame frames k w) (k + 1) ≡ (t (w / 2) ++ replicate (w % 2) 47) ++ flat t frames k
  flat-put =
      let f = with_frame frames k w in
      let e : k + 1 - 1 ≡ k = omega arith in
      sym (flat_step t f (k + 1) (omega arith))
      ∙ rw (
        e,
        segment-put,
        flat_start (set frames (k * frame_width) w) k 0 t,
        flat-other t frames k (k * frame_width) w (omega arith),
      )

-- ---- what is alone

no_bool : (b : Bool) → false ≡ cond b false false
no_bool true = refl
no_bool false = refl

pub alone_more : (p : List ℕ) → 1 < length p → false ≡ is_alone p
alone_more [] h = absurd (omega arith)
alone_more (c ∷ []) h = absurd (omega arith)
alone_more (c ∷ d ∷ p) h = no_bool (eqb c 46)

-- ---- a link's text and the rest of the path

module _ (l r : List ℕ) where
  pub combined-text : is_alone l ≡ false → is_alone r ≡ true → l ≡ combined l r
  combined-text e f = rw (e, f)

  mark-first : (b : Bool) → replicate (cond (not b) 1 0) 47 ++ r ≡ cond b r (47 ∷ r)
  mark-first true = refl
  mark-first false = refl

  combined-both : is_alone l ≡ false → is_alone r ≡ false → (l ++ replicate (cond (not (is_closed l)) 1 0) 47) ++ r ≡ combined l r
  combined-both e f = append_assoc l (replicate (cond (not (is_closed l)) 1 0) 47) r ∙ rw (mark-first (is_closed l), e, f)

-- ---- the two parts of a frame's first word

word-text : (v : ℕ) (s : Bool) → (v * 2 + cond s 1 0) / 2 ≡ v
word-text v true = omega arith
word-text v false = omega arith

word-tail : (v : ℕ) (s : Bool) → (v * 2 + cond s 1 0) % 2 ≡ cond s 1 0
word-tail v true = omega arith
word-tail v false = omega arith

-- ---- a lead's text alone, and before the rest of the path

module _ (rows dirs text frames : List ℕ) (w : Lead) where
  abbrev texts : ℕ → List ℕ
  texts = leads rows dirs text

  abbrev number : ℕ
  number = w.file * 4 + cond w.from_directory 2 0

  led : led_text rows dirs text w ≡ texts number
  led = text_numbered rows dirs text w.file number w.from_directory refl

  put : (k : ℕ) (s : Bool) → k * frame_width + 2 < length frames
      → flat texts (with_frame frames k (word_of w s)) (k + 1) ≡ (led_text rows dirs text w ++ replicate (cond s 1 0) 47) ++ flat texts frames k
  put k s h = flat-put texts frames k (word_of w s) h ∙ rw (word-text number s, word-tail number s, led)

  pub flat-alone : 1 * frame_width ≤ length frames → flat texts (with_frame frames 0 (word_of w false)) 1 ≡ led_text rows dirs text w
  flat-alone h = put 0 false (omega arith) ∙ rw (flat_none texts frames 0 refl, append-nil (led_text rows dirs text w), append-nil (led_text rows dirs text w))

  pub flat-through : (k : ℕ) (s : Bool) → k * frame_width + 2 < length frames → s ≡ not (is_closed (led_text rows dirs text w))
      → is_alone (led_text rows dirs text w) ≡ false → is_alone (flat texts frames k) ≡ false
      → flat texts (with_frame frames k (word_of w s)) (k + 1) ≡ combined (led_text rows dirs text w) (flat texts frames k)
  flat-through k s h e x y = put k s h ∙ rw e (combined-both (led_text rows dirs text w) (flat texts frames k) x y)
