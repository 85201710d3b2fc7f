-- Laws of a path as frames: how long it is, where its bytes stand, and what is left of it behind its front frame. They
-- rely on the kit's laws of lists.
use Prim.Native.Nat.{ℕ, zero, suc, ◌+◌, ◌-◌, ◌%◌, ◌≤◌, ◌<◌}
use mathlib.Core.Path.{◌≡◌, refl, sym, ap, ◌∙◌}
use mathlib.Core.List.{List, [], ◌∷◌, ◌++◌}
use native.Mathlib.Omega.{arith}
use native.Mathlib.Numerals.{add-one}
use borrow.Author.Tests.{lt-ltb, le-ltb}
use lib.ListN.{length, get_or, drop, replicate, length-append, length-replicate, get_or-replicate, get_or-append}
use lib.Seq.{drop-append-add, drop-cons, get_or-append-add}
use Rattle.rope.specs.Rope.{kind, unused, segment, flat, place_in}
use Rattle.rope.specs.declared.place.Place.{Place}

module _ (t : ℕ → List ℕ) (frames : List ℕ) where
  -- a frame: its text's rest, and then a separator or none
  pub segment-length : (k : ℕ) → length (segment t frames k) ≡ length (unused t frames k) + kind frames k % 2
  unfolding segment
  segment-length k =
      length-append (unused t frames k) (replicate (kind frames k % 2) 47)
      ∙ ap (λ (m : ℕ). length (unused t frames k) + m) (length-replicate (kind frames k % 2) 47)

  -- a byte of it, of its text or the separator behind that
  pub segment-text : (k j : ℕ) → j < length (unused t frames k) → get_or (segment t frames k) j 0 ≡ get_or (unused t frames k) j 0
  unfolding segment
  segment-text k j l = get_or-append (unused t frames k) (replicate (kind frames k % 2) 47) 0 j l

  pub segment-mark : (k j : ℕ) → length (unused t frames k) ≤ j → j < length (segment t frames k) → get_or (segment t frames k) j 0 ≡ 47
  unfolding segment
  segment-mark k j h l =
      let m : kind frames k % 2 < 2 = omega arith in
      let e : length (unused t frames k) + 0 ≡ j = omega (arith, segment-length k, m) in
      ap (λ (i : ℕ). get_or (segment t frames k) i 0) (sym e)
      ∙ get_or-append-add (unused t frames k) (replicate (kind frames k % 2) 47) 0 0
      ∙ get_or-replicate (kind frames k % 2) 0 47 0 (omega (arith, segment-length k))

  -- the path: the front frame, and then the path of the others
  pub flat_step : (k : ℕ) → 0 < k → segment t frames (k - 1) ++ flat t frames (k - 1) ≡ flat t frames k
  unfolding flat
  flat_step zero h = absurd (omega arith)
  flat_step (suc k) h = let e : suc k - 1 ≡ k = omega arith in rw e

  pub flat_none : (k : ℕ) → k ≡ 0 → flat t frames k ≡ []
  unfolding flat
  flat_none zero h = refl
  flat_none (suc k) h = absurd (omega arith)

  pub flat-long : (k : ℕ) → 0 < k → length (segment t frames (k - 1)) ≤ length (flat t frames k)
  flat-long k h = omega (arith, ap length (flat_step k h), length-append (segment t frames (k - 1)) (flat t frames (k - 1)))

  pub flat_here : (k at : ℕ) → 0 < k → at < length (segment t frames (k - 1)) → get_or (segment t frames (k - 1)) at 0 ≡ get_or (flat t frames k) at 0
  flat_here k at h l =
      sym (get_or-append (segment t frames (k - 1)) (flat t frames (k - 1)) 0 at l)
      ∙ ap (λ (x : List ℕ). get_or x at 0) (flat_step k h)

  -- a place in the front frame, behind it, and past all frames
  pub place_here : (k at : ℕ) → 0 < k → at < length (unused t frames (k - 1)) + kind frames (k - 1) % 2 → ◌≡◌ {A = Place} (record { k = k; at = at }) (place_in t frames k at)
  unfolding place_in
  place_here zero at h l = absurd (omega arith)
  place_here (suc k) at h l =
      let e : suc k - 1 ≡ k = omega arith in
      let f : at < length (unused t frames k) + kind frames k % 2 = rw e at l in
      let q : at < length (segment t frames k) = omega (arith, segment-length k, f) in
      rw (lt-ltb at (length (segment t frames k)) q)

  pub place_on : (k at n m : ℕ) → 0 < k → n ≡ length (unused t frames (k - 1)) → m ≡ kind frames (k - 1) % 2 → n + m ≤ at
      → place_in t frames (k - 1) (at - n - m) ≡ place_in t frames k at
  unfolding place_in
  place_on zero at n m h p q l = absurd (omega arith)
  place_on (suc k) at n m h p q l =
      let e : suc k - 1 ≡ k = omega arith in
      let u : n ≡ length (unused t frames k) = rw e at p in
      let w : m ≡ kind frames k % 2 = rw e at q in
      let s = segment-length k in
      let far : length (segment t frames k) ≤ at = omega (arith, s, u, w, l) in
      let rest : at - n - m ≡ at - length (segment t frames k) = omega (arith, s, u, w) in
      rw (e, rest, le-ltb at (length (segment t frames k)) far)

  pub place_none : (k at : ℕ) → k ≡ 0 → ◌≡◌ {A = Place} (record { k = 0; at = at }) (place_in t frames k at)
  unfolding place_in
  place_none zero at h = refl
  place_none (suc k) at h = absurd (omega arith)

  -- a place behind the front frame is one in the path of the others
  pub flat_dropped : (k at n m : ℕ) → 0 < k → n ≡ length (unused t frames (k - 1)) → m ≡ kind frames (k - 1) % 2 → n + m ≤ at
      → drop (at - n - m) (flat t frames (k - 1)) ≡ drop at (flat t frames k)
  flat_dropped k at n m h p q l =
      let s = segment-length (k - 1) in
      let e : length (segment t frames (k - 1)) + (at - n - m) ≡ at = omega arith in
      sym (drop-append-add (segment t frames (k - 1)) (flat t frames (k - 1)) (at - n - m))
      ∙ ap (λ (i : ℕ). drop i (segment t frames (k - 1) ++ flat t frames (k - 1))) e
      ∙ ap (drop at) (flat_step k h)

-- the byte at a place in the front frame, and what is left behind it
module _ (t : ℕ → List ℕ) (frames : List ℕ) (k at : ℕ) (h : 0 < k) where
  byte-here : at < length (segment t frames (k - 1)) → drop at (flat t frames k) ≡ get_or (segment t frames (k - 1)) at 0 ∷ drop (at + 1) (flat t frames k)
  byte-here l =
      let m : at < length (flat t frames k) = omega (arith, flat-long t frames k h) in
      rw (add-one, flat_here t frames k at h l) (drop-cons (flat t frames k) at 0 m)

  -- where its text has a byte left, that one; else the separator, and with that the frame is passed
  pub text_here : at < length (unused t frames (k - 1)) → drop at (flat t frames k) ≡ get_or (unused t frames (k - 1)) at 0 ∷ drop (at + 1) (flat t frames k)
  text_here l = byte-here (omega (arith, segment-length t frames (k - 1))) ∙ ap (λ (b : ℕ). b ∷ drop (at + 1) (flat t frames k)) (segment-text t frames (k - 1) at l)

  pub mark_here : length (unused t frames (k - 1)) ≤ at → at < length (segment t frames (k - 1)) → drop at (flat t frames k) ≡ 47 ∷ flat t frames (k - 1)
  mark_here l n =
      let s = segment-length t frames (k - 1) in
      let z : at + 1 - length (unused t frames (k - 1)) - kind frames (k - 1) % 2 ≡ 0 = omega (arith, s) in
      byte-here n
      ∙ rw (segment-mark t frames (k - 1) at l n, ← flat_dropped t frames k (at + 1) (length (unused t frames (k - 1))) (kind frames (k - 1) % 2) h refl refl (omega (arith, s)), z)

-- what a walk through frames needs, turn by turn and where it stops
pub ruleset walking = (flat_dropped, place_on, place_here, place_none)
