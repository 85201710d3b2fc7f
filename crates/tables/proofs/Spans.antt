-- Laws of spans: where a text lies and what it reads once another is removed, or once one is put behind the used part. They
-- rely on the kit's laws of `take`, `drop` and `sets`.
use mathlib.Core.Path.{◌≡◌, sym, ap, ◌∙◌}
use mathlib.Core.Logic.{◌⊎◌, inl, inr}
use mathlib.Core.List.{List, ◌++◌}
use Prim.Native.Nat.{ℕ, ◌+◌, ◌-◌, ◌≤◌, ◌<◌, min, max}
use native.Mathlib.Omega.{arith}
use lib.ListN.{length, take, drop, length-append, length-take, length-drop, take-append-drop}
use lib.Seq.{paste, sets, take-append-le, drop-append-le, drop-append-add, drop-drop, length-take-le, length-slice, length-sets, take-take, take_at, sets-eq}
use Rattle.lists.proofs.Orders.{le-or-lt}
use Rattle.lists.proofs.Parts.{take-clipped, drop-take}
use Rattle.lists.proofs.Runs.{part-sets-before, part-sets}
use Rattle.tables.specs.declared.span.Span.{Span}
use Rattle.tables.specs.Span.{end_of, text_at, Apart, lower, low, clip, slid}

-- how a span lies to one that it is apart from
data Side (c s : Span) : Type 0 where
  front : end_of s ≤ c.at → Side c s
  behind : end_of c ≤ s.at → Side c s
  empty : s.len ≡ 0 → Side c s
  idle : c.len ≡ 0 → Side c s

side : (c s : Span) → Apart c s → Side c s
side c s p = one (le-or-lt (end_of s) c.at) (le-or-lt (end_of c) s.at) (le-or-lt s.len 0)
  where
    one : (end_of s ≤ c.at) ⊎ (c.at < end_of s) → (end_of c ≤ s.at) ⊎ (s.at < end_of c) → (s.len ≤ 0) ⊎ (0 < s.len) → Side c s
    one (inl h) b e = front h
    one (inr h) (inl g) e = behind g
    one (inr h) (inr g) (inl e) = empty (omega arith)
    one (inr h) (inr g) (inr e) = idle (omega arith)

lower-idle : (c : Span) (p : ℕ) → c.len ≡ 0 → lower c p ≡ p
lower-idle c p e = omega arith

lower-front : (c : Span) (p : ℕ) → p ≤ c.at → lower c p ≡ p
lower-front c p e = omega arith

lower-behind : (c : Span) (p : ℕ) → end_of c ≤ p → lower c p ≡ p - c.len
lower-behind c p e = omega arith

pub apart-before : (s t : Span) → end_of s ≤ t.at → Apart s t
apart-before s t h = omega arith

pub apart-sym : (s t : Span) → Apart s t → Apart t s
apart-sym s t p = omega arith

pub apart-empty : (s t : Span) → s.len ≡ 0 → Apart s t
apart-empty s t e = omega arith

both_behind : (n a l b m : ℕ) → n ≤ a → n ≤ b → min (a + l) (b + m) ≤ max a b → min (a - n + l) (b - n + m) ≤ max (a - n) (b - n)
both_behind n a l b m h k p = omega arith

across : (c s t : Span) → end_of s ≤ c.at → end_of c ≤ t.at → end_of s ≤ lower c t.at
across c s t h k = omega arith

-- texts that are apart stay apart
pub apart-kept : (c s t : Span) → Apart c s → Apart c t → Apart s t → Apart (low c s) (low c t)
apart-kept c s t p q r = at (side c s p) (side c t q)
  where
    at : Side c s → Side c t → Apart (low c s) (low c t)
    at (empty e) y = apart-empty (low c s) (low c t) e
    at (idle e) y = rw (lower-idle c s.at e, lower-idle c t.at e) r
    at (front e) (empty f) = apart-sym (low c t) (low c s) (apart-empty (low c t) (low c s) f)
    at (front e) (idle f) = rw (lower-idle c s.at f, lower-idle c t.at f) r
    at (front e) (front f) = rw (lower-front c s.at (omega arith), lower-front c t.at (omega arith)) r
    at (front e) (behind f) = rw (lower-front c s.at (omega arith)) (apart-before s (low c t) (across c s t e f))
    at (behind e) (empty f) = apart-sym (low c t) (low c s) (apart-empty (low c t) (low c s) f)
    at (behind e) (idle f) = rw (lower-idle c s.at f, lower-idle c t.at f) r
    at (behind e) (front f) =
        apart-sym (low c t) (low c s) (rw (lower-front c t.at (omega arith)) (apart-before t (low c s) (across c t s f e)))
    at (behind e) (behind f) =
        rw (lower-behind c s.at e, lower-behind c t.at f)
        (both_behind c.len s.at s.len t.at t.len (omega arith) (omega arith) r)

-- a text within the used part stays within what is left of it
pub within-kept : (c s : Span) (u : ℕ) → end_of c ≤ u → end_of s ≤ u → Apart c s → end_of (low c s) ≤ u - c.len
within-kept c s u hc hs p = omega arith

-- a span's part within the used part
pub clip-same : (u : ℕ) (s : Span) → end_of s ≤ u → clip u s ≡ s
clip-same u s h =
    let a : min s.at u ≡ s.at = omega arith in
    let b : min s.len (u - s.at) ≡ s.len = omega arith in
    rw (a, b)

-- a text within the first u bytes reads what they say
pub read-within : (u : ℕ) (text : List ℕ) (s : Span) → end_of s ≤ u → text_at (take u text) s ≡ text_at text s
read-within u text s h =
    rw (drop-take s.at u text) (take-take s.len (u - s.at) (drop s.at text) (omega arith))

-- the bytes without those of span c
abbrev pub cut : Span → List ℕ → List ℕ
cut c text = take c.at text ++ drop (end_of c) text

read-cut : (c s : Span) (text : List ℕ) → Apart c s → end_of c ≤ length text → end_of s ≤ length text → text_at (cut c text) (low c s) ≡ text_at text s
read-cut c s text p hc hs = at (side c s p)
  where
    la : length (take c.at text) ≡ c.at
    la = length-take-le c.at text (omega arith)

    at : Side c s → text_at (cut c text) (low c s) ≡ text_at text s
    at (empty e) = rw e
    at (idle e) =
        let n : end_of c ≡ c.at = omega arith in
        rw (lower-idle c s.at e, n, take-append-drop)
    at (front e) =
        rw (lower-front c s.at (omega arith), drop-append-le s.at (take c.at text) (drop (end_of c) text) (omega (arith, la)))
        (take-append-le s.len (drop s.at (take c.at text)) (drop (end_of c) text) (omega (arith, la, length-drop s.at (take c.at text)))
        ∙ read-within c.at text s e)
    at (behind e) =
        let k : lower c s.at ≡ length (take c.at text) + (s.at - end_of c) = omega (arith, la) in
        let m : end_of c + (s.at - end_of c) ≡ s.at = omega arith in
        rw (k, drop-append-add, drop-drop, m)

-- what follows a span of the used part, copied to its start; what lies past the area's end is in no used part
pub slid_by : (l : List ℕ) (c : Span) (u : ℕ) → end_of c ≤ min u (length l) → paste l c.at (drop (end_of c) l) (min u (length l) - end_of c) ≡ slid c u l
slid_by l c u h =
    let m = min u (length l) in
    let t = take (m - end_of c) (drop (end_of c) l) in
    let n : length t ≡ m - end_of c = omega (arith, length-take (m - end_of c) (drop (end_of c) l), length-drop (end_of c) l) in
    let s = sets-eq t l c.at (omega (arith, n)) in
    rw (← take-clipped u l, drop-take (end_of c) m l) (sym (rw n at s))

module _ (c : Span) (u : ℕ) (text : List ℕ) where
  -- the used part once a span of it is removed
  pub used-slid : end_of c ≤ u → u ≤ length text → take (u - c.len) (slid c u text) ≡ cut c (take u text)
  used-slid h l =
      let front = take c.at text in
      let rest = drop (end_of c) (take u text) in
      let n = length-slice (end_of c) u text l in
      let a = length-take-le c.at text (omega arith) in
      rw (sets-eq rest text c.at (omega arith), take-take c.at u text (omega arith))
      (take_at (front ++ rest) (drop (c.at + length rest) text) (u - c.len) (length-append front rest ∙ omega arith))

  pub length-slid : length (slid c u text) ≡ length text
  length-slid = length-sets text c.at (drop (end_of c) (take u text))

  -- a text that is apart from the one removed reads at its lowered place what it read before
  pub read_kept : (s : Span) → Apart c s → end_of c ≤ u → end_of s ≤ u → u ≤ length text → text_at (slid c u text) (low c s) ≡ text_at text s
  read_kept s p hc hs l =
      let n : length (take u text) ≡ u = length-take-le u text l in
      sym (read-within (u - c.len) (slid c u text) (low c s) (within-kept c s u hc hs p))
      ∙ ap (λ (x : List ℕ). text_at x (low c s)) (used-slid hc l)
      ∙ read-cut c s (take u text) p (rw n hc) (rw n hs)
      ∙ read-within u text s hs

-- once a text is put behind the used part, each text within that reads what it read before, and the new one what was put
pub read-before : (text t : List ℕ) (u : ℕ) (s : Span) → end_of s ≤ u → text_at (sets text u t) s ≡ text_at text s
read-before text t u s h = part-sets-before t text u s.at s.len h

pub read-new : (text t : List ℕ) (u : ℕ) → u + length t ≤ length text → text_at (sets text u t) (record { at = u; len = length t }) ≡ t
read-new text t u h = part-sets t text u h
