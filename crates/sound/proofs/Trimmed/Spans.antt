-- Two texts removed, one after the other: what the others read then, and where they lie. It relies on the laws of spans in
-- `tables`.
use mathlib.Core.Path.{◌≡◌, ap, ◌∙◌}
use mathlib.Core.List.{List}
use Prim.Native.Nat.{ℕ, ◌-◌, ◌≤◌, min}
use native.Mathlib.Omega.{arith}
use lib.ListN.{length}
use Rattle.tables.specs.declared.span.Span.{Span}
use Rattle.tables.specs.Span.{end_of, text_at, Apart, low, slid}
use Rattle.tables.proofs.Spans.{apart-kept, within-kept, read_kept, length-slid}
use Rattle.sound.specs.Sound.{nowhere}

-- after the removal of span c, and then of d
abbrev pub low_twice : Span → Span → Span → Span
low_twice c d s = low d (low c s)

pub low-nowhere : (c : Span) → low c nowhere ≡ nowhere
low-nowhere c = let e : 0 - min c.len (0 - c.at) ≡ 0 = omega arith in rw e

pub low-twice-nowhere : (c d : Span) → low_twice c d nowhere ≡ nowhere
low-twice-nowhere c d = ap (low d) (low-nowhere c) ∙ low-nowhere d

left_in : (u n a b : ℕ) → u ≤ a → b ≡ a → u - n ≤ b
left_in u n a b h e = omega arith

-- c and then l go, of the first u bytes
module _ (c l : Span) (u : ℕ) (text : List ℕ) (hc : end_of c ≤ u) (hl : end_of l ≤ u) (hu : u ≤ length text) (cl : Apart c l) where
  pub next-in : end_of (low c l) ≤ u - c.len
  next-in = within-kept c l u hc hl cl

  module _ (s : Span) (hs : end_of s ≤ u) (cs : Apart c s) (ls : Apart l s) where
    then-apart : Apart (low c l) (low c s)
    then-apart = apart-kept c l s cl cs ls

    pub two-within : end_of (low_twice c (low c l) s) ≤ u - c.len - l.len
    two-within = within-kept (low c l) (low c s) (u - c.len) next-in (within-kept c s u hc hs cs) then-apart

    pub two-read : text_at (slid (low c l) (u - c.len) (slid c u text)) (low_twice c (low c l) s) ≡ text_at text s
    two-read =
        read_kept (low c l) (u - c.len) (slid c u text) (low c s) then-apart next-in (within-kept c s u hc hs cs) (left_in u c.len (length text) (length (slid c u text)) hu (length-slid c u text))
        ∙ read_kept c u text s cs hc hs hu

    pub two-apart : (t : Span) → Apart c t → Apart l t → Apart s t → Apart (low_twice c (low c l) s) (low_twice c (low c l) t)
    two-apart t ct lt st = apart-kept (low c l) (low c s) (low c t) then-apart (apart-kept c l t cl ct lt) (apart-kept c s t cs ct st)
