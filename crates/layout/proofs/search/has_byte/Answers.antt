-- `layout::search::has_byte` meets its contract: a difference that begins anew is larger than every size.
use Rattle.std.proofs.Common.{◌≡◌, ℕ, ◌+◌, ◌-◌, ◌%◌, ◌^◌, ◌<◌, ◌≤◌, ◌&&◌, ltb, leb, ◌⊎◌, refl, sym, ◌∙◌, inl, inr, arith, rules, le-ltb, lt-ltb, le-leb}
use borrow.Author.Tests.{lt-leb}
use Rattle.lists.proofs.Orders.{le-or-lt}
use Rattle.layout.proofs.search.has_byte.Goals as goal

-- d is the target less the offset, round the end of 64 bits
differs : (d t o s : ℕ) → d ≡ (t + (2 ^ 64 - o)) % 2 ^ 64 → t < 2 ^ 64 → o < 2 ^ 48 → s < 2 ^ 48 → ltb d s ≡ (leb o t && ltb t (o + s))
differs d t o s e t-low o-low s-low = by (le-or-lt o t)
  where
    at : o ≤ t → (s ≤ d) ⊎ (d < s) → ltb d s ≡ ltb t (o + s)
    at h (inl p) = le-ltb d s p ∙ sym (le-ltb t (o + s) (omega arith))
    at h (inr p) = lt-ltb d s p ∙ sym (lt-ltb t (o + s) (omega arith))

    by : (o ≤ t) ⊎ (t < o) → ltb d s ≡ (leb o t && ltb t (o + s))
    by (inl p) = rw (le-leb o t p) (at p (le-or-lt s d))
    by (inr p) = rw (lt-leb o t p) (le-ltb d s (omega arith))

pub returns : goal.returns
returns c = differs _ _ _ _ refl (search rules) (omega arith) (omega arith)
