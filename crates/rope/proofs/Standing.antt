-- Laws of a place where a byte of a path stands, or where no frame is left. They rely on proofs/Flat.antt and
-- proofs/Places.antt.
use Rattle.std.proofs.Common.{nat_eq}
use Prim.Native.Nat.{ℕ, zero, suc, ◌+◌, ◌-◌, ◌%◌, ◌^◌, ◌<◌, ◌≤◌}
use mathlib.Core.Path.{◌≡◌, refl, sym, ap}
use mathlib.Core.Bool.{not}
use mathlib.Core.List.{List}
use native.Mathlib.Omega.{arith}
use borrow.Author.Tests.{ne_eqb, lt-ltb, le-ltb}
use lib.Dec.{ltb}
use lib.ListN.{length, drop}
use Rattle.rope.specs.declared.frame.Path.{Path}
use Rattle.rope.specs.declared.place.Place.{Place}
use Rattle.rope.specs.Rope.{texts_of, kind, start, unused, held_to, Stands}
use Rattle.rope.proofs.Flat.{segment-length, flat-long, flat_none}
use Rattle.rope.proofs.Places.{more_same, end_same}

-- a place in frame k - 1, whose text has n bytes left and m separators behind it
pub standing : (p : Path) (k at n m : ℕ) → n ≡ length (unused (texts_of p.lent) p.frames.now (k - 1)) → m ≡ kind p.frames.now (k - 1) % 2
    → start p.frames.now (k - 1) + n < 2 ^ 64 → at < n + m → Stands p (record { k = k; at = at })
standing p k at n m e h s l =
    record { there = λ q. omega (arith, segment-length (texts_of p.lent) p.frames.now (k - 1)); small = λ q. omega arith }

-- what stands there is what stands from byte j of the whole on: whether the whole has that byte
module _ (p : Path) (q : Place) (whole : List ℕ) (j : ℕ) (h : drop q.at (held_to p q.k) ≡ drop j whole) where
  has_more : Stands p q → 0 < q.k → j < length whole
  has_more s k = more_same (held_to p q.k) whole q.at j h (omega (arith, s.there k, flat-long (texts_of p.lent) p.frames.now q.k k))

  has_none : q.k ≡ 0 → length whole ≤ j
  has_none k = end_same (held_to p q.k) whole q.at j h (omega (arith, ap length (flat_none (texts_of p.lent) p.frames.now q.k k)))

  -- the test for one
  pub has_is : Stands p q → not (nat_eq q.k 0) ≡ ltb j (length whole)
  has_is s = at q.k refl
    where
      at : (k : ℕ) → q.k ≡ k → not (nat_eq k 0) ≡ ltb j (length whole)
      at zero e = sym (le-ltb j (length whole) (has_none e))
      at (suc k) e = rw (ne_eqb (suc k) 0 (λ z. omega arith)) (sym (lt-ltb j (length whole) (has_more s (omega arith))))
