-- Laws of a part replaced: items copied within a table, and the new items in front of what was moved. They
-- rely on the laws of `lists`.
use Prim.Native.Nat.{ℕ, ◌+◌, ◌-◌, ◌≤◌}
use mathlib.Core.Path.{◌≡◌, sym, ◌∙◌}
use mathlib.Core.List.{List, ◌++◌}
use native.Mathlib.Omega.{arith}
use lib.ListN.{length, take, drop, take-append-drop}
use lib.Seq.{paste, sets, sets-eq, length-take-le}
use Rattle.lists.proofs.Runs.{moved, sets-append, sets-comm}
use Rattle.renames.specs.private.Slots.{spliced}

module _ {A : Type 0} (l : List A) where
  -- the items from i up to j, copied to `dest`
  pub copied : (i j dest : ℕ) → i ≤ j → j ≤ length l → dest + (j - i) ≤ length l → paste l dest (drop i l) (j - i) ≡ sets l dest (drop i (take j l))
  copied i j dest a b c = moved l j i dest (j - i) (omega arith) (omega arith)

  -- the moved items, then the new ones in front of them
  pub splice_is : (new : List A) (u at old : ℕ) → sets (sets l (at + length new) (drop (at + old) (take u l))) at new ≡ spliced l u at old new
  splice_is new u at old =
      let t = drop (at + old) (take u l) in
      sets-comm new t l at (at + length new) (omega arith) ∙ sym (sets-append new t l at)

  -- a table that begins with its own first items
  pub sets-own : (t : List A) (k : ℕ) → k ≤ length l → sets l 0 (take k l ++ t) ≡ sets l k t
  sets-own t k h =
      let n = length-take-le k l h in
      let z : 0 + length (take k l) ≡ k = omega arith in
      let own : sets l 0 (take k l) ≡ l = sets-eq (take k l) l 0 (omega arith) ∙ rw (z, take-append-drop k l) in
      rw (own, z) at (sets-append (take k l) t l 0)
