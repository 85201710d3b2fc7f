-- Laws of the bytes of a path that are read one after another: the byte at a place where one stands, and what is left
-- then. They rely on proofs/Flat.antt.
use Prim.Native.Nat.{ℕ, ◌+◌, ◌-◌, ◌<◌, ◌≤◌}
use mathlib.Core.Path.{◌≡◌, sym, ap, ◌∙◌}
use mathlib.Core.List.{[], ◌∷◌}
use lib.ListN.{length, get_or, drop}
use lib.Seq.{drop-nil}
use Rattle.rope.specs.declared.bytes.Bytes.{Bytes}
use Rattle.rope.specs.declared.place.Place.{Place}
use Rattle.rope.specs.Rope.{texts_of, unused, held_to, bytes_left, Stands}
use Rattle.rope.proofs.Flat.{flat_none, text_here, mark_here}

-- what stands at a place is what is left
module _ (s : Bytes) (q : Place) (h : drop q.at (held_to s.path q.k) ≡ bytes_left s) where
  pub left_none : q.k ≡ 0 → bytes_left s ≡ []
  left_none z = sym h ∙ ap (drop q.at) (flat_none (texts_of s.path.lent) s.path.frames.now q.k z) ∙ drop-nil q.at

  pub left_text : (b : ℕ) → 0 < q.k → q.at < length (unused (texts_of s.path.lent) s.path.frames.now (q.k - 1))
      → b ≡ get_or (unused (texts_of s.path.lent) s.path.frames.now (q.k - 1)) q.at 0
      → bytes_left s ≡ b ∷ drop (q.at + 1) (held_to s.path q.k)
  left_text b z l e = sym h ∙ rw e (text_here (texts_of s.path.lent) s.path.frames.now q.k q.at z l)

  pub left_mark : 0 < q.k → length (unused (texts_of s.path.lent) s.path.frames.now (q.k - 1)) ≤ q.at → Stands s.path q
      → bytes_left s ≡ 47 ∷ held_to s.path (q.k - 1)
  left_mark z l t = sym h ∙ mark_here (texts_of s.path.lent) s.path.frames.now q.k q.at z l (t.there z)

-- what a byte is read by
pub ruleset next_byte = (left_none, left_text, left_mark)
