-- `rope::frame::Path::seek_from` meets its contract. Its loop keeps: what stands from byte `at` on in the path that k
-- frames hold is what stands from the given place on, and both have one place.
use Prim.Native.Nat.{◌≤◌}
use mathlib.Core.Path.{◌≡◌}
use lib.ListN.{drop}
use Rattle.rope.specs.Rope.{texts_of, held_to, place_in}
use Rattle.rope.proofs.frame.Path.seek_from.Given as goal

abbrev pub invariant-loop-k : goal.invariant-loop-k
invariant-loop-k l =
    (l.at ≤ l.fn.from.at)
    × (drop l.at (held_to l.self l.k) ≡ drop l.fn.from.at (held_to l.self l.fn.from.k))
    × (place_in (texts_of l.self.lent) l.self.frames.now l.k l.at ≡ place_in (texts_of l.self.lent) l.self.frames.now l.fn.from.k l.fn.from.at)
