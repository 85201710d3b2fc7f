-- `lists::access::copy_in` meets its contract. The loop's invariant: the target keeps its length, and the source from i on,
-- stored from i on, gives the whole copy.
use mathlib.Core.Path.{◌≡◌}
use lib.ListN.{length, drop}
use lib.Seq.{sets}
use Rattle.lists.proofs.access.copy_in.Given as goal

abbrev pub invariant-loop-i : goal.invariant-loop-i
invariant-loop-i g l =
    (length l.target ≡ length l.initial.target) × (sets l.target l.i (drop l.i l.source) ≡ sets l.initial.target 0 l.source)
