-- `path::split::leaf_start` meets its contract. The loop's invariant: i is at most the length, and no separator stands
-- from place i on.
use Prim.Native.Nat.{◌≤◌}
use mathlib.Core.Path.{◌≡◌}
use mathlib.Core.Bool.{false}
use lib.ListN.{length, drop}
use Rattle.lists.specs.Lists.{any}
use Rattle.path.specs.Split.{is_separator}
use Rattle.path.proofs.split.leaf_start.Given as goal

abbrev pub invariant-loop-i : goal.invariant-loop-i
invariant-loop-i l = (l.i ≤ length l.path) × (any is_separator (drop l.i l.path) ≡ false)

abbrev pub decreases-loop-i : goal.decreases-loop-i
decreases-loop-i l = l.i
