-- `lists::access::same` meets its contract. The loop's invariant: the last i bytes of both slices are the same.
use mathlib.Core.Path.{◌≡◌}
use Prim.Native.Nat.{◌-◌}
use lib.ListN.{drop}
use Rattle.lists.proofs.access.same.Given as goal

abbrev pub invariant-loop-i : goal.invariant-loop-i
invariant-loop-i l = drop (l.n - l.i) l.a ≡ drop (l.n - l.i) l.b
