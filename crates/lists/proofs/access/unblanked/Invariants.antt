-- What is left is the slice but for blanks at its start.
use Rattle.std.proofs.Common.{◌≡◌, ◌≤◌, length}
use Rattle.lists.specs.Lists.{unblanked}
use Rattle.lists.proofs.access.unblanked.Given as goal

abbrev pub invariant-loop-rest : goal.invariant-loop-rest
invariant-loop-rest l = (unblanked l.rest ≡ unblanked l.bytes) × (length l.rest ≤ length l.bytes)

abbrev pub decreases-loop-rest : goal.decreases-loop-rest
decreases-loop-rest l = length l.rest
