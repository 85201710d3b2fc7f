-- `links::mark::reopen` meets its contract. Its loop keeps: the marks before it have their leads untraversed, the others are
-- as at the start.
use mathlib.Core.Path.{◌≡◌}
use mathlib.Core.List.{map, ◌++◌}
use lib.ListN.{take, drop}
use Rattle.links.proofs.Packed.{reopened}
use Rattle.links.proofs.mark.reopen.Given as goal

abbrev pub invariant-loop-mark : goal.invariant-loop-mark
invariant-loop-mark l = l.marks ≡ map reopened (take l.mark-index l.initial.marks) ++ drop l.mark-index l.initial.marks
