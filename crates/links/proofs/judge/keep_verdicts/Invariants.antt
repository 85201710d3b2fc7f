-- `links::judge::keep_verdicts` meets its contract.
use mathlib.Core.Path.{◌≡◌}
use mathlib.Core.List.{map, ◌++◌}
use lib.ListN.{take, drop}
use Rattle.links.specs.private.Walking.{verdict}
use Rattle.links.proofs.judge.keep_verdicts.Given as goal

-- the loop keeps: the marks before it are their verdicts, the others as at the start
abbrev pub invariant-loop-mark : goal.invariant-loop-mark
invariant-loop-mark l = l.marks ≡ map verdict (take l.mark-index l.initial.marks) ++ drop l.mark-index l.initial.marks
