-- `layout::search::turns` meets its contract. The loop's invariant: the search stands at level j, from `TOP` down to `LOW`.
use Rattle.std.proofs.Common.{◌/◌, ◌≤◌, length}
use Rattle.layout.specs.private.Level.{Level}
use Rattle.layout.proofs.search.turns.Given as goal

abbrev pub invariant-loop-j : goal.invariant-loop-j
invariant-loop-j g l = (g.row.LOW ≤ l.j) × Level l.rows (length l.rows / 8) l.target l.j l.e
