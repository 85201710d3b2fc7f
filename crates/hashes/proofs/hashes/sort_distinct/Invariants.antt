-- `hashes::hashes::sort_distinct` meets its contract. The loop's invariant: of the sorted numbers, those gone over stand in the first places,
-- each once, and the last of these is the last of them.
use Rattle.hashes.proofs.Collecting.{Sifted}
use Rattle.hashes.proofs.hashes.sort_distinct.Given as goal

abbrev pub invariant-loop-i : goal.invariant-loop-i
invariant-loop-i l = Sifted l.initial.run l.run l.i l.kept
