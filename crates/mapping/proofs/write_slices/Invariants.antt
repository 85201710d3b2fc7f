-- `mapping::write_slices` meets its contract. The loop's invariant: the slices that came are counted and in the table's
-- first places, and those that are left are to come.
use Rattle.std.proofs.Common.{◌≡◌}
use Rattle.std.specs.Iterator.Adapters.{enumerate_source, enumerate_count}
use Rattle.layout.specs.Start.{slices_from, slices_left}
use Rattle.mapping.proofs.Filling.{Inv}
use Rattle.mapping.proofs.write_slices.Given as goal

abbrev pub invariant-loop-n : goal.invariant-loop-n
invariant-loop-n l =
    (l.count ≡ enumerate_count l.n-iterator)
    × Inv l.initial.out (slices_from l.rows l.fn.at) (enumerate_count l.n-iterator) l.out (slices_left (enumerate_source l.n-iterator))
