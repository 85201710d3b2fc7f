-- `imports::keep::keep_entries` meets its contract. The loop's invariant: the entries from i on are as they were, and what is left
-- of them behind those that were moved gives the whole.
use Prim.Native.Nat.{◌/◌}
use lib.ListN.{length}
use Rattle.imports.specs.private.Merging.{is_noted}
use Rattle.imports.proofs.Keeping.{Moved}
use Rattle.imports.proofs.keep.keep_entries.Given as goal

abbrev pub invariant-loop-i : goal.invariant-loop-i
invariant-loop-i l = Moved (is_noted l.notes) (length l.initial.entries / 4) l.at l.initial.entries l.entries l.i l.to l.begin
