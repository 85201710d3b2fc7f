-- `imports::keep::keep_texts` meets its contract. The loop's invariant: the texts from `from` on are as they were, and what is left
-- of them behind those that were moved gives the whole.
use Prim.Native.Nat.{◌/◌}
use lib.ListN.{length}
use Rattle.imports.specs.private.Merging.{is_noted}
use Rattle.imports.proofs.Keeping.{Joined}
use Rattle.imports.proofs.keep.keep_texts.Given as goal

abbrev pub invariant-loop-entry : goal.invariant-loop-entry
invariant-loop-entry l = Joined (is_noted l.notes) (length l.entries / 4) l.entries l.initial.text l.text (length l.yielded) l.from l.to
