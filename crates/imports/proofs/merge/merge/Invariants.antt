-- `imports::merge::merge` meets its contract. The loop's invariant: the files before k have got what they get, the kept renames that are
-- left are as they were, and what is left to write gives the whole.
use Prim.Native.Nat.{ℕ, ◌/◌}
use mathlib.Core.Path.{refl}
use lib.ListN.{length}
use Rattle.imports.specs.private.Listed.{named_in, given_in}
use Rattle.imports.proofs.Merging.{Going}
use Rattle.imports.proofs.merge.merge.Given as goal

abbrev pub invariant-loop-k : goal.invariant-loop-k
invariant-loop-k l = Going (named_in l.list) (given_in l.list) (λ (k : ℕ). refl) (λ (k : ℕ). refl) (length l.list.notes.now) (length l.initial.entries / 4) l.initial.p.next l.initial.p.from l.initial.entries l.initial.text l.k l.p l.entries l.text
