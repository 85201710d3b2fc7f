-- `links::second::walk_links` meets its contract. Its loop keeps: the leads are the first pass's, the marks of the links
-- that are passed hold verdicts, and the others are the first pass's.
use mathlib.Core.Path.{◌≡◌}
use lib.ListN.{length}
use Rattle.lookup.specs.Lookup.{entries_of, directories_of}
use Rattle.links.specs.private.Walking.{set_of}
use Rattle.links.proofs.Passing.{Left}
use Rattle.links.proofs.Walked.{Judging}
use Rattle.links.proofs.second.walk_links.Given as goal

abbrev pub invariant-loop-k : goal.invariant-loop-k
invariant-loop-k l =
    (length l.frames ≡ length l.initial.frames)
    × Left (set_of l.the_set) l.k-iterator (λ fs k. Judging (entries_of (set_of l.the_set)) (directories_of (set_of l.the_set)) fs l.marks k)
