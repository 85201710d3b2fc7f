-- `links::resolve::resolve` meets its contract. The outer loop keeps `Walking`: the walk from here has the answer of the whole walk,
-- the texts of all open links still fit, there is a frame for each, and the marks are the same but for uses. The loop over
-- directories keeps: one from d on covers the front just where one of all does. The loop over links keeps: what is left of the scan
-- finds the same link.
use Prim.Native.Nat.{◌-◌}
use mathlib.Core.Path.{◌≡◌}
use mathlib.Core.List.{map}
use lib.ListN.{length}
use Rattle.lookup.specs.Lookup.{is_directory, entries_of, directories_of}
use Rattle.lookup.specs.private.Rows.{directories_from}
use Rattle.links.specs.Clean.{left}
use Rattle.links.specs.private.Walking.{lead, open_of, path_of, set_of, front_of}
use Rattle.links.proofs.Passing.{Left}
use Rattle.links.proofs.Scans.{Scan}
use Rattle.links.proofs.Turning.{Walking, answer_of}
use Rattle.links.proofs.resolve.resolve.Given as goal

abbrev pub invariant-loop-d : goal.invariant-loop-d
invariant-loop-d l =
    (l.e ≡ l.initial.e)
    × (is_directory (directories_from (set_of l.the_set) (l.the_set.fs.num_paths - l.d) l.d) (front_of l.path l.initial.e)
    ≡ is_directory (directories_of (set_of l.the_set)) (front_of l.path l.initial.e))

abbrev pub invariant-loop-k : goal.invariant-loop-k
invariant-loop-k l =
    (l.marks ≡ l.initial.marks)
    × (l.e ≡ l.front.e)
    × Left (set_of l.the_set) l.k-iterator (λ fs k. Scan (entries_of (set_of l.the_set)) fs (map lead l.initial.marks) (front_of l.front.path l.front.e) k)

abbrev pub invariant-walk : goal.invariant-walk
invariant-walk l = (length l.buf ≡ 4096) × Walking (set_of l.the_set) l.initial.marks
    (answer_of (set_of l.the_set) l.initial.marks l.fn.frames) l.marks l.stack.words.now l.stack.depth l.e

abbrev pub decreases-walk : goal.decreases-walk
decreases-walk l = left (open_of (entries_of (set_of l.the_set)) (map lead l.marks)) (path_of (set_of l.the_set) l.stack.words.now l.stack.depth) l.e
