-- `links::second::walk_links` meets its contract. Its loop keeps: the leads are the first pass's, the marks of the links
-- that are passed hold verdicts, and the others are the first pass's.
use mathlib.Core.Path.{refl, ◌∙◌}
use Rattle.lookup.specs.Lookup.{entries_of, directories_of}
use Rattle.lookup.specs.private.Rows.{entry_at}
use Rattle.links.specs.private.Walking.{set_of}
use Rattle.links.proofs.Passing.{left_all, in_files, at_link, past_link, at_end}
use Rattle.links.proofs.Walked.{judging-start, past-plain, past-link, judging-end}
use Rattle.links.proofs.second.walk_links.Goals as goal

pub loop-k-init : goal.loop-k-init
loop-k-init c = (
  refl,
  left_all c.args.the_set.lent.rows (c.into_iter-k-iterator.ensures.into_iter_gives ∙ c.all-k-items.ensures) refl (judging-start _ _ c.args.marks.now c.requires.0),
)

pub walk_one-requires : goal.walk_one-requires
walk_one-requires c =
    let past = past-plain (entries_of (set_of c.args.the_set)) (directories_of (set_of c.args.the_set)) c.loop-k.marks c.loop-k.k-iterator.k in
    let here = at_link past c.loop-k.invariant.1 c.in-Some.ensures.steps in
    record { bounded = rw c.loop-k.invariant.0 c.requires.1; row = in_files past c.loop-k.invariant.1 c.in-Some.ensures.steps; flag = here.0; marked = here.1.leads }

pub loop-k-preserved : goal.loop-k-preserved
loop-k-preserved c = (
  c.walk_one.auto.frames ∙ c.loop-k.invariant.0,
  past_link (past-plain _ _ c.loop-k.marks c.loop-k.k-iterator.k) c.loop-k.invariant.1 c.in-Some.ensures.steps
      (λ fs q. past-link _ _ c.loop-k.marks c.in-Some.k (entry_at (set_of c.args.the_set) c.in-Some.i) fs c.walk_one.new.marks c.walk_one.ensures),
)

pub returns : goal.returns
returns c = judging-end _ _ c.loop-k.marks c.loop-k.k-iterator.k (at_end (past-plain _ _ c.loop-k.marks c.loop-k.k-iterator.k) c.loop-k.invariant.1 c.in-None.ensures.steps)
