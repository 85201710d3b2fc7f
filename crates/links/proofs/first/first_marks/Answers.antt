-- `links::first::first_marks` meets its contract. Its loop keeps: the marks of the links that are passed are set, and
-- setting those of the files that are left gives the whole.
use mathlib.Core.Path.{refl, ap, ◌∙◌}
use lib.ListN.{set}
use Rattle.lookup.specs.private.Rows.{entry_at}
use Rattle.links.specs.private.Walking.{set_of}
use Rattle.links.proofs.Marking.{sets-past, sets-link}
use Rattle.links.proofs.Passing.{left_all, past_link, at_end}
use Rattle.links.proofs.first.first_marks.Goals as goal

pub loop-k-init : goal.loop-k-init
loop-k-init c = left_all c.args.the_set.lent.rows (c.into_iter-k-iterator.ensures.into_iter_gives ∙ c.all-k-items.ensures) refl refl

pub loop-k-preserved : goal.loop-k-preserved
loop-k-preserved c =
    past_link (sets-past (set_of c.args.the_set) _ c.loop-k.marks c.loop-k.k-iterator.k) c.loop-k.invariant c.in-Some.ensures.steps
    (λ fs q. sets-link (set_of c.args.the_set) _ c.loop-k.marks c.put.new.items c.in-Some.k (entry_at (set_of c.args.the_set) c.in-Some.i) fs (c.put.ensures ∙ ap (set c.loop-k.marks c.in-Some.k) c.first_mark-m.ensures))

pub returns : goal.returns
returns c = at_end (sets-past (set_of c.args.the_set) _ c.loop-k.marks c.loop-k.k-iterator.k) c.loop-k.invariant c.in-None.ensures.steps
