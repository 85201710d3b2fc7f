-- `cleaning::rewrite::pass` meets its contract. The loop's invariant: the pass is going on at file i, over the same tables, and
-- the scratch space is as long as it was.
use mathlib.Core.Path.{◌≡◌, sym, ap, ◌∙◌}
use denote.Param.{number}
use lib.ListN.{length}
use Rattle.std.proofs.Common.{rules}
use Rattle.tables.specs.Model.{Store}
use Rattle.tables.specs.Lending.{held}
use Rattle.lookup.specs.Lookup.{is_flagged}
use Rattle.cleaning.specs.private.Writing.{flags_in, step_at}
use Rattle.cleaning.proofs.Passes.{step-keeps, step-still, going-on, going-bare, going-link, going_end}
use Rattle.cleaning.specs.contracts.rewrite.pass.{EMPTIES-type}
use Rattle.cleaning.proofs.rewrite.pass.Goals as goal
use Rattle.cleaning.proofs.rewrite.pass.Goals.{then-is_link+in-Some, else-is_link, else-is_link-via-else-is_link, else-is_link-via-then-is_link+in-None-1}

pub loop-i-preserved : goal.loop-i-preserved
loop-i-preserved g c =
    let empties = EMPTIES-type (number g.row.EMPTIES) in
    let a = c.args in
    let l = c.loop-i in
    let first = held a.set.now in
    let now = held l.set in
    let n = first.fs.num_files in
    let room = length a.scratch.now in
    let left = l.marks_left.rest.now in
    let same = l.invariant.1 in
    let going = l.invariant.2 in
    let flagged = sym (c.is_link.ensures ∙ ap (λ (s : Store). is_flagged (flags_in s.rows l.i)) c.read.ensures) in
    let how = c.if-is_link.branch in
    elim how [
      | then-is_link+in-Some w ↦
          let put = rw (l.invariant.0, w.from.ensures) at w.step.ensures.after in
          let kept = w.step.ensures.same in
          rw (w.set-is, w.scratch-is, w.marks_left-is) (
            w.step.auto.scratch ∙ l.invariant.0,
            (kept.0 ∙ same.0, kept.1 ∙ same.1, kept.2 ∙ same.2),
            going-link (step_at empties room) a.marks.now n first (step-keeps empties room) (step-still empties room) now l.i left going c.loop-i-test.true (flagged ∙ w.if-is_link.true) _ _ w.in-Some.ensures.steps (held w.step.new.set) put,
          )
      | else-is_link w ↦
          elim w.else-is_link.branch [
            | else-is_link-via-else-is_link w' ↦
                rw (w.set-is, w.scratch-is, w.marks_left-is, w'.marks_left-is)
                (l.invariant.0, same, going-on (step_at empties room) a.marks.now n first (step-keeps empties room) (step-still empties room) now l.i left going c.loop-i-test.true (flagged ∙ w'.if-is_link.false))
            | else-is_link-via-then-is_link+in-None-1 w' ↦
                let none : length left ≡ 0 = search rules in
                let rest : w'.next.new.self.rest.now ≡ left = search rules in
                rw (w.set-is, w.scratch-is, w.marks_left-is, w'.marks_left-is, rest)
                (l.invariant.0, same, going-bare (step_at empties room) a.marks.now n first (step-keeps empties room) (step-still empties room) now l.i left going c.loop-i-test.true (flagged ∙ w'.if-is_link.true) none)
          ]
    ]

pub returns : goal.returns
returns g c = record {
  after = going_end _ _ _ _ _ _ _ c.loop-i.invariant.2 c.loop-i-test.false;
  same = c.loop-i.invariant.1;
}
