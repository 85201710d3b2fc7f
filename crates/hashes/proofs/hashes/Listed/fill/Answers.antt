-- `hashes::hashes::Listed::fill` meets its contract. The loop's invariant: the hashes below `from` stand in `out`.
use Prim.Native.Nat.{◌+◌}
use mathlib.Core.Path.{refl, ap, ◌∙◌}
use borrow.Author.Rules.{rules}
use lib.Seq.{sets}
use Rattle.hashes.specs.private.Due.{due}
use Rattle.hashes.proofs.Filling.{first-passed, passed_next, passed-few, passed-stored}
use Rattle.hashes.proofs.hashes.Listed.fill.Goals as goal

pub loop-from-init : goal.loop-from-init
loop-from-init c =
    let a = c.args in
    let g = c.requires.1 in
    (refl, first-passed (due a.self) a.first a.batch.now g, c.copy_in.ensures ∙ ap (sets a.out.now 0) g.stored)

pub overflow_add-at : goal.overflow_add-at
overflow_add-at c =
    let l = c.loop-from in
    let g = c.gather-more in
    let hs = due c.args.self in
    let w = passed-few hs g.result.end (l.at + g.result.count) (passed_next hs l.from l.at l.invariant.1 g.result g.new.batch g.ensures) in
    let r = c.requires.2 in
    search rules

pub loop-from-preserved : goal.loop-from-preserved
loop-from-preserved c =
    let l = c.loop-from in
    let hs = due c.args.self in
    let g = c.gather-more in (
      g.auto.batch ∙ l.invariant.0,
      passed_next hs l.from l.at l.invariant.1 g.result g.new.batch g.ensures,
      c.copy_after.ensures ∙ passed-stored hs l.from l.at l.invariant.1 g.result g.new.batch g.ensures c.args.out.now l.out l.invariant.2,
    )
