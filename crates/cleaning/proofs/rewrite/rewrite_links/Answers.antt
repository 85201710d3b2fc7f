-- `cleaning::rewrite::rewrite_links` meets its contract. The first pass leaves the scratch space as long as it was.
use Prim.Native.Nat.{ℕ}
use mathlib.Core.Path.{ap, ◌∙◌}
use lib.ListN.{length}
use mathlib.Core.Bool.{false}
use Rattle.tables.specs.Lending.{held}
use Rattle.cleaning.specs.private.Writing.{all_verdicts, passed, step_at}
use Rattle.cleaning.proofs.Passes.{passes-written}
use Rattle.cleaning.proofs.rewrite.rewrite_links.Goals as goal

pub returns-clause-after : goal.returns-clause-after
returns-clause-after c =
    let first = c.pass in
    let now = held first.new.set in
    let marks = c.args.marks.now in
    c.pass-2.ensures.after
    ∙ ap (λ (n : ℕ). passed (step_at false n) (all_verdicts now marks) 0 now) first.auto.scratch
    ∙ passes-written (length c.args.scratch.now) marks (held c.args.set.now) now first.ensures.after
