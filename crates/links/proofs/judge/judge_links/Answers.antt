-- `links::judge::judge_links` meets its contract.
use Prim.Native.Nat.{ℕ}
use mathlib.Core.Path.{ap, ◌∙◌}
use lib.ListN.{length}
use Rattle.lookup.specs.Lookup.{lent}
use Rattle.links.specs.Judging.{verdicts}
use Rattle.links.specs.private.Walking.{set_of}
use Rattle.links.proofs.Judgements.{judged-none, judged-count, judged-fits, verdicts-set, judged-yes}
use Rattle.links.proofs.judge.judge_links.Goals as goal

pub returns : goal.returns
returns c =
    let a = c.args in
    let whole = lent a.fs a.rows.now a.dirs.now a.text.now in
    let m : ℕ = length a.marks.now in
    let n = c.in_ok-n.n in
    let count = judged-count whole m a.scratch a.walk_path n c.in_ok-n.ensures in
    judged-yes whole a.marks.now a.scratch a.walk_path n _ (judged-none whole m a.scratch a.walk_path n c.in_ok-n.ensures) count
    (verdicts-set whole a.marks.now c.judge.new.marks n count (judged-fits whole m a.scratch a.walk_path n c.in_ok-n.ensures) (c.judge.ensures ∙ ap (λ s. verdicts (set_of s)) c.new.ensures))
