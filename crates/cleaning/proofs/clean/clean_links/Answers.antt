-- `cleaning::clean::clean_links` meets its contract: links are judged with 65535 marks, and then the texts written.
use Prim.Native.Nat.{ℕ}
use mathlib.Core.Path.{ap, ◌∙◌}
use lib.ListN.{length, replicate, length-replicate}
use Rattle.tables.specs.Model.{Store}
use Rattle.tables.specs.Lending.{held}
use Rattle.links.specs.Judging.{judged}
use Rattle.cleaning.proofs.Cleans.{judging-goes}
use Rattle.cleaning.proofs.clean.clean_links.Goals as goal

pub returns-clause-value : goal.returns-clause-value
returns-clause-value c =
    let a = c.args in
    let blank = replicate 65535 0 in
    let told = c.in_ok-judge_links.ensures ∙ ap (λ (s : Store). judged s blank (length a.scratch.now) a.walk_path) c.read.ensures in
    c.write_judged.ensures.value
    ∙ judging-goes (held a.set.now) blank 65535 (length-replicate {A = ℕ} 65535 0) a.scratch.now a.walk_path c.judge_links.new.marks _ told
