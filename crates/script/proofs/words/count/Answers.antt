-- The chain counts the parts between blanks that hold a byte, and these are the words.
use Rattle.std.proofs.Common.{eqb, not, length, rules, tests, ◌∙◌}
use Rattle.std.proofs.lemmas.Iterator.Consumers.{count_from_yields_List, YieldsList-from_filter, YieldsList-at}
use Rattle.std.proofs.lemmas.Iterator.Splits.{YieldsList-from_slice_split}
use Rattle.script.proofs.Scans.{words-parted}
use Rattle.script.proofs.words.count.Goals as goal

pub returns : goal.returns
returns c =
    let line = c.args.line.now in
    count_from_yields_List c.filter.result c.count.result c.count.ensures.ran
    (YieldsList-from_filter _ (λ w. not (eqb (length w) 0)) (YieldsList-at c.filter.ensures.source (YieldsList-from_slice_split _ (λ b. eqb b 32) line c.split.ensures.rest c.split.ensures.done c.split.ensures.closure (λ x b q k. search (rules, tests)))) c.filter.ensures.closure (λ x b q k. search (rules, tests)))
    ∙ (words-parted line).0
