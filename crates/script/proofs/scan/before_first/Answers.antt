-- The library's search is the scan of the spec.
use Rattle.std.proofs.Common.{eqb, rules, tests, refl, ◌∙◌}
use Rattle.std.proofs.lemmas.Iterator.{YieldsList-from_slice}
use Rattle.std.proofs.lemmas.Iterator.Search.{position_from_yields_List}
use Rattle.script.specs.Words.{count_before}
use Rattle.lists.proofs.Searches.{found}
use Rattle.script.proofs.Scans.{before-more}
use Rattle.script.proofs.scan.before_first.Goals as goal

pub returns : goal.returns
returns c =
    let at = c.args.c in
    let text = c.args.bytes.now in
    let by_search = position_from_yields_List (λ b. eqb b at) _ _ c.position.result c.position.ensures.ran (YieldsList-from_slice text c.iter.ensures.rest) (λ x b q k. search (rules, tests)) in
    let scan = found (count_before at) (λ b. eqb b at) refl (before-more at) text c.position.result by_search in
    let value = c.unwrap_or.ensures ∙ scan.0 in
    record { value = value; within = rw value scan.1 }
