-- `trim::trim::find_tail_pad` meets its contract: the chain asks the rows from the last on.
use Rattle.std.proofs.Common.{◌/◌, length, rules, tests}
use Rattle.std.proofs.lemmas.Iterator.Search.{find_from_yields_List}
use Rattle.trim.proofs.Trims.{YieldsList-from_back, has_bytes, last_found}
use Rattle.trim.proofs.trim.find_tail_pad.Goals as goal

pub returns : goal.returns
returns c =
    let rows = c.args.rows.now in
    let n = length rows / 8 in
    last_found rows n c.rfind.result
    (find_from_yields_List (has_bytes rows) _ _ c.rfind.result c.rfind.ensures.ran (YieldsList-from_back n) (λ x b q h. search (rules, tests)))
    (λ e. search rules)
    (λ i e. search rules)
