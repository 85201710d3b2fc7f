-- `additions::parts::inside_span` meets its contract.
use Rattle.std.proofs.Common.{◌≡◌, ◌-◌, length, take, drop, ◌∙◌, arith, rules, tests}
use Rattle.std.specs.List.{prefix_len}
use Rattle.std.proofs.lemmas.List.{take_rest}
use Rattle.std.proofs.lemmas.List.Folds.{length-prefix_len}
use Rattle.std.proofs.lemmas.Iterator.{YieldsList-from_slice}
use Rattle.std.proofs.lemmas.Iterator.Consumers.{count_from_yields_List}
use Rattle.std.proofs.lemmas.Iterator.Search.{YieldsList-from_take_while}
use Rattle.path.specs.Split.{is_separator}
use Rattle.additions.proofs.Texts.{first_le, inside_is}
use Rattle.additions.proofs.parts.inside_span.Goals as goal

pub slice_bounds-rest-count : goal.slice_bounds-rest-count
slice_bounds-rest-count c = omega (arith, first_le c.args.branch.now c.requires.branch_value)

pub slice_bounds-rest-start : goal.slice_bounds-rest-start
slice_bounds-rest-start c = omega (arith, first_le c.args.branch.now c.requires.branch_value)

pub returns : goal.returns
returns c =
    let b = c.args.branch.now in
    let rest = take (length b - c.args.first) (drop c.args.first b) in
    let n : c.count-separators.result ≡ prefix_len is_separator rest =
    count_from_yields_List c.take_while.result _ c.count-separators.ensures.ran (YieldsList-from_take_while _ is_separator (YieldsList-from_slice rest (cc)) c.take_while.ensures.closure c.take_while.ensures.done (λ x b q k. search (rules, tests)))
    ∙ length-prefix_len is_separator rest in
    rw take_rest (inside_is b c.requires.branch_value c.args.first c.count-separators.result c.requires.first_value (rw take_rest at n))
