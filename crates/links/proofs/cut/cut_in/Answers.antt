-- `links::cut::cut_in` meets its contract: the bytes before the first separator are counted.
use Rattle.std.proofs.Common.{◌≡◌, ◌+◌, not, drop, ap, ◌∙◌, rules, tests}
use Rattle.std.specs.List.{prefix_len}
use Rattle.std.proofs.lemmas.List.Folds.{length-prefix_len}
use Rattle.std.proofs.lemmas.Iterator.Consumers.{YieldsList-from_first, count_from_yields_List}
use Rattle.std.proofs.lemmas.Iterator.Search.{YieldsList-from_take_while}
use Rattle.path.specs.Split.{is_separator}
use Rattle.rope.specs.Rope.{held, bytes_left}
use Rattle.links.proofs.Cuts.{before-count, part-is}
use Rattle.links.proofs.cut.cut_in.Goals as goal

pub returns : goal.returns
returns c =
    let rest = drop (c.skipped_in-c.result + c.saturating_sub-begin.result) (held c.args.path) in
    let n : c.count.result ≡ prefix_len (λ b. not (is_separator b)) rest =
    count_from_yields_List c.take_while.result _ c.count.ensures.ran (YieldsList-from_take_while _ (λ b. not (is_separator b)) (YieldsList-from_first (λ x. x) bytes_left rest (ap bytes_left c.take_while.ensures.source ∙ c.bytes_from.ensures)) c.take_while.ensures.closure c.take_while.ensures.done (λ x b q k. search (rules, tests)))
    ∙ length-prefix_len (λ b. not (is_separator b)) rest in
    part-is (held c.args.path) c.args.pos c.skipped_in-c.result c.saturating_sub-begin.result c.count.result c.requires.0 c.skipped_in-c.ensures c.saturating_sub-begin.ensures (n ∙ before-count rest)
