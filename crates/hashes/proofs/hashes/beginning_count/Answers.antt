-- `hashes::hashes::beginning_count` meets its contract: a directory has one beginning more than separators.
use Rattle.std.proofs.Common.{◌≡◌, ◌<◌, ◌+◌, ℕ, List, [], ◌∷◌, length, sym, ap, ◌∙◌, arith, rules, tests}
use Rattle.std.proofs.lemmas.Iterator.{YieldsList-from_slice}
use Rattle.std.proofs.lemmas.Iterator.Consumers.{count_from_yields_List, YieldsList-from_filter, YieldsList-at}
use Rattle.std.specs.List.{filter}
use Rattle.path.specs.Split.{is_separator}
use Rattle.hashes.specs.Hashes.{beginnings}
use Rattle.hashes.proofs.Hashing.{beginning_number}
use Rattle.hashes.proofs.hashes.beginning_count.Goals as goal

counted : (d : List ℕ) → 0 < length d → length (filter is_separator d) + 1 ≡ length (beginnings d)
counted [] h = absurd (omega arith)
counted (c ∷ t) h = sym (beginning_number [] (c ∷ t))

pub returns : goal.returns
returns c =
    let d = c.args.d.now in
    let n = count_from_yields_List c.filter.result c.count.result c.count.ensures.ran
    (YieldsList-from_filter _ is_separator (YieldsList-at c.filter.ensures.source (YieldsList-from_slice d cc)) c.filter.ensures.closure (λ x b q k. search (rules, tests))) in
    let h : 0 < length d = search rules in
    ap (λ (k : ℕ). k + 1) n ∙ counted d h
