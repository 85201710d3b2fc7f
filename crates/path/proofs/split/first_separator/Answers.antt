-- `path::split::first_separator` meets its contract: the search passes what stands before the first separator.
use Rattle.std.proofs.Common.{◌≡◌, ◌+◌, ◌++◌, take, drop, rules, tests}
use Rattle.std.proofs.lemmas.Iterator.{YieldsList-from_slice}
use Rattle.std.proofs.lemmas.Iterator.Search.{position_from_yields_List}
use Rattle.std.proofs.lemmas.Iterator.Adapters.{YieldsList-from_skip}
use Rattle.path.specs.Split.{is_separator, before_first, after_first}
use Rattle.path.proofs.Splits.{first_place}
use Rattle.path.proofs.split.first_separator.Goals as goal
use Rattle.path.proofs.split.first_separator.Goals.{After-map_or}

found : (c : After-map_or) → let p = c.args.path.now in let x = c.map_or.result in (take x p ≡ take c.args.from p ++ before_first (drop c.args.from p)) × (drop (x + 1) p ≡ after_first (drop c.args.from p))
found c =
    let a = c.args in
    first_place a.path.now a.from c.map_or.result c.position.result (λ e. search (rules, tests)) (λ k e. search (rules, tests))
    (position_from_yields_List is_separator _ _ c.position.result c.position.ensures.ran
    (YieldsList-from_skip a.from (YieldsList-from_slice a.path.now cc) c.skip.ensures.count) (λ x b q k. search (rules, tests)))

pub returns-clause-path_value : goal.returns-clause-path_value
returns-clause-path_value c = (found c).0

pub returns-clause-path_value_2 : goal.returns-clause-path_value_2
returns-clause-path_value_2 c = (found c).1
