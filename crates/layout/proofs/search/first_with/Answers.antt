-- `layout::search::first_with` meets its contract: the chain asks the files in turn.
use Rattle.std.proofs.Common.{rules, ◌-◌, refl}
use Rattle.std.proofs.lemmas.Iterator.{YieldsList-from_range}
use Rattle.std.proofs.lemmas.Iterator.Search.{find_from_yields_List}
use Rattle.layout.specs.Search.{has_byte}
use Rattle.layout.proofs.Near.{first_is}
use Rattle.layout.proofs.search.first_with.Goals as goal

pub returns-clause-value : goal.returns-clause-value
returns-clause-value c =
    let a = c.args in
    first_is a.rows.now a.from a.to a.target c.find.result c.requires.0
    (find_from_yields_List (λ k. has_byte a.rows.now k a.target) _ _ _ c.find.ensures.ran (YieldsList-from_range a.from a.to (a.to - a.from) refl refl) (λ x b q h. search rules))
