-- The starred cases of document 01, and those of document 02 (v), hold: one test over the whole table, by computing.
use mathlib.Core.Path.{◌≡◌, refl}
use mathlib.Core.Bool.{true}
use Rattle.tables.specs.Rows.{filled}
use Rattle.tables.specs.Model.{tabled}
use Rattle.layout.specs.Search.{ascend, last_at_or_before, first_with}
use Rattle.layout.specs.Mapping.{walk}
use Rattle.plan.specs.Write.{directory_index_from}
use Rattle.links.specs.Clean.{step}
use Rattle.links.specs.Clean as links
use Rattle.cases.specs.Cases.{table, all_hold}

pub starred : all_hold table ≡ true
unfolding ascend last_at_or_before first_with walk filled tabled directory_index_from step links.walk
starred = refl
