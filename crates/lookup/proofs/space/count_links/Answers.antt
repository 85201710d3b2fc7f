-- `lookup::space::count_links` meets its contract: the chain counts the files whose rows are those of flagged links.
use mathlib.Core.Path.{◌∙◌}
use mathlib.Core.List.{[]}
use native.Mathlib.Nat.{sub-zero}
use Rattle.std.proofs.Common.{rules}
use Rattle.std.proofs.lemmas.Iterator.{YieldsList-from_range}
use Rattle.std.proofs.lemmas.Iterator.Consumers.{count_from_yields_List, YieldsList-from_filter}
use Rattle.tables.specs.Rows.{row_at}
use Rattle.lookup.specs.Lookup.{is_flagged, lent}
use Rattle.lookup.proofs.Spaces.{count-filtered}
use Rattle.lookup.proofs.space.count_links.Goals as goal

pub returns : goal.returns
returns c =
    let n = c.args.fs.num_files in
    count_from_yields_List c.filter.result c.count.result c.count.ensures.ran
    (YieldsList-from_filter _ (λ i. is_flagged (row_at c.args.rows.now i).flags) (YieldsList-from_range 0 n n c.filter.ensures.source (sub-zero n)) c.filter.ensures.closure (λ x b q k. search rules))
    ∙ count-filtered (lent c.args.fs c.args.rows.now [] [])
