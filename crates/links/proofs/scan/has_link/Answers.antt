-- `links::scan::has_link` meets its contract: each flagged link from the place on is asked.
use Prim.Native.Nat.{◌-◌}
use mathlib.Core.Path.{ap, ◌∙◌}
use mathlib.Core.List.{map}
use Rattle.std.proofs.Common.{rules}
use Rattle.std.proofs.lemmas.Iterator.Search.{any_from_yields_List}
use Rattle.links.specs.private.Walking.{lead, store_in, front_of}
use Rattle.links.specs.Flagged.{links_left}
use Rattle.links.proofs.Passing.{links_given}
use Rattle.links.proofs.Scans.{leads_at, any-links}
use Rattle.links.proofs.scan.has_link.Goals as goal

pub returns : goal.returns
returns c =
    any_from_yields_List (leads_at (store_in c.args.front.fs c.args.front.path.lent) (map lead c.args.marks.now) (front_of c.args.front.path c.args.front.e)) _ _ _ c.any.ensures.ran
    (links_given _ _ (ap links_left c.starting_at-links.ensures)) (λ x b q k. search rules)
    ∙ any-links (store_in c.args.front.fs c.args.front.path.lent) (map lead c.args.marks.now) (front_of c.args.front.path c.args.front.e) (c.args.front.fs.num_files - c.args.i0) c.args.i0 c.args.k0
