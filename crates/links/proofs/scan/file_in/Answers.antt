-- `links::scan::file_in` meets its contract: the search finds the last file at the front, or none.
use mathlib.Core.Path.{◌∙◌}
use mathlib.Core.Bool.{true, false}
use Rattle.std.proofs.Common.{rules, tests}
use Rattle.lookup.proofs.Last.{IsAt, last_from_find, last-stands}
use Rattle.links.specs.private.Walking.{store_in, front_of}
use Rattle.links.proofs.scan.file_in.Goals as goal

pub returns : goal.returns
returns c =
    let s = store_in c.args.front.fs c.args.front.path.lent in
    let p = front_of c.args.front.path c.args.front.e in
    c.seen_as.ensures
    ∙ last-stands s p c.find-found.result
    (last_from_find _ (IsAt s p true) (IsAt s p false) (λ x q k. search (rules, tests)) (λ x q k. search (rules, tests)) 0 c.args.front.fs.num_files _ _ _ c.rev.ensures.source c.find-found.ensures.ran)
