-- `lookup::set::file_at` meets its contract: the search finds the last file at p, or none.
use mathlib.Core.Bool.{true, false}
use Rattle.std.proofs.Common.{rules, tests}
use Rattle.lookup.specs.Lookup.{lent}
use Rattle.lookup.proofs.Last.{IsAt, last_from_find, last-stands}
use Rattle.lookup.proofs.set.file_at.Goals as goal

pub returns : goal.returns
returns c =
    let s = lent c.args.fs c.args.rows.now c.args.dirs.now c.args.text.now in
    let p = c.args.p.now in
    let last =
    last-stands s p c.find-found.result
    (last_from_find _ (IsAt s p true) (IsAt s p false) (λ x q k. search (rules, tests)) (λ x q k. search (rules, tests)) 0 c.args.fs.num_files _ _ _ c.rev.ensures.source c.find-found.ensures.ran) in
    search (rules, last)
