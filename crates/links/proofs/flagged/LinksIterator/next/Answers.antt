-- `links::flagged::Links::next` meets its contract: the first of the files that are left which is a flagged link.
use Prim.Native.Nat.{◌<◌, ◌≤◌}
use mathlib.Core.Path.{◌≡◌, refl}
use mathlib.Core.Bool.{true, false}
use Rattle.std.proofs.Common.{rules, tests}
use Rattle.std.specs.Prelude.{MatchOption}
use Rattle.std.proofs.lemmas.Iterator.{first_from_Range}
use Rattle.tables.specs.Rows.{row_at}
use Rattle.lookup.specs.Lookup.{is_flagged}
use Rattle.links.specs.Flagged.{NoneBetween}
use Rattle.links.proofs.flagged.LinksIterator.next.Goals as goal
use Rattle.links.proofs.flagged.LinksIterator.next.Goals.{After-find}

-- what the search says
found : (c : After-find) → MatchOption c.find.result (NoneBetween c.args.self.now.rows.now c.args.self.now.i c.args.self.now.num_files)
    (λ i. (c.args.self.now.i ≤ i) × (i < c.args.self.now.num_files) × (is_flagged (row_at c.args.self.now.rows.now i).flags ≡ true) × NoneBetween c.args.self.now.rows.now c.args.self.now.i i)
found c = first_from_Range _ _ _ c.find.result (λ i. is_flagged (row_at c.args.self.now.rows.now i).flags ≡ true) (λ i. is_flagged (row_at c.args.self.now.rows.now i).flags ≡ false) c.find.ensures.ran
    (λ x q k. search (rules, tests)) (λ x q k. search (rules, tests))

pub returns-in_err-i-clause-steps : goal.returns-in_err-i-clause-steps
returns-in_err-i-clause-steps c = rw c.from_residual.ensures (rw c.in_err-i.was at (found (goal.at.returns-in_err-i-clause-steps c).After-find))

pub returns-clause-steps : goal.returns-clause-steps
returns-clause-steps c =
    let o = rw c.in_ok-i.was at (found (goal.at.returns-clause-steps c).After-find) in
    record { mark = refl; from = o.0; file = o.1; between = o.3; flag = o.2; next = (refl, refl); same = (refl, refl) }
