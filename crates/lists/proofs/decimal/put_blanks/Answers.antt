-- `lists::decimal::put_blanks` meets its contract.
use mathlib.Core.Path.{refl}
use native.Mathlib.Omega.{arith}
use lib.Seq.{length-take-le}
use Rattle.lists.proofs.Runs.{sets-filled}
use Rattle.lists.proofs.decimal.put_blanks.Goals as goal

pub returns-in-Some : goal.returns-in-Some
returns-in-Some c =
    let (_, _, front, rest, whole) = c.in-Some.ensures.cases in
    let n = length-take-le c.min-n.result c.in-Some.rest.now (omega (arith, c.min-n.ensures)) in
    rw (c.fill.ensures.after (λ y e. e), n, front, rest)
    (sets-filled c.args.target.now c.args.at c.args.count c.min-n.result c.min-n.result 32 (omega (arith, whole)) (omega (arith, whole, c.min-n.ensures)) refl)
