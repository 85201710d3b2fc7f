-- `links::judge::keep_verdicts` meets its contract.
use mathlib.Core.Path.{refl}
use native.Mathlib.Omega.{arith}
use Rattle.links.specs.private.Walking.{verdict}
use Rattle.links.proofs.Packed.{map_written}
use Rattle.links.proofs.judge.keep_verdicts.Goals as goal

pub loop-mark-preserved : goal.loop-mark-preserved
loop-mark-preserved c =
    let l = c.loop-mark in
    map_written verdict c.args.marks.now l.mark-index l.marks (verdict _) (omega arith) l.invariant refl
