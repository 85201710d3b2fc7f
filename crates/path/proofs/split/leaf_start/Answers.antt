-- `path::split::leaf_start` meets its contract. The loop's invariant: i is at most the length, and no separator stands
-- from place i on.
use native.Mathlib.Omega.{arith}
use Rattle.path.proofs.Splits.{leaf_here, leaf_next}
use Rattle.path.proofs.split.leaf_start.Goals as goal

pub returns-then-path-i-eq47 : goal.returns-then-path-i-eq47
returns-then-path-i-eq47 c =
    let h = leaf_here c.args.path.now c.loop-i.i (omega arith) (omega arith) c.if-path-i-eq47.true c.loop-i.invariant.1 in
    (omega arith, h.0, h.1)

pub returns-then-path-i-eq47-2 : goal.returns-then-path-i-eq47-2
returns-then-path-i-eq47-2 c =
    let h = leaf_next c.args.path.now c.loop-i.i (omega arith) (omega arith) c.if-path-i-eq47.false c.if-path-i-eq47-2.true c.loop-i.invariant.1 in
    (omega arith, h.0, h.1)
