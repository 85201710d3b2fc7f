-- `path::join::join_path` meets its contract: the branch that is kept, and the leaf in the buffer's rest.
use mathlib.Core.Path.{sym, ◌∙◌}
use native.Mathlib.Omega.{arith}
use Rattle.lists.proofs.Runs.{sets-whole}
use Rattle.path.proofs.Joins.{join_written}
use Rattle.path.proofs.join.join_path.Goals as goal

pub returns : goal.returns
returns c =
    let (_, front, _, back, whole) = rw (c.in_ok-buf.ensures.ok_part) at c.split_at_mut_checked.ensures.cases in
    let branch = c.copy_in.ensures ∙ sets-whole c.in_ok-buf.front.now c.join_prefix.result.0.now (sym front) in
    rw branch (join_written c.args.branch.now c.args.leaf.now c.args.buf.now c.join_prefix.result.0.now c.join_prefix.result.1.now
    c.in_ok-buf.rest.now c.join_prefix.ensures.branch c.join_prefix.ensures.separator (omega (arith, whole)) back
    c.in_ok-n.n c.put_leaf.new.rest c.in_ok-n.ensures)
