-- `path::join::append_path` meets its contract: the branch is not written again, since it stands in the buffer already.
use Rattle.std.proofs.Common.{◌≡◌, take, rules}
use Rattle.path.proofs.Joins.{append_written}
use Rattle.path.proofs.join.append_path.Goals as goal

pub returns : goal.returns
returns c =
    let a = c.args in
    let b : c.in_ok-branch.branch.now ≡ take a.used a.buf.now = search rules in
    let p = c.join_prefix.ensures in
    append_written a.buf.now a.leaf.now c.join_prefix.result.0.now c.join_prefix.result.1.now a.used (search rules) (rw b at p.branch)
    (rw b at p.separator) c.in_ok-put_leaf.field-0 c.put_leaf.new.rest c.in_ok-put_leaf.ensures
