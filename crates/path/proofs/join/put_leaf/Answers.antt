-- `path::join::put_leaf` meets its contract: the leaf follows the separator.
use Rattle.path.proofs.Joins.{leaf_copied}
use Rattle.path.proofs.join.put_leaf.Goals as goal

pub returns : goal.returns
returns c =
    leaf_copied c.args.separator.now c.args.leaf.now c.args.rest.now c.copy_in.new.target c.copy_after.new.target
    c.if-rest-n.false c.copy_in.ensures c.copy_after.ensures
