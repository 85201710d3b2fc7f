-- `merkle::merkle_first_node` meets its contract: the width's answer, less 1.
use Rattle.merkle.proofs.Widths.{from-width}
use Rattle.merkle.proofs.merkle_first_node.Goals as goal

pub overflow_sub-result : goal.overflow_sub-result
overflow_sub-result c = (from-width c.args.blocks c.in_ok-w.w c.in_ok-w.ensures).0
