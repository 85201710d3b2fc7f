-- `mapping::write_slices` meets its contract: before the first turn no slice is in the table, and all are to come.
use Rattle.mapping.proofs.Filling.{begin}
use Rattle.mapping.proofs.write_slices.Goals as goal

pub loop-n-init : goal.loop-n-init
loop-n-init c = (cc, begin c.args.rows.now c.args.out.now c.args.at (cc) (cc) c.requires)
