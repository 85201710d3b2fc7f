-- `plan::dirs::is_text` meets its contract.
use Rattle.std.proofs.Common.{arith, ne_eqb}
use Rattle.plan.proofs.Directories.{length-differs}
use Rattle.plan.proofs.dirs.is_text.Goals as goal

pub returns-else-s-n : goal.returns-else-s-n
returns-else-s-n c = let a = c.args in rw (ne_eqb _ _ c.if-s-n.false) (length-differs a.dir.now a.text.now a.s (omega arith) c.if-s-n.false)
