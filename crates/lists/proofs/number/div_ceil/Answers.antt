-- `lists::number::div_ceil` meets its contract: n − 1 divided, and one more, is the quotient rounded up.
use Rattle.std.proofs.Common.{◌+◌}
use mathlib.Core.Path.{ap, ◌∙◌}
use native.Mathlib.Omega.{arith}
use Rattle.lists.proofs.Quotients.{ceiling-less}
use Rattle.lists.proofs.number.div_ceil.Goals as goal

pub returns : goal.returns
returns c = ap (λ m. m + 1) c.div.ensures ∙ ceiling-less c.args.n c.args.d (omega (arith, c.if-n-eq0.false)) (omega (arith, c.if-d-eq0.false))
