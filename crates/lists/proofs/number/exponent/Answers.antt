-- `lists::number::exponent` meets its contract: one set bit tells a power of two, and its low zeros are the exponent.
use Rattle.lists.proofs.Powers.{some-power, power-some}
use Rattle.lists.proofs.number.exponent.Goals as goal

pub returns-clause-power : goal.returns-clause-power
returns-clause-power c = let held = some-power c.args.d c.ranges.d.fits in rw (c.then_some.ensures, c.is_power_of_two.ensures) held

pub returns-clause-only : goal.returns-clause-only
returns-clause-only c k h e = rw (c.then_some.ensures, c.is_power_of_two.ensures) (power-some c.args.d k h e)
