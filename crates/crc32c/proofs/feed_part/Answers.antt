-- `crc32c::feed_part` meets its contract. The loop's invariant: what is left, fed to the register so far, in lower case
-- where LOWER is true, comes to what all of the bytes, fed to the first register, come to. Assumes nothing.
use mathlib.Core.Path.{refl}
use Rattle.crc32c.specs.Crc.{bit, bits}
use Rattle.crc32c.proofs.Entries.{right, is-table}
use Rattle.crc32c.proofs.feed_part.Goals as goal

pub byte_step-x-requires : goal.byte_step-x-requires
unfolding bit bits right
byte_step-x-requires g c = is-table tt refl
