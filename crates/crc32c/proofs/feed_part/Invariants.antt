-- `crc32c::feed_part` meets its contract. The loop's invariant: what is left, fed to the register so far, in lower case
-- where LOWER is true, comes to what all of the bytes, fed to the first register, come to. Assumes nothing.
use mathlib.Core.Path.{◌≡◌}
use denote.Param.{number}
use mathlib.Core.Bool.{cond}
use mathlib.Core.List.{map}
use lib.ListN.{drop}
use Rattle.crc32c.specs.Crc.{feed, lower}
use Rattle.crc32c.specs.contracts.feed_part.{LOWER-type}
use Rattle.crc32c.proofs.feed_part.Given as goal

abbrev pub invariant-loop-b : goal.invariant-loop-b
invariant-loop-b g l =
    let LOWER = LOWER-type (number g.row.LOWER) in
    feed l.x (cond LOWER (map lower (drop l.b-index l.data)) (drop l.b-index l.data)) ≡ feed l.state (cond LOWER (map lower l.data) l.data)
