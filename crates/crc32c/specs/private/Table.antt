-- What the table of the bytewise step is: entry k is the register k after eight bits. It relies on Crc.antt.
use Rattle.std.specs.Prelude.{ℕ, ◌<◌, ◌≡◌, List, get_or}
use Rattle.crc32c.specs.Crc.{bits}

pub record IsTable (t : List ℕ) : Type 0 where
  pub entry : (k : ℕ) → k < 256 → get_or t k 0 ≡ bits 8 k
