-- The CRC-32C of the usual check string, "123456789", and of the byte strings of RFC 3720, B.4, computed from the
-- definition. Assumes nothing.
use Prim.Native.Nat.{ℕ}
use mathlib.Core.Path.{◌≡◌, refl}
use mathlib.Core.List.{List, [], ◌∷◌, reverse}
use lib.ListN.{replicate}
use Rattle.crc32c.specs.Crc.{bit, bits, byte_step, feed, crc_of}

pub check : crc_of (49 ∷ 50 ∷ 51 ∷ 52 ∷ 53 ∷ 54 ∷ 55 ∷ 56 ∷ 57 ∷ []) ≡ 0xE3069283
unfolding feed byte_step bits bit
check = refl

pub zeros : crc_of (replicate 32 0) ≡ 0x8A9136AA
unfolding feed byte_step bits bit
zeros = refl

pub ones : crc_of (replicate 32 255) ≡ 0x62A8AB43
unfolding feed byte_step bits bit
ones = refl

-- the bytes 0 to 31
abbrev rising : List ℕ
rising =
    0 ∷ 1 ∷ 2 ∷ 3 ∷ 4 ∷ 5 ∷ 6 ∷ 7 ∷ 8 ∷ 9 ∷ 10 ∷ 11 ∷ 12 ∷ 13 ∷ 14 ∷ 15 ∷
    16 ∷ 17 ∷ 18 ∷ 19 ∷ 20 ∷ 21 ∷ 22 ∷ 23 ∷ 24 ∷ 25 ∷ 26 ∷ 27 ∷ 28 ∷ 29 ∷ 30 ∷ 31 ∷ []

pub incrementing : crc_of rising ≡ 0x46DD794E
unfolding feed byte_step bits bit
incrementing = refl

pub decrementing : crc_of (reverse rising) ≡ 0x113FDB5C
unfolding feed byte_step bits bit
decrementing = refl
