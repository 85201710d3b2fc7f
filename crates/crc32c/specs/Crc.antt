-- CRC-32C bit by bit, from RFC 3720: the polynomial 0x1EDC6F41, reflected 0x82F63B78, start and end inverted; and the
-- lower-casing of ASCII that path hashes use. It relies on the kit only.
use Rattle.std.specs.Prelude.{ℕ, zero, suc, ◌+◌, ◌*◌, ◌/◌, ◌%◌, cond, List, [], ◌∷◌, leb}
use Rattle.std.specs.Int.Bits.{bit_xor}

-- one bit goes out to the right; where it is a 1, the polynomial comes in
unfoldable pub bit : ℕ → ℕ
bit x = bit_xor (x / 2) (x % 2 * 0x82F63B78)

-- k bits
unfoldable pub bits : ℕ → ℕ → ℕ
bits zero x = x
bits (suc k) x = bits k (bit x)

-- a byte comes in at the low end, and its eight bits go out
unfoldable pub byte_step : ℕ → ℕ → ℕ
byte_step x b = bits 8 (bit_xor x b)

-- the register after the bytes of a list
unfoldable pub feed : ℕ → List ℕ → ℕ
feed x [] = x
feed x (b ∷ s) = feed (byte_step x b) s

-- all 32 bits turned over
abbrev pub inverted : ℕ → ℕ
inverted x = bit_xor x 0xffff_ffff

-- the CRC of a list of bytes
abbrev pub crc_of : List ℕ → ℕ
crc_of s = inverted (feed 0xffff_ffff s)

-- the CRC of the bytes before and of s, from `crc`, the CRC of the bytes before, which is 0 at the start
abbrev pub crc_from : ℕ → List ℕ → ℕ
crc_from crc s = inverted (feed (inverted crc) s)

-- 'A' to 'Z' become 'a' to 'z'
abbrev pub lower : ℕ → ℕ
lower b = cond (leb 65 b) (cond (leb b 90) (b + 32) b) b
