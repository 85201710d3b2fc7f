-- `crc32c::byte_step` meets its contract: the entry of the low eight bits, and the rest shifted down. Assumes nothing.
use Prim.Native.Nat.{ℕ, ◌/◌}
use mathlib.Core.Path.{◌∙◌, ap, sym}
use lib.Bits.{bit_xor, bit_and, mask_lt, and_mask}
use Rattle.crc32c.specs.Crc.{bits}
use Rattle.crc32c.proofs.Steps.{byte-table}
use Rattle.crc32c.proofs.byte_step.Goals as goal

pub returns : goal.returns
returns c =
    let x = c.args.state in
    let y = bit_xor x c.args.b in
    rw c.from.ensures
    (ap (λ (v : ℕ). bit_xor v (x / 256)) (c.requires.entry (bit_and y 255) (mask_lt y 8) ∙ ap (bits 8) (and_mask y 8))
    ∙ sym (byte-table x c.args.b c.ranges.b.fits))
