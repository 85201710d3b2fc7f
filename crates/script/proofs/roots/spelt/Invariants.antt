-- Two digits are passed for each byte that is written, and the bytes of the digits that are left, after the written ones,
-- are what the word spells.
use Rattle.std.proofs.Common.{◌≡◌, ◌+◌, ◌*◌, length}
use Rattle.script.specs.Roots.{pairs_in}
use Rattle.script.proofs.Units.{Partly}
use Rattle.script.proofs.roots.spelt.Given as goal

abbrev pub invariant-loop-byte : goal.invariant-loop-byte
invariant-loop-byte l =
    (length l.rest + l.byte-index * 2 ≡ length l.word) × Partly (pairs_in l.word) (pairs_in l.rest) l.byte-index l.byte-items
