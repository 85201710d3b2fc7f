-- Bytes fed one after another, and a running CRC over parts. Assumes nothing.
--     feed-more, lower-more   a turn of the loop that feeds a slice, and of the one that feeds it in lower case
--     lowered                 std's lower case of a byte is the one here
--     feed-end, lower-end     nothing more to feed, and the same in lower case
--     crc-parts               the CRC over two parts, one after the other, is that over both
--     crc-lower               the same of parts in lower case
--     crc-none                over no bytes, it stays
use Prim.Native.Nat.{ℕ, ◌+◌, ◌≤◌, ◌<◌}
use mathlib.Core.Path.{◌≡◌, refl, ap, ◌∙◌}
use mathlib.Core.List.{List, [], ◌∷◌, ◌++◌, map}
use native.Mathlib.Numerals.{add-one}
use lib.Bits.{bit_xor, xor_self, xor_zero_r}
use lib.ListN.{length, get_or, drop, drop_of_length-le}
use lib.Seq.{drop-cons}
use Rattle.std.proofs.Common.{rules, tests}
use Rattle.std.specs.Char.{to_ascii_lowercase}
use Rattle.crc32c.specs.Crc.{byte_step, feed, inverted, crc_from, lower}
use Rattle.crc32c.proofs.Steps.{xor_assoc}

pub feed-more : (x : ℕ) (s : List ℕ) (i : ℕ) → i < length s → feed (byte_step x (get_or s i 0)) (drop (i + 1) s) ≡ feed x (drop i s)
unfolding feed
feed-more x s i h = rw (drop-cons s i 0 h, add-one)

lowered : (b : ℕ) → to_ascii_lowercase b ≡ lower b
lowered b = search (rules, tests)

pub lower-more : (x : ℕ) (s : List ℕ) (i : ℕ) → i < length s → feed (byte_step x (to_ascii_lowercase (get_or s i 0))) (map lower (drop (i + 1) s)) ≡ feed x (map lower (drop i s))
unfolding feed
lower-more x s i h = rw (drop-cons s i 0 h, add-one, lowered (get_or s i 0))

pub feed-end : (x : ℕ) (s : List ℕ) (i : ℕ) → length s ≤ i → feed x (drop i s) ≡ x
unfolding feed
feed-end x s i h = rw (drop_of_length-le s {i = i} h)

pub lower-end : (x : ℕ) (s : List ℕ) (i : ℕ) → length s ≤ i → feed x (map lower (drop i s)) ≡ x
unfolding feed
lower-end x s i h = rw (drop_of_length-le s {i = i} h)

-- for the loops that feed a slice
pub ruleset feeding = (feed-more, lower-more, feed-end, lower-end)

feed-append : (x : ℕ) (a b : List ℕ) → feed x (a ++ b) ≡ feed (feed x a) b
unfolding feed
feed-append x [] b = refl
feed-append x (y ∷ a) b = feed-append (byte_step x y) a b

map-append : (f : ℕ → ℕ) (a b : List ℕ) → map f (a ++ b) ≡ map f a ++ map f b
map-append f [] b = refl
map-append f (x ∷ a) b = ap (λ (l : List ℕ). f x ∷ l) (map-append f a b)

inverted-twice : (x : ℕ) → inverted (inverted x) ≡ x
inverted-twice x = xor_assoc x 0xffff_ffff 0xffff_ffff ∙ ap (bit_xor x) (xor_self 0xffff_ffff) ∙ xor_zero_r x

pub crc-parts : (c : ℕ) (a b : List ℕ) → crc_from (crc_from c a) b ≡ crc_from c (a ++ b)
crc-parts c a b = rw (inverted-twice (feed (inverted c) a), feed-append (inverted c) a b)

pub crc-lower : (c : ℕ) (a b : List ℕ) → crc_from (crc_from c (map lower a)) (map lower b) ≡ crc_from c (map lower (a ++ b))
crc-lower c a b = rw (map-append lower a b) (crc-parts c (map lower a) (map lower b))

pub crc-none : (c : ℕ) → crc_from c [] ≡ c
unfolding feed
crc-none c = inverted-twice c
