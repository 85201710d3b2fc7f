-- A byte's eight bits in one step. `bit` and `bits k` are linear over `bit_xor`, so that k bits come to what the low k
-- bits come to, with the rest shifted down. Assumes nothing.
--     xor_assoc    `bit_xor` is associative
--     byte-table   the step over a byte, by the register of its low eight bits
use Prim.Native.Nat.{ℕ, zero, suc, ◌+◌, ◌*◌, ◌/◌, ◌%◌, ◌^◌, ◌<◌}
use mathlib.Core.Path.{◌≡◌, refl, sym, ap, ap₂, ◌∙◌}
use native.Mathlib.Nat.{mod-lt, mul-one, zero-mul, div-eq_of_lt, zero-lt-suc}
use native.Mathlib.Omega.{arith}
use lib.Arith.{bin_ind}
use lib.Pow.{split, pow_pos}
use lib.Bits.{bit_xor, differ, xor_step, xor_shr, xor_mod, xor_comm, xor_self, xor_zero_l, xor_zero_r, xor_shifted, shifted_half, shifted_even}
use Rattle.crc32c.specs.Crc.{bit, bits, byte_step}

-- two digits
digit : (a : ℕ) → a % 2 < 2
digit a = mod-lt a (zero-lt-suc 1)

differ-assoc : (a b c : ℕ) → a < 2 → b < 2 → c < 2 → differ (differ a b) c ≡ differ a (differ b c)
differ-assoc zero b c p q r = refl
differ-assoc (suc zero) zero c p q r = refl
differ-assoc (suc zero) (suc zero) zero p q r = refl
differ-assoc (suc zero) (suc zero) (suc zero) p q r = refl
differ-assoc (suc zero) (suc zero) (suc (suc c)) p q r = absurd (omega arith)
differ-assoc (suc zero) (suc (suc b)) c p q r = absurd (omega arith)
differ-assoc (suc (suc a)) b c p q r = absurd (omega arith)

xor-differ : (a b : ℕ) → a < 2 → b < 2 → bit_xor a b ≡ differ a b
xor-differ zero b p q = refl
xor-differ (suc zero) zero p q = refl
xor-differ (suc zero) (suc zero) p q = refl
xor-differ (suc zero) (suc (suc b)) p q = absurd (omega arith)
xor-differ (suc (suc a)) b p q = absurd (omega arith)

xor_low : (a b : ℕ) → bit_xor a b % 2 ≡ differ (a % 2) (b % 2)
xor_low a b = xor_mod a b 1 ∙ xor-differ (a % 2) (b % 2) (digit a) (digit b)

pub xor_assoc : (a b c : ℕ) → bit_xor (bit_xor a b) c ≡ bit_xor a (bit_xor b c)
xor_assoc = bin_ind (λ (n : ℕ). (b c : ℕ) → bit_xor (bit_xor n b) c ≡ bit_xor n (bit_xor b c)) (λ b c. refl)
    (λ n ih b c.
    xor_step (bit_xor n b) c
    ∙ ap₂ (λ (x y : ℕ). bit_xor x (c / 2) * 2 + differ y (c % 2)) (xor_shr n b 1) (xor_low n b)
    ∙ ap₂ (λ (x y : ℕ). x * 2 + y) (ih (b / 2) (c / 2)) (differ-assoc (n % 2) (b % 2) (c % 2) (digit n) (digit b) (digit c))
    ∙ ap₂ (λ (x y : ℕ). bit_xor (n / 2) x * 2 + differ (n % 2) y) (sym (xor_shr b c 1)) (sym (xor_low b c))
    ∙ sym (xor_step n (bit_xor b c)))

-- (p + q) + (r + s) is (p + r) + (q + s)
xor-swap : (p q r s : ℕ) → bit_xor (bit_xor p q) (bit_xor r s) ≡ bit_xor (bit_xor p r) (bit_xor q s)
xor-swap p q r s =
    xor_assoc p q (bit_xor r s)
    ∙ ap (bit_xor p) (sym (xor_assoc q r s) ∙ ap (λ (x : ℕ). bit_xor x s) (xor_comm q r) ∙ xor_assoc r q s)
    ∙ sym (xor_assoc p r (bit_xor q s))

-- a digit times p, for any polynomial p
times : (p a b : ℕ) → a < 2 → b < 2 → bit_xor a b * p ≡ bit_xor (a * p) (b * p)
times p zero zero h k = rw (zero-mul p)
times p zero (suc zero) h k = rw (zero-mul p) (sym (xor_zero_l (1 * p)))
times p (suc zero) zero h k = rw (zero-mul p) (sym (xor_zero_r (1 * p)))
times p (suc zero) (suc zero) h k = rw (xor_self (1 * p)) (zero-mul p)
times p zero (suc (suc b)) h k = absurd (omega arith)
times p (suc zero) (suc (suc b)) h k = absurd (omega arith)
times p (suc (suc a)) b h k = absurd (omega arith)

bit-xor : (a b : ℕ) → bit (bit_xor a b) ≡ bit_xor (bit a) (bit b)
unfolding bit
bit-xor a b = rw (xor_shr a b 1, xor_mod a b 1, times _ (a % 2) (b % 2) (digit a) (digit b), xor-swap)

bits-xor : (k a b : ℕ) → bits k (bit_xor a b) ≡ bit_xor (bits k a) (bits k b)
unfolding bits
bits-xor zero a b = refl
bits-xor (suc k) a b = ap (bits k) (bit-xor a b) ∙ bits-xor k (bit a) (bit b)

bit_high : (h k : ℕ) → bit (h * 2 ^ suc k) ≡ h * 2 ^ k
unfolding bit
bit_high h k = rw (shifted_half h k, shifted_even h k) (xor_zero_r (h * 2 ^ k))

bits-high : (k h : ℕ) → bits k (h * 2 ^ k) ≡ h
unfolding bits
bits-high zero h = mul-one h
bits-high (suc k) h = ap (bits k) (bit_high h k) ∙ bits-high k h

-- k bits at once: what the low k bits come to, and the rest
pub bits-table : (k y : ℕ) → bits k y ≡ bit_xor (bits k (y % 2 ^ k)) (y / 2 ^ k)
bits-table k y =
    ap (bits k) (sym (split y k) ∙ sym (xor_shifted (y / 2 ^ k) k (y % 2 ^ k) (mod-lt y (pow_pos k))))
    ∙ bits-xor k (y / 2 ^ k * 2 ^ k) (y % 2 ^ k)
    ∙ ap (λ (x : ℕ). bit_xor x (bits k (y % 2 ^ k))) (bits-high k (y / 2 ^ k))
    ∙ xor_comm (y / 2 ^ k) (bits k (y % 2 ^ k))

pub byte-table : (x b : ℕ) → b < 256 → byte_step x b ≡ bit_xor (bits 8 (bit_xor x b % 256)) (x / 256)
unfolding byte_step
byte-table x b h =
    bits-table 8 (bit_xor x b)
    ∙ ap (bit_xor (bits 8 (bit_xor x b % 256))) (xor_shr x b 8 ∙ ap (bit_xor (x / 256)) (div-eq_of_lt h) ∙ xor_zero_r (x / 256))
