-- Laws of reading: how large a number of 15 columns is, and that so many digits spell what they are worth.
use Rattle.std.specs.Prelude.{Some, None, option_and_then}
use Prim.Native.Nat.{ℕ, suc, ◌+◌, ◌-◌, ◌*◌, ◌^◌, ◌≤◌, ◌<◌}
use mathlib.Core.Path.{◌≡◌, refl}
use mathlib.Core.Bool.{Bool, true, false, cond, ◌&&◌, ◌||◌}
use mathlib.Core.List.{List, [], ◌∷◌}
use native.Mathlib.Omega.{arith}
use native.Mathlib.Nat.{mul_assoc, pow-succ', pow-le-pow_right}
use lib.Dec.{eqb, ltb, leb}
use lib.ListN.{length, get_or, drop}
use borrow.Author.Tests.{leb-true, le-leb, lt-ltb}
use Rattle.std.proofs.lemmas.Bool.Decides.{nat_tests}
use Rattle.lists.specs.Lists.{part_of, unblanked}
use Rattle.lists.specs.Decimal.{value_from, with_digit, digits_from, number_of}
use Rattle.path.specs.Join.{is_empty}
use Rattle.tables.specs.Model.{present_if}
use Rattle.rules.proofs.Rules.{both_true}
use Rattle.listing_input.specs.Form.{is_digit, are_digits, is_number, number_in, only_if, are_flags, file_in}

-- blanks at the start take nothing from the end
unblank-step : (b : Bool) (c : ℕ) (t u : List ℕ) → length u ≤ length t → length (cond b u (c ∷ t)) ≤ suc (length t)
unblank-step true c t u h = omega arith
unblank-step false c t u h = omega arith

pub length-unblanked : (l : List ℕ) → length (unblanked l) ≤ length l
length-unblanked [] = omega arith
length-unblanked (c ∷ t) = unblank-step (eqb c 32) c t (unblanked t) (length-unblanked t)

-- what digits can be worth
value-below : (v k : ℕ) (l : List ℕ) → are_digits l ≡ true → v < k → value_from v l < k * 10 ^ length l
value-below v k [] e h = omega arith
value-below v k (c ∷ t) e h =
    let d = both_true (is_digit c) (are_digits t) e in
    let m = leb-true c 57 (both_true (leb 48 c) (leb c 57) d.0).1 in
    rw (pow-succ' 10 (length t), ← mul_assoc k 10 (10 ^ length t))
    (value-below (10 * v + (c - 48)) (k * 10) t d.1 (omega arith))

number_digits : (l : List ℕ) → is_number l ≡ true → are_digits l ≡ true
number_digits [] e = refl
number_digits (c ∷ t) e = (both_true (are_digits (c ∷ t)) (ltb 48 c || is_empty t) e).0

present-if : (b : Bool) (v n : ℕ) → present_if b v ≡ Some n → (b ≡ true) × (v ≡ n)
present-if true v n e = (refl, cc)
present-if false v n e = let z : ◌≡◌ {A = ℕ} 0 1 = cc in absurd (omega arith)

-- a number of at most 15 columns is below 10 ^ 15
pub number_small : (column : List ℕ) (n : ℕ) → length column ≤ 15 → number_in column ≡ Some n → n < 1000000000000000
number_small column n h e =
    let u = unblanked column in
    let p = present-if (is_number u) (value_from 0 u) n e in
    let b = value-below 0 1 u (number_digits u p.0) (omega arith) in
    omega (arith, p.1, pow-le-pow_right {n = 10} (omega arith) {i = length u} {j = 15} (omega (arith, length-unblanked column)))

-- the digits that follow i others are too few to pass 64 bits, so they spell what they are worth
digit-step : (b : Bool) (v i c : ℕ) (t : List ℕ) → (b ≡ true → c ≤ 57) → v < 10 ^ i → i < 15
    → (10 * v + (c - 48) < 10 ^ suc i → digits_from (10 * v + (c - 48)) t ≡ present_if (are_digits t) (value_from (10 * v + (c - 48)) t))
    → option_and_then (λ n. digits_from n t) (with_digit v (cond b (Some (c - 48)) None)) ≡ present_if (b && are_digits t) (value_from (10 * v + (c - 48)) t)
digit-step false v i c t d h m more = refl
digit-step true v i c t d h m more =
    let n : v * 10 + (c - 48) < 10 ^ suc i = rw (pow-succ' 10 i) (omega (arith, d refl)) in
    let k : v * 10 + (c - 48) < 2 ^ 64 = omega (arith, pow-le-pow_right {n = 10} (omega arith) {i = suc i} {j = 15} (omega arith)) in
    let q : v * 10 + (c - 48) ≡ 10 * v + (c - 48) = omega arith in
    rw (lt-ltb (v * 10 + (c - 48)) (2 ^ 64) k, q) (more (omega arith))

digits_spelt : (v i : ℕ) (l : List ℕ) → v < 10 ^ i → i + length l ≤ 15 → digits_from v l ≡ present_if (are_digits l) (value_from v l)
digits_spelt v i [] h m = refl
digits_spelt v i (c ∷ t) h m =
    digit-step (is_digit c) v i c t (λ e. leb-true c 57 (both_true (leb 48 c) (leb c 57) e).1) h (omega arith)
    (λ n. digits_spelt (10 * v + (c - 48)) (suc i) t n (omega arith))

-- at most 15 bytes spell the number that a column of them holds
pub spelt : (l : List ℕ) → length l ≤ 15 → number_of l ≡ present_if (is_number l) (value_from 0 l)
spelt [] h = refl
spelt (c ∷ []) h = rw (digits_spelt 0 0 (c ∷ []) (omega arith) (omega arith)) (grind (arith, nat_tests))
spelt (c ∷ (d ∷ t)) h = rw (digits_spelt 0 0 (c ∷ (d ∷ t)) (omega arith) (omega arith)) (grind (arith, nat_tests))

-- what a file line says, whose parts are in form
pub line_read : (line : List ℕ) (size flags : ℕ) → 19 ≤ length line → get_or line 15 0 ≡ 32 → get_or line 18 0 ≡ 32
    → Some size ≡ number_in (part_of line 0 15) → Some flags ≡ only_if are_flags (number_in (part_of line 16 2))
    → Some (record { size = size; flags = flags; path = drop 19 line }) ≡ file_in line
line_read line size flags h a b s f = rw (le-leb 19 (length line) h, a, b, ← s, ← f)
