-- Numbers in base ten, in ASCII: 48 is the digit 0, 32 is a blank. It relies on the kit only.
use Rattle.std.specs.Prelude.{ℕ, zero, suc, ◌+◌, ◌-◌, ◌*◌, ◌/◌, ◌%◌, ◌^◌, Bool, cond, ◌&&◌, List, [], ◌∷◌, ◌++◌, eqb}
use Rattle.std.specs.Prelude.{ltb, leb, length, get_or, drop, replicate, Option, None, Some, option_and_then}

-- the digits of n, the most significant first; its last k + 1 where it has more
unfoldable pub digits_within : ℕ → ℕ → List ℕ
digits_within zero n = (48 + n % 10) ∷ []
digits_within (suc k) n = cond (ltb n 10) ((48 + n) ∷ []) (digits_within k (n / 10) ++ ((48 + n % 10) ∷ []))

-- the digits of n without leading zeros; 20 are enough for every number below 2 ^ 64
abbrev pub decimal : ℕ → List ℕ
decimal n = digits_within 19 n

-- n right-justified in w columns: w blanks and then the digits, of which the last w characters are kept
abbrev pub column : ℕ → ℕ → List ℕ
column w n = drop (length (decimal n)) (replicate w 32 ++ decimal n)

-- the number that the digits of v and then these digits stand for
abbrev pub value_from : ℕ → List ℕ → ℕ
value_from v [] = v
value_from v (c ∷ t) = value_from (10 * v + (c - 48)) t

-- what a digit is worth
abbrev pub digit_of : ℕ → Option ℕ
digit_of c = cond (leb 48 c && leb c 57) (Some (c - 48)) None

-- v and one more digit, where 64 bits hold the number
abbrev pub with_digit : ℕ → Option ℕ → Option ℕ
with_digit v None = None
with_digit v (Some d) = cond (ltb (v * 10 + d) (2 ^ 64)) (Some (v * 10 + d)) None

-- the number whose digits follow those of v; nothing where a character is no digit, or 64 bits do not hold the number
abbrev pub digits_from : ℕ → List ℕ → Option ℕ
digits_from v [] = Some v
digits_from v (c ∷ t) = option_and_then (λ n. digits_from n t) (with_digit v (digit_of c))

-- whether a zero stands before other characters
abbrev pub has_leading_zero : List ℕ → Bool
has_leading_zero word = ltb 1 (length word) && eqb (get_or word 0 0) 48

-- the number that digits spell, with no zero before others
abbrev pub number_of : List ℕ → Option ℕ
number_of word = cond (has_leading_zero word) None (cond (eqb (length word) 0) None (digits_from 0 word))
