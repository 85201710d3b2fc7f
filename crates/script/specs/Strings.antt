-- docs/CALLS.md: 'A byte string is `:` and its bytes, all but graphic ASCII (33 to 126) and `%` itself as `%XX` in
-- upper-case hex; `:` alone is the empty string.' 37 is `%`, 58 is `:`, 48 to 57 are the digits, 65 is `A`.
use Rattle.std.specs.Prelude.{ℕ, ◌+◌, ◌-◌, ◌*◌, Bool, true, false, not, cond, ◌&&◌, List, [], ◌∷◌, eqb, ltb, leb}
use Rattle.std.specs.Prelude.{length, Option, None, Some}

-- the bytes that a text stands for, up to its end or to the first fault, and whether it has none
pub record Text : Type 0 where
  pub bytes : List ℕ
  pub is_formed : Bool

abbrev pub ended : Text
ended = record { bytes = []; is_formed = true }

abbrev pub fault : Text
fault = record { bytes = []; is_formed = false }

abbrev pub led : ℕ → Text → Text
led b t = record { bytes = b ∷ t.bytes; is_formed = t.is_formed }

-- a byte, where there is one, before a text
abbrev pub led_by : Option ℕ → Text → Text
led_by None t = fault
led_by (Some b) t = led b t

-- a byte that stands for itself
abbrev pub is_plain : ℕ → Bool
is_plain c = cond (ltb c 33) false (cond (ltb 126 c) false (not (eqb c 37)))

-- what a hex digit is worth whose letters begin with `ten`
abbrev pub hex_from : ℕ → ℕ → Option ℕ
hex_from ten c =
    cond (leb 48 c && leb c 57) (Some (c - 48)) (cond (leb ten c && leb c (ten + 5)) (Some (c - ten + 10)) None)

abbrev pub hex_of : ℕ → Option ℕ
hex_of c = hex_from 65 c

-- the byte of two hex digits, by their values
abbrev pub byte_of : Option ℕ → Option ℕ → Option ℕ
byte_of None l = None
byte_of (Some h) None = None
byte_of (Some h) (Some l) = Some (h * 16 + l)

abbrev mutual
  -- characters, each plain or `%XX`
  pub text_in : List ℕ → Text
  text_in [] = ended
  text_in (c ∷ t) = cond (eqb c 37) (high_in t) (cond (is_plain c) (led c (text_in t)) fault)

  -- what follows `%`
  pub high_in : List ℕ → Text
  high_in [] = fault
  high_in (h ∷ t) = low_in t h

  -- what follows `%` and a character
  pub low_in : List ℕ → ℕ → Text
  low_in [] h = fault
  low_in (l ∷ t) h = led_by (byte_of (hex_of h) (hex_of l)) (text_in t)

abbrev pub string_of : List ℕ → Text
string_of [] = fault
string_of (c ∷ t) = cond (eqb c 58) (text_in t) fault

-- where the bytes end that stand after `used` others, in a buffer of a length
abbrev pub end_of : Text → ℕ → ℕ → Option ℕ
end_of text used n =
    cond (text.is_formed && leb (used + length text.bytes) n) (Some (used + length text.bytes)) None
