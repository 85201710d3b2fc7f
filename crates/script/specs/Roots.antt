-- docs/CALLS.md: 'A root is 64 lower-case hex digits, or `*XX` for 32 bytes of that value'; the digits of `*XX` are of
-- either case. 42 is `*`, 97 is `a`.
use Rattle.std.specs.Prelude.{ℕ, cond, List, [], ◌∷◌, eqb, length, get_or, replicate, Option, None, Some, option_map}
use Rattle.std.specs.Option.{option_or}
use Rattle.script.specs.Strings.{Text, ended, fault, led_by, hex_from, hex_of, byte_of}

-- what a lower-case hex digit is worth
abbrev pub lower_of : ℕ → Option ℕ
lower_of c = hex_from 97 c

abbrev pub either_of : ℕ → Option ℕ
either_of c = option_or (hex_of c) (lower_of c)

abbrev mutual
  -- bytes in pairs of lower-case digits
  pub pairs_in : List ℕ → Text
  pairs_in [] = ended
  pairs_in (h ∷ t) = pair_in t h

  -- what follows the first digit of a pair
  pub pair_in : List ℕ → ℕ → Text
  pair_in [] h = fault
  pair_in (l ∷ t) h = led_by (byte_of (lower_of h) (lower_of l)) (pairs_in t)

abbrev pub root_from : Text → Option (List ℕ)
root_from text = cond text.is_formed (Some text.bytes) None

abbrev pub spelt_of : List ℕ → Option (List ℕ)
spelt_of word = cond (eqb (length word) 64) (root_from (pairs_in word)) None

-- 32 bytes of one value, by the values of its digits
abbrev pub repeated_by : Option ℕ → Option ℕ → Option (List ℕ)
repeated_by h l = option_map (λ b. replicate 32 b) (byte_of h l)

abbrev pub repeated_of : List ℕ → Option (List ℕ)
repeated_of word =
    cond (eqb (length word) 3) (repeated_by (either_of (get_or word 1 0)) (either_of (get_or word 2 0))) None

-- the root that a word is
abbrev pub root_of : List ℕ → Option (List ℕ)
root_of word = cond (eqb (get_or word 0 0) 42) (repeated_of word) (spelt_of word)
