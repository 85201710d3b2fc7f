-- docs/CALLS.md: 'Words are parted by blanks.' A line is a list of bytes; 32 is a blank.
use Rattle.std.specs.Prelude.{ℕ, zero, suc, ◌+◌, Bool, true, false, not, cond, List, [], ◌∷◌, eqb, take, drop}

-- how many bytes stand before the first c, or in all where there is none
abbrev pub count_before : ℕ → List ℕ → ℕ
count_before c [] = 0
count_before c (b ∷ t) = cond (eqb b c) 0 (suc (count_before c t))

abbrev pub part_before : ℕ → List ℕ → List ℕ
part_before c line = take (count_before c line) line

-- how many blanks stand at the start
abbrev pub blanks_of : List ℕ → ℕ
blanks_of [] = 0
blanks_of (b ∷ t) = cond (eqb b 32) (suc (blanks_of t)) 0

-- where the first word ends
abbrev pub word_end : List ℕ → ℕ
word_end line = blanks_of line + count_before 32 (drop (blanks_of line) line)

-- what stands from word k on, words being counted from 0
abbrev pub from_word : ℕ → List ℕ → List ℕ
from_word zero line = drop (blanks_of line) line
from_word (suc k) line = from_word k (drop (word_end line) line)

-- word k, and what stands after it; nothing where the line has fewer words
abbrev pub word_of : List ℕ → ℕ → List ℕ
word_of line k = part_before 32 (from_word k line)

abbrev pub after_word : List ℕ → ℕ → List ℕ
after_word line k = drop (count_before 32 (from_word k line)) (from_word k line)

-- how many words begin with a byte, where `within` says whether the byte before is part of a word
abbrev pub begun : Bool → ℕ → ℕ
begun true c = 0
begun false c = cond (eqb c 32) 0 1

-- the number of words, counted by their first bytes
abbrev pub words_from : Bool → List ℕ → ℕ
words_from within [] = 0
words_from within (c ∷ t) = begun within c + words_from (not (eqb c 32)) t

abbrev pub word_count : List ℕ → ℕ
word_count line = words_from false line
