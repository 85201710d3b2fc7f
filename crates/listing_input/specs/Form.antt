-- Document 01, 'The listing': the form of its lines. 10 is a line feed, 32 a blank, 48 to 57 are the digits. It relies
-- on the parts and digits of `lists`, and on `tables`.
use Rattle.std.specs.Prelude.{ℕ, Bool, true, false, cond, ◌&&◌, ◌||◌, List, [], ◌∷◌, ◌++◌, eqb, ltb, leb, length}
use Rattle.std.specs.Prelude.{get_or, drop, Option, Some, None}
use Rattle.lists.specs.Lists.{part_of, unblanked}
use Rattle.lists.specs.Decimal.{value_from}
use Rattle.path.specs.Join.{is_empty}
use Rattle.tables.specs.Model.{present_if}

-- 'Lines end in a line feed, which the last may lack': the lines of an input whose first line begins with `line`,
-- already read
abbrev pub lines_from : List ℕ → List ℕ → List (List ℕ)
lines_from line [] = cond (is_empty line) [] (line ∷ [])
lines_from line (c ∷ t) = cond (eqb c 10) (line ∷ lines_from [] t) (lines_from (line ++ (c ∷ [])) t)

abbrev pub lines : List ℕ → List (List ℕ)
lines input = lines_from [] input

abbrev pub is_digit : ℕ → Bool
is_digit c = leb 48 c && leb c 57

abbrev pub are_digits : List ℕ → Bool
are_digits [] = true
are_digits (c ∷ t) = is_digit c && are_digits t

-- 'with no sign or leading zero': digits that begin with 0 are the single digit 0
abbrev pub is_number : List ℕ → Bool
is_number [] = false
is_number (c ∷ t) = are_digits (c ∷ t) && (ltb 48 c || is_empty t)

-- 'Numbers are right-justified': blanks, then digits
abbrev pub number_in : List ℕ → Option ℕ
number_in column = present_if (is_number (unblanked column)) (value_from 0 (unblanked column))

-- a value that passes the test, or nothing
abbrev pub only_if : {A : Type 0} → (A → Bool) → Option A → Option A
only_if f None = None
only_if f (Some a) = present_if (f a) a

-- a value where the condition holds, or nothing
abbrev pub provided : {A : Type 0} → Bool → Option A → Option A
provided true a = a
provided false a = None

-- 'piece length in 10 columns'; 'a piece length above 2147483647 is out of form'
abbrev pub piece_length_in : List ℕ → Option ℕ
piece_length_in line = provided (eqb (length line) 10) (only_if (λ n. leb n 2147483647) (number_in line))

-- 'flags in 2 (a sum of 1, 2, 4 as above and 16 …; all else is out of form)'
abbrev pub are_flags : ℕ → Bool
are_flags n = ltb n 8 || (leb 16 n && ltb n 24)

-- what a file line says
pub record FileEntry : Type 0 where
  pub size : ℕ
  pub flags : ℕ
  pub path : List ℕ

abbrev pub entry_of : Option ℕ → Option ℕ → List ℕ → Option FileEntry
entry_of None flags path = None
entry_of (Some size) None path = None
entry_of (Some size) (Some flags) path = Some (record { size = size; flags = flags; path = path })

-- 'per file size in 15, blank, flags in 2 …, blank, path'
abbrev pub file_in : List ℕ → Option FileEntry
file_in line =
    provided (leb 19 (length line) && (eqb (get_or line 15 0) 32 && eqb (get_or line 18 0) 32))
    (entry_of (number_in (part_of line 0 15)) (only_if are_flags (number_in (part_of line 16 2))) (drop 19 line))
