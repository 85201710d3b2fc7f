-- Document 01, 'Struck on the bench': the starred cases, in its order; then, of document 02 (v), those of set A again
-- on a set that keeps the first file of each piece, and cases of that table. It relies on Questions.antt.
use Rattle.std.specs.Prelude.{ℕ, Bool, true, false, ◌&&◌, List, [], ◌∷◌, ℤ, pos, replicate, Option, Some, None}
use Rattle.types.specs.Refusals.{Outcome, value, refused}
use Rattle.tables.specs.Model.{Store}
use Rattle.additions.specs.Addition.{Addition}
use Rattle.cases.specs.Questions.{new_store, built, answer, same_answer, Question, add_file, file_offset, num_pieces}
use Rattle.cases.specs.Questions.{map_block, file_index_at_offset, map_file, exclusive, inclusive, piece_size2}
use Rattle.cases.specs.Questions.{link_after_cleaning, first_file}

-- a question, and the answer that document 01 gives
pub record Case : Type 0 where
  pub question : Question
  pub expected : Outcome (List ℤ)

-- a set's piece length, whether it keeps the first file of each piece, its additions, and the cases struck on it
pub record Scenario : Type 0 where
  pub piece_length : ℕ
  pub indexed : Bool
  pub additions : List Addition
  pub cases : List Case

-- s/ and one letter
abbrev pub under : ℕ → List ℕ
under letter = 115 ∷ 47 ∷ letter ∷ []

-- the addition of a plain file
abbrev pub file : ℕ → ℕ → Option (List ℕ) → Addition
file letter size root =
    record { given = None; path = under letter; size = pos size; flags = 0; time = pos 0; link = []; root = root }

-- 'Set A, v1, length 10: s/a 7, s/b 0, s/c 15, s/d 0'
abbrev pub set_a : List Addition
set_a = file 97 7 None ∷ file 98 0 None ∷ file 99 15 None ∷ file 100 0 None ∷ []

abbrev pub case : Question → Outcome (List ℤ) → Case
case q e = record { question = q; expected = e }

-- the answer that is these numbers
abbrev pub says : List ℕ → Outcome (List ℤ)
says ns = value (signed ns)
  where
    signed : List ℕ → List ℤ
    signed [] = []
    signed (n ∷ ns) = pos n ∷ signed ns

abbrev pub cases_of_a : List Case
cases_of_a =
    -- offsets 0, 7, 7, 22; 3 pieces
    case (file_offset (pos 0)) (says (0 ∷ [])) ∷
    case (file_offset (pos 1)) (says (7 ∷ [])) ∷
    case (file_offset (pos 2)) (says (7 ∷ [])) ∷
    case (file_offset (pos 3)) (says (22 ∷ [])) ∷
    case num_pieces (says (3 ∷ [])) ∷
    -- piece 0, offset 5, size 4: file 0 at 5 for 2, file 2 at 0 for 2
    case (map_block (pos 0) (pos 5) (pos 4)) (says (2 ∷ 0 ∷ 5 ∷ 2 ∷ 2 ∷ 0 ∷ 2 ∷ [])) ∷
    -- piece 2, offset 0, size 10: file 2 at 13 for 2; offset 2, size 0: none
    case (map_block (pos 2) (pos 0) (pos 10)) (says (1 ∷ 2 ∷ 13 ∷ 2 ∷ [])) ∷
    case (map_block (pos 2) (pos 2) (pos 0)) (says (0 ∷ [])) ∷
    -- offset 7 is in file 2; offset 22 gives 14
    case (file_index_at_offset (pos 7)) (says (2 ∷ [])) ∷
    case (file_index_at_offset (pos 22)) (refused 14) ∷
    -- `map_file` of 1 at 0: piece 0, start 7; of 3: 3, 0, 0
    case (map_file (pos 1) (pos 0) (pos 5)) (says (0 ∷ 7 ∷ 5 ∷ [])) ∷
    case (map_file (pos 3) (pos 0) (pos 5)) (says (3 ∷ 0 ∷ 0 ∷ [])) ∷
    -- exclusive pieces of file 2: 1 to 2; inclusive: 0 to 3 (end not included)
    case (exclusive (pos 2)) (says (1 ∷ 2 ∷ [])) ∷
    case (inclusive (pos 2)) (says (0 ∷ 3 ∷ [])) ∷
    -- `piece_size2` of 0 is 7, of 2 is 2
    case (piece_size2 (pos 0)) (says (7 ∷ [])) ∷
    case (piece_size2 (pos 2)) (says (2 ∷ [])) ∷
    []

abbrev pub cases_of_empty : List Case
cases_of_empty =
    -- on an empty v1 set, size 281474976710655 is taken, one more gives 3
    case (add_file (file 97 281474976710655 None)) (says []) ∷
    case (add_file (file 97 281474976710656 None)) (refused 3) ∷
    []

abbrev pub cases_of_v2 : List Case
cases_of_v2 =
    -- v2, length 16384, one file of 281474976710655: 4
    case (add_file (file 97 281474976710655 (Some (replicate 32 1)))) (refused 4) ∷
    []

-- the addition of a link with this text
abbrev pub link : ℕ → List ℕ → Addition
link letter text =
    record { given = None; path = under letter; size = pos 0; flags = 8; time = pos 0; link = text; root = None }

-- s/x/f, s/l to `x`, s/m to `l/f`, s/n to `/etc`
abbrev pub linked_set : List Addition
linked_set =
    record {
      given = None;
      path = 115 ∷ 47 ∷ 120 ∷ 47 ∷ 102 ∷ [];
      size = pos 1;
      flags = 0;
      time = pos 0;
      link = [];
      root = None;
    } ∷
    link 108 (120 ∷ []) ∷
    link 109 (108 ∷ 47 ∷ 102 ∷ []) ∷
    link 110 (47 ∷ 101 ∷ 116 ∷ 99 ∷ []) ∷
    []

abbrev pub cases_of_links : List Case
cases_of_links =
    -- directory x, link l to `x`: link m to `l/f` stays if x/f exists
    case (link_after_cleaning (pos 1)) (says (120 ∷ [])) ∷
    case (link_after_cleaning (pos 2)) (says (108 ∷ 47 ∷ 102 ∷ [])) ∷
    -- link n to `/etc` becomes `n`
    case (link_after_cleaning (pos 3)) (says (110 ∷ [])) ∷
    []

abbrev pub cases_of_firsts : List Case
cases_of_firsts =
    -- bytes 0, 10 and 20 of set A are in files 0, 2 and 2
    case (first_file 0) (says (0 ∷ [])) ∷
    case (first_file 1) (says (2 ∷ [])) ∷
    case (first_file 2) (says (2 ∷ [])) ∷
    []

abbrev pub cases_of_places : List Case
cases_of_places =
    -- 'An addition that needs more places in it gets 10': there are 3, for 30 bytes
    case (add_file (file 98 23 None)) (says []) ∷
    case (add_file (file 98 24 None)) (refused 10) ∷
    []

-- the table
abbrev pub table : List Scenario
table =
    record { piece_length = 10; indexed = false; additions = set_a; cases = cases_of_a } ∷
    record { piece_length = 10; indexed = false; additions = []; cases = cases_of_empty } ∷
    record { piece_length = 16384; indexed = false; additions = []; cases = cases_of_v2 } ∷
    record { piece_length = 10; indexed = false; additions = linked_set; cases = cases_of_links } ∷
    record { piece_length = 10; indexed = true; additions = set_a; cases = cases_of_a } ∷
    record { piece_length = 10; indexed = true; additions = set_a; cases = cases_of_firsts } ∷
    record { piece_length = 10; indexed = true; additions = file 97 7 None ∷ []; cases = cases_of_places } ∷
    []

-- each answer is the one expected
abbrev pub holds : Store → List Case → Bool
holds s [] = true
holds s (c ∷ cs) = same_answer (answer s c.question) c.expected && holds s cs

abbrev pub all_hold : List Scenario → Bool
all_hold [] = true
all_hold (b ∷ bs) = holds (built (new_store b.piece_length b.indexed) b.additions) b.cases && all_hold bs
