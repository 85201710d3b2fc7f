-- Document 01's table of refusals, the rows for questions, each a rule: 'any question' 11, 13, 12, 14, 15, 16, and 10
-- last. 1 comes first for every set. It relies on the rules in order of Rules.antt and on the rows of `tables`.
use Rattle.std.specs.Prelude.{ℕ, ◌/◌, ◌%◌, Bool, false, not, ◌&&◌, ◌||◌, List, [], ◌∷◌, eqb, ltb, leb, ℤ, length}
use Rattle.lists.specs.Lists.{ceiling}
use Rattle.types.specs.Refusals.{Outcome}
use Rattle.tables.specs.declared.storage.FileStorage.{FileStorage}
use Rattle.tables.specs.declared.rows.Row.{Row}
use Rattle.tables.specs.Rows.{has, dir_width, pad_bit, root_width, row_width}
use Rattle.rules.specs.declared.decide.Tests.{Tests}
use Rattle.rules.specs.Rules.{Rule, when, first_of, outcome_of}
use Rattle.rules.specs.Bounds.{is_negative, is_below, clamped_of, limit, max_pieces, max_entries, bad_length}

-- the value where no rule of the list holds, else the number of the first that does
abbrev pub answered : {A : Type 0} → List Rule → A → Outcome A
answered rules a = outcome_of (first_of rules) a

-- BEP 3: pieces are of one length, the last may be shorter
abbrev pub num_pieces : FileStorage → ℕ
num_pieces fs = ceiling fs.total_size fs.piece_length

-- ---- the rules

-- 'piece length below 1'
abbrev pub bad_piece_length : FileStorage → Rule
bad_piece_length fs = when (bad_length fs.piece_length) 1

-- 'no such file'
abbrev pub no_file : FileStorage → ℤ → Rule
no_file fs z = when (not (is_below fs.num_files z)) 11

-- the same of a directory
abbrev pub no_directory : FileStorage → ℕ → Rule
no_directory fs i = when (leb fs.num_paths i) 11

-- 'over 2147483647 pieces, for questions that take or give a piece number or a count of pieces'
abbrev pub many_pieces : FileStorage → Rule
many_pieces fs = when (ltb max_pieces (num_pieces fs)) 13

-- 'no such piece'
abbrev pub no_piece : FileStorage → ℤ → Rule
no_piece fs z = when (not (is_below (num_pieces fs) z)) 12

-- 'offset or size below 0, or offset above 281474976710655'
abbrev pub bad_range : ℤ → ℤ → Rule
bad_range offset size =
    when (is_negative offset || (is_negative size || ltb limit (clamped_of offset))) 14

-- 'for `file_index_at_offset`, not below the total'
abbrev pub bad_offset : FileStorage → ℤ → Rule
bad_offset fs offset =
    when (is_negative offset || (ltb limit (clamped_of offset) || leb fs.total_size (clamped_of offset))) 14

-- '`internal_symlink` of a file without link text'; `there` says whether the file's row is there
abbrev pub no_link : Bool → Bool → Rule
no_link there linked = when (there && not linked) 15

-- 'for a nonempty pad or a nonempty file off a piece start'; a row that is not there is empty
abbrev pub no_tree : FileStorage → Row → Rule
no_tree fs r =
    when (ltb 0 r.size && (has r.flags pad_bit || not (eqb (r.offset % fs.piece_length) 0))) 16

-- 'a table, text area, output or work space shorter than the result needs'
abbrev pub short : Bool → Rule
short held = when (not held) 10

-- not 'over 65535 files or directories'
abbrev pub few_entries : FileStorage → Bool
few_entries fs = leb fs.num_files max_entries && leb fs.num_paths max_entries

-- the tests that every question makes: those of 1 and of 10, and none of another
abbrev pub set_tests : FileStorage → Bool → Tests
set_tests fs held =
    record {
      bad_length = bad_length fs.piece_length;
      no_file = false;
      many = false;
      no_piece = false;
      bad_range = false;
      no_tree = false;
      no_room = not (held && few_entries fs);
    }

-- ---- the lent tables are long enough for what the set counts

-- row i is there
abbrev pub row_there : List ℕ → ℕ → Bool
row_there rows i = ltb i (length rows / row_width)

abbrev pub rows_are_held : FileStorage → List ℕ → Bool
rows_are_held fs rows = leb fs.num_files (length rows / row_width)

abbrev pub roots_held : FileStorage → List ℕ → Bool
roots_held fs roots = leb fs.num_files (length roots / root_width)

abbrev pub dirs_held : FileStorage → List ℕ → Bool
dirs_held fs dirs = leb fs.num_paths (length dirs / dir_width)

abbrev pub text_held : FileStorage → List ℕ → Bool
text_held fs text = leb fs.text_len (length text)

-- ---- answers

-- an answer about the set
abbrev pub set_answer : {A : Type 0} → FileStorage → A → Outcome A
set_answer fs a = answered (bad_piece_length fs ∷ short (few_entries fs) ∷ []) a

-- the same where tables are lent: `held` says whether they are long enough for what the set counts
abbrev pub held_answer : {A : Type 0} → FileStorage → Bool → A → Outcome A
held_answer fs held a = answered (bad_piece_length fs ∷ short (held && few_entries fs) ∷ []) a

-- an answer about directory i
abbrev pub directory_answer : {A : Type 0} → FileStorage → ℕ → Bool → A → Outcome A
directory_answer fs i held a =
    answered (bad_piece_length fs ∷ no_directory fs i ∷ short (held && few_entries fs) ∷ []) a

-- an answer about file z, by its number
abbrev pub file_answer : {A : Type 0} → FileStorage → ℤ → Bool → (ℕ → A) → Outcome A
file_answer fs z held a =
    answered (bad_piece_length fs ∷ no_file fs z ∷ short (held && few_entries fs) ∷ []) (a (clamped_of z))

-- an answer about piece z, by its number
abbrev pub piece_answer : {A : Type 0} → FileStorage → ℤ → Bool → (ℕ → A) → Outcome A
piece_answer fs z held a =
    answered (bad_piece_length fs ∷ many_pieces fs ∷ no_piece fs z ∷ short (held && few_entries fs) ∷ [])
    (a (clamped_of z))

-- an answer about file z that takes or gives a piece number or a count of pieces
abbrev pub file_pieces_answer : {A : Type 0} → FileStorage → ℤ → Bool → (ℕ → A) → Outcome A
file_pieces_answer fs z held a =
    answered (bad_piece_length fs ∷ no_file fs z ∷ many_pieces fs ∷ short (held && few_entries fs) ∷ [])
    (a (clamped_of z))

-- an answer about the link text of file z: `there` says which rows are there, `linked` which files hold a text
abbrev pub link_answer : {A : Type 0} → FileStorage → ℤ → (ℕ → Bool) → (ℕ → Bool) → Bool → (ℕ → A) → Outcome A
link_answer fs z there linked held a =
    answered
    (bad_piece_length fs ∷ no_file fs z ∷ no_link (there (clamped_of z)) (linked (clamped_of z)) ∷
    short (held && few_entries fs) ∷ [])
    (a (clamped_of z))
