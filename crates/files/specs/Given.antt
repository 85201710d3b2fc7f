-- Document 01, 'Layout answers': what each answer about a file's pieces, blocks and tree gives, and `map_file`, with
-- their refusals in the order of 'Refusals, by place'. It relies on the rules of `rules`, on Request.antt and on
-- Files.antt.
use Rattle.std.specs.Prelude.{ℕ, ◌-◌, ◌%◌, ◌^◌, Bool, not, ◌&&◌, List, [], ◌∷◌, ℤ, pos}
use Rattle.types.specs.Refusals.{Outcome}
use Rattle.tables.specs.declared.storage.FileStorage.{FileStorage}
use Rattle.tables.specs.Rows.{row_at}
use Rattle.merkle.specs.Width.{width_of, has_tree}
use Rattle.rules.specs.Rules.{Rule, when}
use Rattle.rules.specs.Bounds.{clamped_of}
use Rattle.rules.specs.Results.{Range, SignedRequest}
use Rattle.rules.specs.Questions.{row_there, rows_are_held, roots_held, bad_piece_length, no_file, many_pieces}
use Rattle.rules.specs.Questions.{bad_range, no_tree}
use Rattle.rules.specs.Questions.{short, few_entries, answered, held_answer, file_pieces_answer}
use Rattle.files.specs.Request.{map_file, as_signed}
use Rattle.files.specs.Files.{low31, first_piece, last_piece, pieces_of, blocks_of}
use Rattle.files.specs.Files.{exclusive_range, inclusive_range, file_for_root}

-- ---- the pieces of file z

abbrev pub piece_at_file_given : FileStorage → List ℕ → ℤ → Outcome ℤ
piece_at_file_given fs rows z =
    file_pieces_answer fs z (rows_are_held fs rows) (λ k. pos (first_piece fs rows k % 2 ^ 31))

-- 'of an empty file at 0 is 0, or −1 at piece length 1'
abbrev pub last_piece_at_file_given : FileStorage → List ℕ → ℤ → Outcome ℤ
last_piece_at_file_given fs rows z = file_pieces_answer fs z (rows_are_held fs rows) (λ k. low31 (last_piece fs rows k))

abbrev pub exclusive_given : FileStorage → List ℕ → ℤ → Outcome Range
exclusive_given fs rows z = file_pieces_answer fs z (rows_are_held fs rows) (exclusive_range fs rows)

abbrev pub inclusive_given : FileStorage → List ℕ → ℤ → Outcome Range
inclusive_given fs rows z = file_pieces_answer fs z (rows_are_held fs rows) (inclusive_range fs rows)

-- ---- the tree of file z

abbrev pub file_num_pieces_given : FileStorage → List ℕ → ℤ → Outcome ℤ
file_num_pieces_given fs rows z =
    answered
    (bad_piece_length fs ∷ no_file fs z ∷ many_pieces fs ∷ no_tree fs (row_at rows (clamped_of z)) ∷
    short (rows_are_held fs rows && few_entries fs) ∷ [])
    (pos (pieces_of fs rows (clamped_of z) % 2 ^ 31))

-- its pieces, counted from 0
abbrev pub file_piece_range_given : FileStorage → List ℕ → ℤ → Outcome Range
file_piece_range_given fs rows z =
    answered
    (bad_piece_length fs ∷ no_file fs z ∷ many_pieces fs ∷ no_tree fs (row_at rows (clamped_of z)) ∷
    short (rows_are_held fs rows && few_entries fs) ∷ [])
    (record { begin = pos 0; end = pos (pieces_of fs rows (clamped_of z) % 2 ^ 31) })

abbrev pub file_num_blocks_given : FileStorage → List ℕ → ℤ → Outcome ℤ
file_num_blocks_given fs rows z =
    answered
    (bad_piece_length fs ∷ no_file fs z ∷ no_tree fs (row_at rows (clamped_of z)) ∷
    short (rows_are_held fs rows && few_entries fs) ∷ [])
    (pos (blocks_of rows (clamped_of z)))

-- 'node of a file with 0 or over 1073741823 leaves'; `there` says whether the file's row is there
abbrev pub no_node : Bool → ℕ → Rule
no_node there leaves = when (there && not (has_tree leaves)) 16

-- 'the first node of that layer is the width less 1'
abbrev pub node_given : FileStorage → List ℕ → ℤ → ℕ → Outcome ℕ
node_given fs rows z leaves =
    answered
    (bad_piece_length fs ∷ no_file fs z ∷ no_tree fs (row_at rows (clamped_of z)) ∷
    no_node (row_there rows (clamped_of z)) leaves ∷
    short (rows_are_held fs rows && few_entries fs) ∷ [])
    (width_of leaves - 1)

abbrev pub first_piece_node_given : FileStorage → List ℕ → ℤ → Outcome ℕ
first_piece_node_given fs rows z = node_given fs rows z (pieces_of fs rows (clamped_of z))

abbrev pub first_block_node_given : FileStorage → List ℕ → ℤ → Outcome ℕ
first_block_node_given fs rows z = node_given fs rows z (blocks_of rows (clamped_of z))

-- ---- a root

-- 'of 32 zero bytes finds the first file without a root or with that one; where none fits it gives −1'
abbrev pub file_for_root_given : FileStorage → List ℕ → List ℕ → List ℕ → Outcome ℤ
file_for_root_given fs rows roots root =
    held_answer fs (rows_are_held fs rows && roots_held fs roots) (file_for_root fs rows roots root)

-- ---- bytes of file z

abbrev pub file_mapped : FileStorage → List ℕ → ℤ → ℤ → ℤ → Outcome SignedRequest
file_mapped fs rows z offset size =
    answered
    (bad_piece_length fs ∷ no_file fs z ∷ many_pieces fs ∷ bad_range offset size ∷
    short (rows_are_held fs rows && few_entries fs) ∷ [])
    (as_signed (map_file fs rows (clamped_of z) (clamped_of offset) (clamped_of size)))
