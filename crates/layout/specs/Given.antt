-- Document 01, 'Layout answers': what each answer about pieces, and about files at offsets and pieces, gives, with its
-- refusals in the order of 'Refusals, by place'. It relies on the rules of `rules`, on Pieces.antt and on Search.antt.
use Rattle.std.specs.Prelude.{ℕ, ◌&&◌, List, [], ◌∷◌, ℤ, pos}
use Rattle.types.specs.Refusals.{Outcome}
use Rattle.tables.specs.declared.storage.FileStorage.{FileStorage}
use Rattle.rules.specs.Bounds.{clamped_of}
use Rattle.rules.specs.Results.{Range}
use Rattle.rules.specs.Questions.{num_pieces, rows_are_held, bad_piece_length, many_pieces, no_piece, bad_offset}
use Rattle.rules.specs.Questions.{short, few_entries, answered, piece_answer}
use Rattle.layout.specs.declared.window.Window.{Window}
use Rattle.layout.specs.Search.{found_within}
use Rattle.layout.specs.Pieces.{less_one, piece_size, piece_size2, blocks_in, file_at_piece, last_file_at_piece}

-- ---- the set

abbrev pub num_pieces_given : FileStorage → Outcome ℤ
num_pieces_given fs =
    answered (bad_piece_length fs ∷ many_pieces fs ∷ short (few_entries fs) ∷ []) (pos (num_pieces fs))

-- −1 where the set has no piece
abbrev pub last_piece_given : FileStorage → Outcome ℤ
last_piece_given fs =
    answered (bad_piece_length fs ∷ many_pieces fs ∷ short (few_entries fs) ∷ []) (less_one (num_pieces fs))

abbrev pub piece_range_given : FileStorage → Outcome Range
piece_range_given fs =
    answered (bad_piece_length fs ∷ many_pieces fs ∷ short (few_entries fs) ∷ [])
    (record { begin = pos 0; end = pos (num_pieces fs) })

abbrev pub file_range_given : FileStorage → Outcome Range
file_range_given fs =
    answered (bad_piece_length fs ∷ short (few_entries fs) ∷ []) (record { begin = pos 0; end = pos fs.num_files })

abbrev pub blocks_per_piece_given : FileStorage → Outcome ℤ
blocks_per_piece_given fs =
    answered (bad_piece_length fs ∷ short (few_entries fs) ∷ []) (pos (blocks_in fs.piece_length))

-- ---- piece z

abbrev pub piece_size_given : FileStorage → ℤ → Outcome ℤ
piece_size_given fs z =
    answered (bad_piece_length fs ∷ many_pieces fs ∷ no_piece fs z ∷ short (few_entries fs) ∷ [])
    (pos (piece_size fs (clamped_of z)))

-- the next four search for a file, and begin with the window w
abbrev pub piece_size2_given : FileStorage → List ℕ → Window → ℤ → Outcome ℤ
piece_size2_given fs rows w z = piece_answer fs z (rows_are_held fs rows) (λ p. pos (piece_size2 fs rows w p))

abbrev pub blocks_in_piece2_given : FileStorage → List ℕ → Window → ℤ → Outcome ℤ
blocks_in_piece2_given fs rows w z =
    piece_answer fs z (rows_are_held fs rows) (λ p. pos (blocks_in (piece_size2 fs rows w p)))

-- the file at the start of the piece, and the file at its last byte
abbrev pub file_at_piece_given : FileStorage → List ℕ → Window → ℤ → Outcome ℤ
file_at_piece_given fs rows w z = piece_answer fs z (rows_are_held fs rows) (λ p. pos (file_at_piece fs rows w p))

abbrev pub last_file_at_piece_given : FileStorage → List ℕ → Window → ℤ → Outcome ℤ
last_file_at_piece_given fs rows w z =
    piece_answer fs z (rows_are_held fs rows) (λ p. pos (last_file_at_piece fs rows w p))

-- ---- an offset

abbrev pub file_at_offset_given : FileStorage → List ℕ → Window → ℤ → Outcome ℤ
file_at_offset_given fs rows w offset =
    answered (bad_piece_length fs ∷ bad_offset fs offset ∷ short (rows_are_held fs rows && few_entries fs) ∷ [])
    (pos (found_within rows fs.num_files w (clamped_of offset)))
