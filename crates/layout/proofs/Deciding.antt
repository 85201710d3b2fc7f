-- What is known of a set once no rule stopped a question about its pieces. It relies on the laws of decisions in `rules`.
use Rattle.std.proofs.Common.{◌≡◌, false, ltb-false}
use Rattle.tables.specs.declared.storage.FileStorage.{FileStorage}
use Rattle.rules.specs.Questions.{num_pieces, bad_piece_length, many_pieces}
use Rattle.rules.proofs.Deciding.{length-good}
use Rattle.layout.specs.private.Deciding.{FewPieces}

pub few-pieces : (fs : FileStorage) → (bad_piece_length fs).test ≡ false → (many_pieces fs).test ≡ false → FewPieces fs
few-pieces fs a b =
    let p = length-good fs.piece_length a in
    record { some = p.0; long = p.1; few = ltb-false 2147483647 (num_pieces fs) b }
