-- What is known of a set once no rule stopped a question about its pieces. It relies on the rules' count of pieces.
use Rattle.std.specs.Prelude.{◌<◌, ◌≤◌}
use Rattle.tables.specs.declared.storage.FileStorage.{FileStorage}
use Rattle.rules.specs.Questions.{num_pieces}

-- the piece length is in range and there are few enough pieces
pub record FewPieces (fs : FileStorage) : Type 0 where
  pub some : 0 < fs.piece_length
  pub long : fs.piece_length ≤ 2147483647
  pub few : num_pieces fs ≤ 2147483647
