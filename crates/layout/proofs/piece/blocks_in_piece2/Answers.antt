-- `layout::piece::blocks_in_piece2` meets its contract: no rule stopped the question, so the piece is that of the number.
use Rattle.std.proofs.Common.{rules}
use Rattle.rules.proofs.Deciding.{allowed}
use Rattle.layout.proofs.piece.blocks_in_piece2.Goals as goal

pub returns : goal.returns
returns c = let known = allowed _ _ _ _ c.in_ok-asked.ensures.answer in search rules
