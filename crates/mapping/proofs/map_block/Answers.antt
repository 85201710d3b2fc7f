-- `mapping::map_block` meets its contract: where there is room, the block's slices are in the table.
use borrow.Author.Rules.{rules}
use mir.Syntax.{w64}
use mir.Val.{SFits}
use mir.Facts.{to_z-of_z}
use Rattle.mapping.proofs.Outcomes.{written}
use Rattle.mapping.proofs.map_block.Goals as goal

pub returns-then-has_room : goal.returns-then-has_room
returns-then-has_room c =
    let a = c.args in
    let f : SFits w64 a.offset = search rules in
    let g : SFits w64 a.size = search rules in
    let w = c.write_slices.ensures in
    written a.fs a.rows.now a.window a.piece.0 a.offset a.size a.out.now (rw (to_z-of_z f, to_z-of_z g) at c.in_ok-from.ensures)
    c.has_room.ensures c.if-has_room.true w.value w.out_after
