-- `blocks::map_block_core` meets its contract: where there is room, the block's slices are in the columns.
use borrow.Author.Rules.{rules}
use mir.Syntax.{w64}
use mir.Val.{SFits}
use mir.Facts.{to_z-of_z}
use Rattle.blocks.proofs.Columns.{block_written}
use Rattle.blocks.proofs.map_block_core.Goals as goal

pub returns-then-has_room : goal.returns-then-has_room
returns-then-has_room c =
    let a = c.args in
    let f : SFits w64 a.offset = search rules in
    let g : SFits w64 a.size = search rules in
    let w = c.write_slices.ensures in
    block_written a.fs a.rows.now a.window a.piece.0 a.offset a.size a.out_file.now a.out_offset.now a.out_size.now (rw (to_z-of_z f, to_z-of_z g) at c.in_ok-from.ensures)
    (rw c.min.ensures at c.min-room.ensures) c.has_room.ensures c.if-has_room.true w.value w.out_file_after w.out_offset_after w.out_size_after
