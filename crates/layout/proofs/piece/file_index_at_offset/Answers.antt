-- `layout::piece::file_index_at_offset` meets its contract: the search is lent the rows in use.
use Rattle.std.proofs.Common.{rules, ◌≤◌, ◌/◌, length, ◌∙◌}
use Rattle.layout.proofs.Front.{within_front}
use Rattle.layout.proofs.piece.file_index_at_offset.Goals as goal

pub returns : goal.returns
returns c =
    let held : c.args.fs.num_files ≤ length c.args.rows.now / 8 = search rules in
    let found = c.find_near_within.ensures.value ∙ within_front c.args.rows.now c.args.fs.num_files held c.args.window c.clamped.result in
    search rules
