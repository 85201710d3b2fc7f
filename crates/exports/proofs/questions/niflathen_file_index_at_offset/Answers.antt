-- `exports::questions::niflathen_file_index_at_offset` meets its contract: the question's own, at the record
-- that was read and the window that the table of first files gives.
use mathlib.Core.Path.{◌∙◌}
use mir.Syntax.{w64}
use mir.Val.{SFits}
use mir.Facts.{to_z-of_z}
use borrow.Author.Rules.{rules}
use Rattle.exports.proofs.questions.niflathen_file_index_at_offset.Goals as goal

pub returns : goal.returns
returns c =
    let a = c.args in
    let r : SFits w64 c.file_returned.result = search rules in
    let o : SFits w64 a.offset = search rules in
    to_z-of_z r ∙ (rw (c.file_index_at_offset.ensures, c.window_for.ensures, c.storage_at-fs.ensures, to_z-of_z o) at c.file_returned.ensures)
