-- `exports::questions::niflathen_map_file` meets its contract: the question's own, at the record that was read.
use mir.Syntax.{w32, w64}
use mir.Val.{SFits}
use mir.Facts.{to_z-of_z}
use borrow.Author.Rules.{rules}
use Rattle.exports.proofs.questions.niflathen_map_file.Goals as goal

pub returns : goal.returns
returns c =
    let a = c.args in
    let i : SFits w32 a.index = search rules in
    let o : SFits w64 a.offset = search rules in
    let s : SFits w32 a.size = search rules in
    rw (c.map_file.ensures, c.storage_at.ensures, to_z-of_z i, to_z-of_z o, to_z-of_z s) at c.from.ensures
