-- `texts::put::write_beside` meets its contract, where the text area takes the text that the scratch space holds.
use mathlib.Core.Path.{ap, ◌∙◌}
use Rattle.path.specs.Join.{joined_if, fits}
use Rattle.tables.specs.Model.{Store}
use Rattle.tables.specs.Lending.{held}
use Rattle.texts.specs.Texts.{relinked, text_beside}
use Rattle.texts.specs.private.Parts.{room_beside}
use Rattle.texts.proofs.OneLink.{staged_written}
use Rattle.texts.proofs.put.write_beside.Goals as goal

pub returns-then-n-room-clause-text_after : goal.returns-then-n-room-clause-text_after
returns-then-n-room-clause-text_after c =
    let a = c.args in
    let s = held a.set.now in
    let joined = c.in-Ok.ensures ∙ ap (λ (t : Store). joined_if (fits (text_beside t a.i) a.scratch.now) (text_beside t a.i) a.scratch.now) c.read-2.ensures in
    let room = c.room_beside-room.ensures ∙ ap (λ (t : Store). room_beside t a.i) c.read.ensures in
    c.relink.ensures.after ∙ ap (relinked s a.i) c.part.ensures ∙ staged_written s a.i a.scratch.now joined (rw room at c.if-n-room.true)
