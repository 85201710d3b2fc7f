-- `cleaning::room::lacks_room` meets its contract.
use mathlib.Core.Path.{◌∙◌}
use lib.ListN.{length}
use borrow.Author.Tests.{lt-ltb}
use Rattle.tables.specs.Lending.{store_in}
use Rattle.cleaning.specs.private.Judged.{verdicts_on}
use Rattle.cleaning.proofs.Rooms.{lacks-now, lacks-more}
use Rattle.cleaning.proofs.room.lacks_room.Goals as goal

pub returns-then-room-kept : goal.returns-then-room-kept
returns-then-room-kept c =
    lt-ltb (length c.args.judged.set.lent.text.now) c.kept_after-kept.result c.if-room-kept.true
    ∙ lacks-now (verdicts_on c.args.judged) (store_in c.args.judged.set) c.kept_after-kept.result c.kept_after-kept.ensures c.if-room-kept.true

pub returns-else-room-kept : goal.returns-else-room-kept
returns-else-room-kept c =
    lacks-more (verdicts_on c.args.judged) (store_in c.args.judged.set) c.kept_after-kept.result c.kept_after-kept.ensures c.if-room-kept.false c.lacks_bytes.ensures
