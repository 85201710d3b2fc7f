-- `renames::change::slot_in` meets its contract.
use mathlib.Core.Path.{sym, ◌∙◌}
use Rattle.renames.proofs.Decisions.{room_asked}
use Rattle.renames.proofs.change.slot_in.Goals as goal

pub is_short-requires : goal.is_short-requires
is_short-requires c = room_asked c.args.names.renames _ _ _ _ (sym c.is_in_order.ensures ∙ c.if-not-is_in_order.false) c.slot_of-p.ensures
