-- `renames::check::are_in_order` meets its contract. The loop's invariant: the check of the entries from i on, with what is
-- asked of them by then, says what the whole check says.
use Prim.Native.Nat.{◌-◌, ◌/◌}
use mathlib.Core.Path.{◌≡◌}
use lib.ListN.{length}
use Rattle.renames.specs.Renames.{ordered_from}
use Rattle.renames.proofs.check.are_in_order.Given as goal

abbrev pub invariant-loop-entry : goal.invariant-loop-entry
invariant-loop-entry l =
    let i = length l.yielded in
    ordered_from (length l.entries / 4 - i) i l.least l.left l.entries ≡ ordered_from (length l.entries / 4) 0 0 l.len l.entries
