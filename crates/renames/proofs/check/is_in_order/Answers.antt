-- `renames::check::is_in_order` meets its contract.
use mathlib.Core.Path.{sym, ◌∙◌}
use native.Mathlib.Omega.{arith}
use Rattle.renames.proofs.Ordered.{order-bytes}
use Rattle.renames.proofs.check.is_in_order.Goals as goal

pub are_placed-requires : goal.are_placed-requires
are_placed-requires c =
    let b = order-bytes _ 0 0 _ _ (sym c.are_in_order.ensures ∙ c.if-are_in_order.true) in
    omega (arith, b)
