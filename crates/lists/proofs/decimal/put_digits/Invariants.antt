-- `lists::decimal::put_digits` meets its contract. The loop's invariant: the target keeps its length, and the last digits of
-- the rest, as many as are left, stored from `at` on, give the whole.
use mathlib.Core.Path.{◌≡◌}
use Prim.Native.Nat.{◌-◌}
use lib.ListN.{length, drop}
use lib.Seq.{sets}
use Rattle.lists.specs.Decimal.{decimal}
use Rattle.lists.proofs.Decimals.{last_digits}
use Rattle.lists.proofs.decimal.put_digits.Given as goal

abbrev pub invariant-loop-i : goal.invariant-loop-i
invariant-loop-i l =
    (length l.target ≡ length l.initial.target) × (sets l.target l.at (last_digits l.i l.rest) ≡ sets l.initial.target l.at (drop (length (decimal l.n) - l.count) (decimal l.n)))
