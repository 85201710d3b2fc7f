-- A number below 2 ^ k is its own low k bits, and std's test of a signed number tells one below 0. Assumes nothing.
use mathlib.Core.Path.{◌≡◌, refl, ap}
use Prim.Native.Nat.{ℕ, ◌<◌, ◌%◌, ◌^◌}
use native.Mathlib.Nat.{mod-eq_of_lt}
use native.Mathlib.Omega.{arith}
use lib.IntN.{ℤ, pos, negsuc}
use borrow.Author.Tests.{le-ltb}
use Rattle.std.specs.Int as int
use Rattle.types.specs.Signed.{is_negative}

pub low : (k n : ℕ) → n < 2 ^ k → pos (n % 2 ^ k) ≡ pos n
low k n h = ap pos (mod-eq_of_lt h)

pub negative_is : (z : ℤ) → int.is_negative z ≡ is_negative z
negative_is (pos n) = le-ltb n 0 (omega arith)
negative_is (negsuc n) = refl
