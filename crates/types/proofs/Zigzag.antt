-- A signed number is that of its word by zigzag. Assumes nothing.
use mathlib.Core.Path.{◌≡◌}
use mathlib.Core.Bool.{false}
use Prim.Native.Nat.{ℕ, ◌+◌, ◌*◌, ◌/◌, ◌%◌}
use native.Mathlib.Omega.{arith}
use lib.IntN.{ℤ, pos, negsuc}
use lib.Dec.{eqb}
use borrow.Author.Tests.{ne_eqb}
use Rattle.types.specs.Signed.{zigzag, unzigzag}

odd : (n : ℕ) → (2 * n + 1) % 2 ≡ 0 → ⊥
odd n e = absurd (omega arith)

pub zigzag-back : (z : ℤ) → unzigzag (zigzag z) ≡ z
zigzag-back (pos n) =
    let a : (2 * n) % 2 ≡ 0 = omega arith in
    let b : (2 * n) / 2 ≡ n = omega arith in
    rw (a, b)
zigzag-back (negsuc n) =
    let a : eqb ((2 * n + 1) % 2) 0 ≡ false = ne_eqb ((2 * n + 1) % 2) 0 (odd n) in
    let b : (2 * n + 1) / 2 ≡ n = omega arith in
    rw (a, b)
