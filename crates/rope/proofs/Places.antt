-- Laws of two lists that are the same behind two places: both have a byte there, or neither. They rely on the kit's laws
-- of lists.
use Prim.Native.Nat.{ℕ, ◌<◌, ◌≤◌}
use mathlib.Core.Path.{◌≡◌, ap}
use mathlib.Core.List.{List}
use native.Mathlib.Omega.{arith}
use lib.ListN.{length, drop, length-drop}

module _ (x y : List ℕ) (a b : ℕ) (h : drop a x ≡ drop b y) where
  pub more_same : a < length x → b < length y
  more_same q = omega (arith, length-drop a x, length-drop b y, ap length h)

  pub end_same : length x ≤ a → length y ≤ b
  end_same q = omega (arith, length-drop a x, length-drop b y, ap length h)
