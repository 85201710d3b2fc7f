-- Two numbers compared, as two cases that carry their facts. It relies on nothing.
use mathlib.Core.Logic.{◌⊎◌, inl, inr, ⊎_elim}
use Prim.Native.Nat.{ℕ, zero, suc, ◌≤◌, ◌<◌, zero-le, suc-le-suc}

pub le-or-lt : (a b : ℕ) → (a ≤ b) ⊎ (b < a)
le-or-lt zero b = inl zero-le
le-or-lt (suc a) zero = inr (suc-le-suc zero-le)
le-or-lt (suc a) (suc b) = ⊎_elim (λ p. inl (suc-le-suc p)) (λ q. inr (suc-le-suc q)) (le-or-lt a b)
