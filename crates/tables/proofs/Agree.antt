-- Two lists that agree from a place on: what a loop that writes front to back has not reached yet. It relies on the kit's
-- laws of `drop`.
use mathlib.Core.Path.{◌≡◌, sym, ap, ◌∙◌}
use mathlib.Core.List.{List}
use Prim.Native.Nat.{ℕ, ◌+◌, ◌-◌, ◌≤◌}
use native.Mathlib.Omega.{arith}
use lib.ListN.{get_or, drop}
use lib.Seq.{get_or-drop, drop-drop}

module _ {A : Type 0} (l l₀ : List A) (m : ℕ) (e : drop m l ≡ drop m l₀) where
  pub get_or-above : (k : ℕ) (d : A) → m ≤ k → get_or l k d ≡ get_or l₀ k d
  get_or-above k d h =
      let q : k ≡ m + (k - m) = omega arith in
      rw q (sym (get_or-drop m l (k - m) d) ∙ ap (λ (x : List A). get_or x (k - m) d) e ∙ get_or-drop m l₀ (k - m) d)

  pub drop-above : (k : ℕ) → m ≤ k → drop k l ≡ drop k l₀
  drop-above k h =
      let q : k ≡ m + (k - m) = omega arith in
      rw q (sym (drop-drop (k - m) m l) ∙ ap (drop (k - m)) e ∙ drop-drop (k - m) m l₀)
