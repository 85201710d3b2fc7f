-- Laws of tables in order: one entry of the check, and what is known of every entry where the check holds. They rely on the
-- definitions of specs/Renames.antt and specs/Finding.antt.
use Prim.Native.Nat.{ℕ, zero, suc, ◌+◌, ◌-◌, ◌*◌, ◌≤◌, ◌<◌}
use mathlib.Core.Path.{◌≡◌, refl, sym, ◌∙◌}
use mathlib.Core.Bool.{Bool, true, false, ◌&&◌}
use mathlib.Core.Logic.{⊎_elim}
use mathlib.Core.List.{List}
use native.Mathlib.Omega.{arith}
use borrow.Author.Tests.{leb-true, eqb-true}
use lib.Dec.{eqb, leb}
use lib.ListN.{get_or}
use Rattle.lists.proofs.Orders.{le-or-lt}
use Rattle.renames.specs.Renames.{ordered_from}
use Rattle.renames.specs.private.Slots.{bytes_from}
use Rattle.rules.proofs.Rules.{both_true}

-- an entry in order: its number, its mode and its text's length
abbrev pub entry_ordered : ℕ → ℕ → ℕ → ℕ → ℕ → Bool
entry_ordered file mode len least left = (leb least file && leb file 2147483647) && (leb mode 2 && leb len left)

pub entry_in : (file mode len least left : ℕ) → entry_ordered file mode len least left ≡ true
    → (least ≤ file) × (file ≤ 2147483647) × (mode ≤ 2) × (len ≤ left)
entry_in file mode len least left e =
    let p = both_true (leb least file && leb file 2147483647) (leb mode 2 && leb len left) e in
    let a = both_true (leb least file) (leb file 2147483647) p.0 in
    let b = both_true (leb mode 2) (leb len left) p.1 in
    (leb-true _ _ a.0, leb-true _ _ a.1, leb-true _ _ b.0, leb-true _ _ b.1)

regroup : (a b c d r : Bool) → ((a && b) && (c && (d && r))) ≡ (((a && b) && (c && d)) && r)
regroup true true true d r = refl
regroup true true false d r = refl
regroup true false c d r = refl
regroup false b c d r = refl

-- the first entry, and the others
module _ (n i least left : ℕ) (e : List ℕ) where
  abbrev first : Bool
  first = entry_ordered (get_or e (i * 4) 0) (get_or e (i * 4 + 1) 0) (get_or e (i * 4 + 2) 0) least left

  pub order-step : ordered_from (suc n) i least left e
      ≡ (entry_ordered (get_or e (i * 4) 0) (get_or e (i * 4 + 1) 0) (get_or e (i * 4 + 2) 0) least left
      && ordered_from n (i + 1) (get_or e (i * 4) 0 + 1) (left - get_or e (i * 4 + 2) 0) e)
  unfolding ordered_from
  order-step =
      regroup (leb least (get_or e (i * 4) 0)) (leb (get_or e (i * 4) 0) 2147483647) (leb (get_or e (i * 4 + 1) 0) 2) (leb (get_or e (i * 4 + 2) 0) left)
      (ordered_from n (i + 1) (get_or e (i * 4) 0 + 1) (left - get_or e (i * 4 + 2) 0) e)

  pub order-first : ordered_from (suc n) i least left e ≡ true
      → (least ≤ get_or e (i * 4) 0) × (get_or e (i * 4) 0 ≤ 2147483647) × (get_or e (i * 4 + 1) 0 ≤ 2) × (get_or e (i * 4 + 2) 0 ≤ left)
  order-first h =
      entry_in (get_or e (i * 4) 0) (get_or e (i * 4 + 1) 0) (get_or e (i * 4 + 2) 0) least left
      (both_true first (ordered_from n (i + 1) (get_or e (i * 4) 0 + 1) (left - get_or e (i * 4 + 2) 0) e) (sym order-step ∙ h)).0

  pub order-rest : ordered_from (suc n) i least left e ≡ true
      → ordered_from n (i + 1) (get_or e (i * 4) 0 + 1) (left - get_or e (i * 4 + 2) 0) e ≡ true
  order-rest h =
      (both_true first (ordered_from n (i + 1) (get_or e (i * 4) 0 + 1) (left - get_or e (i * 4 + 2) 0) e) (sym order-step ∙ h)).1

-- one entry of the check, or its end
module _ (n i least left : ℕ) (e : List ℕ) where
  pub order_turn : i < n → ordered_from (n - i) i least left e
      ≡ (entry_ordered (get_or e (i * 4) 0) (get_or e (i * 4 + 1) 0) (get_or e (i * 4 + 2) 0) least left
      && ordered_from (n - (i + 1)) (i + 1) (get_or e (i * 4) 0 + 1) (left - get_or e (i * 4 + 2) 0) e)
  order_turn h = let m : n - i ≡ suc (n - (i + 1)) = omega arith in rw m (order-step (n - (i + 1)) i least left e)

  pub order_end : n ≤ i → ordered_from (n - i) i least left e ≡ eqb left 0
  unfolding ordered_from
  order_end h = let m : n - i ≡ 0 = omega arith in rw m

pub ruleset turns = (order_turn, order_end)

-- each number is one of 31 bits, and each mode one of three
pub order-entry : (n i least left : ℕ) (e : List ℕ) → ordered_from n i least left e ≡ true
    → (j : ℕ) → i ≤ j → j < i + n → (get_or e (j * 4) 0 ≤ 2147483647) × (get_or e (j * 4 + 1) 0 ≤ 2)
order-entry zero i least left e h j a b = absurd (omega arith)
order-entry (suc n) i least left e h j a b =
    ⊎_elim (λ g. order-entry n (i + 1) (get_or e (i * 4) 0 + 1) (left - get_or e (i * 4 + 2) 0) e (order-rest n i least left e h) j (omega arith) (omega arith))
    (λ g. let q : j ≡ i = omega arith in let o = order-first n i least left e h in rw q (o.1, o.2))
    (le-or-lt (suc i) j)

pub order-mode : (n i least left : ℕ) (e : List ℕ) → ordered_from n i least left e ≡ true
    → (j : ℕ) → i ≤ j → j < i + n → get_or e (j * 4 + 1) 0 ≤ 2
order-mode n i least left e h j a b = (order-entry n i least left e h j a b).1

-- the texts have so many bytes together
pub order-bytes : (n i least left : ℕ) (e : List ℕ) → ordered_from n i least left e ≡ true → bytes_from n i e ≡ left
unfolding ordered_from bytes_from
order-bytes zero i least left e h = sym (eqb-true left 0 h)
order-bytes (suc n) i least left e h =
    omega (
      arith,
      (order-first n i least left e h).3,
      order-bytes n (i + 1) (get_or e (i * 4) 0 + 1) (left - get_or e (i * 4 + 2) 0) e (order-rest n i least left e h),
    )
