-- The search for a number by halves: its turns, its bounds, and that it ends where a scan from the front does, where the numbers
-- ascend. These laws rely on the definitions of specs/Finding.antt and on the laws of proofs/Ordered.antt.
use Prim.Native.Nat.{ℕ, zero, suc, ◌+◌, ◌-◌, ◌*◌, ◌/◌, ◌≤◌, ◌<◌}
use mathlib.Core.Path.{◌≡◌, refl, sym, ap, ◌∙◌}
use mathlib.Core.Bool.{Bool, true, false, cond}
use mathlib.Core.Logic.{⊎_elim}
use mathlib.Core.List.{List}
use native.Mathlib.Nat.{zero-add}
use native.Mathlib.Omega.{arith}
use borrow.Author.Tests.{lt-ltb, le-ltb, ne_eqb}
use lib.Dec.{ltb}
use lib.ListN.{get_or}
use Rattle.lists.proofs.Orders.{le-or-lt}
use Rattle.renames.specs.Renames.{ordered_from}
use Rattle.renames.specs.Finding.{sought_from, entry_sought}
use Rattle.renames.proofs.Ordered.{order-first, order-rest}

-- how many of the n entries from entry i on stand before the first whose number is k or above
unfoldable pub below_from : ℕ → ℕ → ℕ → List ℕ → ℕ
below_from zero i k entries = 0
below_from (suc n) i k entries = cond (ltb (get_or entries (i * 4) 0) k) (below_from n (i + 1) k entries + 1) 0

-- ---- the turns

abbrev goes_on : ℕ → ℕ → ℕ → ℕ → List ℕ → ℕ
goes_on t n i k e =
    cond (ltb (get_or e ((i + n / 2) * 4) 0) k) (sought_from t (n - (n / 2 + 1)) (i + n / 2 + 1) k e) (sought_from t (n / 2) i k e)

-- among no entries it ends at once
pub sought-none : (t i k : ℕ) (e : List ℕ) → sought_from t 0 i k e ≡ i
unfolding sought_from
sought-none zero i k e = refl
sought-none (suc t) i k e = refl

pub sought-step : (t n i k : ℕ) (e : List ℕ) → 0 < n → sought_from (suc t) n i k e ≡ goes_on t n i k e
unfolding sought_from
sought-step t n i k e h = rw (ne_eqb n 0 (λ q. omega arith))

-- more turns than entries make no difference
pub enough : (t s n i k : ℕ) (e : List ℕ) → n ≤ t → n ≤ s → sought_from t n i k e ≡ sought_from s n i k e
enough zero s n i k e a b =
    let z : n ≡ 0 = omega arith in
    rw (z, sought-none 0 i k e, sought-none s i k e)
enough (suc t) zero n i k e a b =
    let z : n ≡ 0 = omega arith in
    rw (z, sought-none (suc t) i k e, sought-none 0 i k e)
enough (suc t) (suc s) n i k e a b =
    ⊎_elim
    (λ h. let z : n ≡ 0 = omega arith in rw (z, sought-none (suc t) i k e, sought-none (suc s) i k e))
    (λ h.
    rw (
      sought-step t n i k e h,
      sought-step s n i k e h,
      enough t s (n - (n / 2 + 1)) (i + n / 2 + 1) k e (omega arith) (omega arith),
      enough t s (n / 2) i k e (omega arith) (omega arith),
    ))
    (le-or-lt n 0)

-- it ends among the entries, or behind them
abbrev Within : ℕ → ℕ → ℕ → Type 0
Within i n p = (i ≤ p) × (p ≤ i + n)

within-either : (b : Bool) (i n x y : ℕ) → Within (i + n / 2 + 1) (n - (n / 2 + 1)) x → Within i (n / 2) y → 0 < n → Within i n (cond b x y)
within-either true i n x y p q h = (omega (arith, p.0), omega (arith, p.1))
within-either false i n x y p q h = (omega (arith, q.0), omega (arith, q.1))

pub sought-within : (t n i k : ℕ) (e : List ℕ) → n ≤ t → Within i n (sought_from t n i k e)
sought-within zero n i k e a =
    let z : n ≡ 0 = omega arith in
    rw (z, sought-none 0 i k e) (omega arith, omega arith)
sought-within (suc t) n i k e a =
    ⊎_elim
    (λ h. let z : n ≡ 0 = omega arith in rw (z, sought-none (suc t) i k e) (omega arith, omega arith))
    (λ h.
    rw (sought-step t n i k e h)
    (within-either (ltb (get_or e ((i + n / 2) * 4) 0) k) i n _ _
    (sought-within t (n - (n / 2 + 1)) (i + n / 2 + 1) k e (omega arith))
    (sought-within t (n / 2) i k e (omega arith))
    h))
    (le-or-lt n 0)

pub sought_le : (n k : ℕ) (e : List ℕ) → entry_sought n k e ≤ n
sought_le n k e = omega (arith, (sought-within n n 0 k e (omega arith)).1)

-- ---- where the numbers ascend

-- p is the entry before which all numbers are below k, and from which on none is
pub record Parts (n i p k : ℕ) (e : List ℕ) : Type 0 where
  pub low : i ≤ p
  pub high : p ≤ i + n
  pub before : (j : ℕ) → i ≤ j → j < p → get_or e (j * 4) 0 < k
  pub behind : (j : ℕ) → p ≤ j → j < i + n → k ≤ get_or e (j * 4) 0

-- it lies behind an entry whose number is below k, else before it
module _ (n i p k : ℕ) (e : List ℕ) (h : 0 < n) (q : Parts n i p k e) where
  later : get_or e ((i + n / 2) * 4) 0 < k → Parts (n - (n / 2 + 1)) (i + n / 2 + 1) p k e
  later g =
      let m : i + n / 2 < p =
      ⊎_elim (λ x. absurd (let y = q.behind (i + n / 2) x (omega arith) in omega arith)) (λ x. x) (le-or-lt p (i + n / 2)) in
      record {
        low = omega arith;
        high = omega (arith, q.high);
        before = λ j x y. q.before j (omega arith) y;
        behind = λ j x y. q.behind j x (omega arith);
      }

  earlier : k ≤ get_or e ((i + n / 2) * 4) 0 → Parts (n / 2) i p k e
  earlier g =
      let m : p ≤ i + n / 2 =
      ⊎_elim (λ x. x) (λ x. absurd (let y = q.before (i + n / 2) (omega arith) x in omega arith)) (le-or-lt p (i + n / 2)) in
      record { low = q.low; high = m; before = q.before; behind = λ j x y. q.behind j x (omega arith) }

pub sought-is : (t n i p k : ℕ) (e : List ℕ) → n ≤ t → Parts n i p k e → sought_from t n i k e ≡ p
sought-is zero n i p k e a q =
    let z : n ≡ 0 = omega arith in
    rw (z, sought-none 0 i k e) (omega (arith, q.low, q.high))
sought-is (suc t) n i p k e a q =
    ⊎_elim
    (λ h. let z : n ≡ 0 = omega arith in rw (z, sought-none (suc t) i k e) (omega (arith, q.low, q.high)))
    (λ h.
    sought-step t n i k e h
    ∙ ⊎_elim
    (λ g. rw (le-ltb (get_or e ((i + n / 2) * 4) 0) k g) (sought-is t (n / 2) i p k e (omega arith) (earlier n i p k e h q g)))
    (λ g.
    rw (lt-ltb (get_or e ((i + n / 2) * 4) 0) k g)
    (sought-is t (n - (n / 2 + 1)) (i + n / 2 + 1) p k e (omega arith) (later n i p k e h q g)))
    (le-or-lt k (get_or e ((i + n / 2) * 4) 0)))
    (le-or-lt n 0)

-- the scan ends there
least-below : (n i least left : ℕ) (e : List ℕ) → ordered_from n i least left e ≡ true
    → (j : ℕ) → i ≤ j → j < i + n → least ≤ get_or e (j * 4) 0
least-below zero i least left e h j a b = absurd (omega arith)
least-below (suc n) i least left e h j a b =
    let f = get_or e (i * 4) 0 in
    let o = order-first n i least left e h in
    ⊎_elim (λ g. let r = least-below n (i + 1) (f + 1) (left - get_or e (i * 4 + 2) 0) e (order-rest n i least left e h) j (omega arith) (omega arith) in omega (arith, o.0))
    (λ g. let q : j ≡ i = omega arith in rw q o.0)
    (le-or-lt (suc i) j)

pub below-parts : (n i least left k : ℕ) (e : List ℕ) → ordered_from n i least left e ≡ true → Parts n i (i + below_from n i k e) k e
unfolding below_from
below-parts zero i least left k e h =
    record { low = omega arith; high = omega arith; before = λ j a b. absurd (omega arith); behind = λ j a b. absurd (omega arith) }
below-parts (suc n) i least left k e h =
    let f = get_or e (i * 4) 0 in
    let o = order-first n i least left e h in
    let r = order-rest n i least left e h in
    let q = below-parts n (i + 1) (f + 1) (left - get_or e (i * 4 + 2) 0) k e r in
    ⊎_elim
    (λ g.
    rw (le-ltb f k g)
    (record {
      low = omega arith;
      high = omega arith;
      before = λ j a b. absurd (omega arith);
      behind = λ j a b.
          ⊎_elim (λ x. let w = least-below n (i + 1) (f + 1) (left - get_or e (i * 4 + 2) 0) e r j (omega arith) (omega arith) in omega arith)
          (λ x. let z : j ≡ i = omega arith in rw z g)
          (le-or-lt (suc i) j);
    }))
    (λ g.
    rw (lt-ltb f k g)
    (record {
      low = omega arith;
      high = omega (arith, q.high);
      before = λ j a b. ⊎_elim (λ x. q.before j (omega arith) (omega arith)) (λ x. let z : j ≡ i = omega arith in rw z g) (le-or-lt (suc i) j);
      behind = λ j a b. q.behind j (omega arith) (omega arith);
    }))
    (le-or-lt k f)

pub sought-below : (n least left k : ℕ) (e : List ℕ) → ordered_from n 0 least left e ≡ true → entry_sought n k e ≡ below_from n 0 k e
sought-below n least left k e h =
    let z = zero-add (below_from n 0 k e) in
    sought-is n n 0 (below_from n 0 k e) k e (omega arith) (rw z at (below-parts n 0 least left k e h))

-- ---- in the code: a turn that goes on behind the middle, one that goes on before it, and the end
module _ (n i k : ℕ) (e : List ℕ) where
  pub turn_later : 0 < n → get_or e ((i + n / 2) * 4) 0 < k → sought_from (n - (n / 2 + 1)) (n - (n / 2 + 1)) (i + (n / 2 + 1)) k e ≡ sought_from n n i k e
  turn_later h g =
      let m : n ≡ suc (n - 1) = omega arith in
      let z : i + (n / 2 + 1) ≡ i + n / 2 + 1 = omega arith in
      let one : sought_from n n i k e ≡ sought_from (suc (n - 1)) n i k e = ap (λ (t : ℕ). sought_from t n i k e) m in
      sym (one ∙ sought-step (n - 1) n i k e h ∙ rw (lt-ltb (get_or e ((i + n / 2) * 4) 0) k g, z) (enough (n - 1) (n - (n / 2 + 1)) (n - (n / 2 + 1)) (i + n / 2 + 1) k e (omega arith) (omega arith)))

  pub turn_earlier : 0 < n → k ≤ get_or e ((i + n / 2) * 4) 0 → sought_from (n / 2) (n / 2) i k e ≡ sought_from n n i k e
  turn_earlier h g =
      let m : n ≡ suc (n - 1) = omega arith in
      let one : sought_from n n i k e ≡ sought_from (suc (n - 1)) n i k e = ap (λ (t : ℕ). sought_from t n i k e) m in
      sym (one ∙ sought-step (n - 1) n i k e h ∙ rw (le-ltb (get_or e ((i + n / 2) * 4) 0) k g) (enough (n - 1) (n / 2) (n / 2) i k e (omega arith) (omega arith)))

  pub turn_end : n ≤ 0 → sought_from n n i k e ≡ i
  turn_end h = let z : n ≡ 0 = omega arith in rw (z, sought-none 0 i k e)

pub ruleset turns = (turn_later, turn_earlier, turn_end)
