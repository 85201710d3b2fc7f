-- Of a lent table of entries the scans and the list of renames read nothing behind the entries that they are about: they say the
-- same of the table's first words alone. These laws rely on the definitions of specs/Finding.antt, specs/Renames.antt and specs/private/Slots.antt.
use Prim.Native.Nat.{ℕ, zero, suc, ◌+◌, ◌-◌, ◌*◌, ◌/◌, ◌≤◌, ◌<◌}
use mathlib.Core.Path.{◌≡◌, refl}
use mathlib.Core.Logic.{◌⊎◌, inl, inr, ⊎_elim}
use mathlib.Core.List.{List}
use native.Mathlib.Omega.{arith}
use borrow.Author.Tests.{le-ltb}
use lib.ListN.{length, get_or, take, drop}
use lib.Seq.{length-take-le}
use Rattle.std.proofs.lemmas.List.{get_or-take}
use Rattle.lists.proofs.Orders.{le-or-lt}
use Rattle.renames.specs.Renames.{ordered_from, placed_from, renames_from}
use Rattle.renames.specs.Finding.{sought_from, entry_sought}
use Rattle.renames.specs.private.Slots.{bytes_from, slot_at, slot_of}
use Rattle.renames.proofs.Halves.{sought-none, sought-step, sought_le}

-- the first m words of the table
module _ (m : ℕ) (e : List ℕ) where
  sought-used : (t n i k : ℕ) → n ≤ t → (i + n) * 4 ≤ m → sought_from t n i k (take m e) ≡ sought_from t n i k e
  sought-used zero n i k a h =
      let z : n ≡ 0 = omega arith in
      rw (z, sought-none 0 i k (take m e), sought-none 0 i k e)
  sought-used (suc t) n i k a h =
      ⊎_elim
      (λ g. let z : n ≡ 0 = omega arith in rw (z, sought-none (suc t) i k (take m e), sought-none (suc t) i k e))
      (λ g.
      rw (
        sought-step t n i k (take m e) g,
        sought-step t n i k e g,
        get_or-take m e ((i + n / 2) * 4) 0 (omega arith),
        sought-used t (n - (n / 2 + 1)) (i + n / 2 + 1) k (omega arith) (omega arith),
        sought-used t (n / 2) i k (omega arith) (omega arith),
      ))
      (le-or-lt n 0)

  bytes-used : (n i : ℕ) → (i + n) * 4 ≤ m → bytes_from n i (take m e) ≡ bytes_from n i e
  unfolding bytes_from
  bytes-used zero i h = refl
  bytes-used (suc n) i h = rw (get_or-take m e (i * 4 + 2) 0 (omega arith), bytes-used n (i + 1) (omega arith))

  ordered-used : (n i least left : ℕ) → (i + n) * 4 ≤ m → ordered_from n i least left (take m e) ≡ ordered_from n i least left e
  unfolding ordered_from
  ordered-used zero i least left h = refl
  ordered-used (suc n) i least left h =
      rw (
        get_or-take m e (i * 4) 0 (omega arith),
        get_or-take m e (i * 4 + 1) 0 (omega arith),
        get_or-take m e (i * 4 + 2) 0 (omega arith),
        ordered-used n (i + 1) (get_or e (i * 4) 0 + 1) (left - get_or e (i * 4 + 2) 0) (omega arith),
      )

  placed-used : (n i at : ℕ) → (i + n) * 4 ≤ m → placed_from n i at (take m e) ≡ placed_from n i at e
  unfolding placed_from
  placed-used zero i at h = refl
  placed-used (suc n) i at h =
      rw (
        get_or-take m e (i * 4 + 2) 0 (omega arith),
        get_or-take m e (i * 4 + 3) 0 (omega arith),
        placed-used n (i + 1) (at + get_or e (i * 4 + 2) 0) (omega arith),
      )

  renames-used : (n i : ℕ) (t : List ℕ) → (i + n) * 4 ≤ m → renames_from n i (take m e) t ≡ renames_from n i e t
  unfolding renames_from
  renames-used zero i t h = refl
  renames-used (suc n) i t h =
      rw (
        get_or-take m e (i * 4) 0 (omega arith),
        get_or-take m e (i * 4 + 1) 0 (omega arith),
        get_or-take m e (i * 4 + 2) 0 (omega arith),
        renames-used n (i + 1) (drop (get_or e (i * 4 + 2) 0) t) (omega arith),
      )

-- n entries are in use
module _ (n : ℕ) (e : List ℕ) (h : n * 4 ≤ length e) where
  count : length (take (n * 4) e) / 4 ≡ n
  count = omega (arith, length-take-le (n * 4) e h)

  pub bytes_in_use : bytes_from (length (take (n * 4) e) / 4) 0 (take (n * 4) e) ≡ bytes_from n 0 e
  bytes_in_use = rw count (bytes-used (n * 4) e n 0 (omega arith))

  pub order_in_use : (u : ℕ) → ordered_from (length (take (n * 4) e) / 4) 0 0 u (take (n * 4) e) ≡ ordered_from n 0 0 u e
  order_in_use u = rw count (ordered-used (n * 4) e n 0 0 u (omega arith))

  pub place_in_use : placed_from (length (take (n * 4) e) / 4) 0 0 (take (n * 4) e) ≡ placed_from n 0 0 e
  place_in_use = rw count (placed-used (n * 4) e n 0 0 (omega arith))

  pub sought_in_use : (k : ℕ) → entry_sought (length (take (n * 4) e) / 4) k (take (n * 4) e) ≡ entry_sought n k e
  sought_in_use k = rw count (sought-used (n * 4) e n n 0 k (omega arith) (omega arith))

  pub renames_in_use : (t : List ℕ) → renames_from (length (take (n * 4) e) / 4) 0 (take (n * 4) e) t ≡ renames_from n 0 e t
  renames_in_use t = rw count (renames-used (n * 4) e n 0 t (omega arith))

  at-slot : (k i : ℕ) → i ≤ n → slot_at n k i (take (n * 4) e) ≡ slot_at n k i e
  at-slot k i b = at (le-or-lt n i)
    where
      at : (n ≤ i) ⊎ (i < n) → slot_at n k i (take (n * 4) e) ≡ slot_at n k i e
      at (inl g) = rw (le-ltb i n g, bytes-used (n * 4) e i 0 (omega arith))
      at (inr g) =
          rw (
            bytes-used (n * 4) e i 0 (omega arith),
            get_or-take (n * 4) e (i * 4) 0 (omega arith),
            get_or-take (n * 4) e (i * 4 + 2) 0 (omega arith),
          )

  pub slot_in_use : (k : ℕ) → slot_of (length (take (n * 4) e) / 4) k (take (n * 4) e) ≡ slot_of n k e
  slot_in_use k = rw (sought_in_use k, count) (at-slot k (entry_sought n k e) (sought_le n k e))

pub ruleset in_use = (bytes_in_use, order_in_use, place_in_use, sought_in_use, slot_in_use, renames_in_use)
