-- The table's rule, proved at all of its entries by one test that antt computes, one entry after the other.
-- Assumes nothing.
--     is-table   a list whose 256 entries pass the test is the table
use mathlib.Core.Path.{◌≡◌, ◌∙◌, subst, sym}
use mathlib.Core.Bool.{Bool, true, false, ◌&&◌}
use mathlib.Core.List.{List, [], ◌∷◌}
use Prim.Native.Nat.{ℕ, zero, suc, ◌+◌, ◌<◌}
use native.Mathlib.Nat.{add-zero, zero-add, add-suc, suc-add, le_of_suc-le-suc, not-suc-le-zero}
use lib.Dec.{T, eqb, eqb→eq}
use lib.ListN.{length, get_or}
use Rattle.crc32c.specs.Crc.{bits}
use Rattle.crc32c.specs.private.Table.{IsTable}

both_left : (a b : Bool) → T (a && b) → T a
both_left true b t = tt
both_left false b t = t

both_right : (a b : Bool) → T (a && b) → T b
both_right true b t = t
both_right false b t = absurd t

-- the test f passes at each entry of the list and its place, counted from i
abbrev every : (ℕ → ℕ → Bool) → ℕ → List ℕ → Bool
every f i [] = true
every f i (x ∷ xs) = f i x && every f (suc i) xs

from : (f : ℕ → ℕ → Bool) (xs : List ℕ) (i : ℕ) → T (every f i xs) → (k : ℕ) → k < length xs → T (f (i + k) (get_or xs k 0))
from f [] i t k h = absurd (not-suc-le-zero h)
from f (x ∷ xs) i t zero h = subst (λ (m : ℕ). T (f m x)) (sym (add-zero i)) (both_left (f i x) (every f (suc i) xs) t)
from f (x ∷ xs) i t (suc k) h =
    subst (λ (m : ℕ). T (f m (get_or xs k 0))) (suc-add i k ∙ sym (add-suc i k))
    (from f xs (suc i) (both_right (f i x) (every f (suc i) xs) t) k (le_of_suc-le-suc h))

-- an entry is the register of its place after eight bits
unfoldable pub right : ℕ → ℕ → Bool
right k x = eqb x (bits 8 k)

pub is-table : {t : List ℕ} → T (every right 0 t) → length t ≡ 256 → IsTable t
unfolding right
is-table {t} e l = record {
  entry = λ k h. eqb→eq (get_or t k 0) (bits 8 k) (subst (λ (m : ℕ). T (eqb (get_or t k 0) (bits 8 m))) (zero-add k) (from right t 0 e k (rw l h)));
}
