-- The slices of a block: none is empty and their files ascend, and on rows that lie end to end their sizes sum to what is
-- left of the block, whatever the window with which the search begins. They rely on the law that the file found is the
-- last one at or below the target.
--     walk-ordered, slices-ordered     on any rows: no slice is empty, and the files ascend
--     walk-sum, slices-sum             the sum of the sizes
use Rattle.std.proofs.Common.{◌≡◌, ℕ, zero, suc, ◌+◌, ◌-◌, ◌<◌, ◌≤◌, min, Bool, true, false, cond, eqb, ◌⊎◌, List, [], ◌∷◌, refl, ap, ◌∙◌, inl, inr, add-one, arith, eqb-true}
use borrow.Author.Tests.{eqb-false}
use Rattle.lists.specs.Lists.{sum}
use Rattle.lists.proofs.Orders.{le-or-lt}
use Rattle.tables.specs.Rows.{row_at}
use Rattle.tables.specs.declared.storage.FileStorage.{FileStorage}
use Rattle.layout.specs.declared.window.Window.{Window}
use Rattle.layout.specs.Search.{found_within}
use Rattle.layout.specs.declared.slices.Slice.{Slice}
use Rattle.layout.specs.Mapping.{before, walk, cut, slices_within, sizes_of}
use Rattle.layout.proofs.Starting.{Laid, found_within_lem}

-- none is empty, and each is of a later file than the one before it, the first of file k at the earliest
abbrev pub Ordered : ℕ → List Slice → Type 0
Ordered k [] = Unit
Ordered k (s ∷ ss) = (k ≤ s.file) × (0 < s.size) × Ordered (s.file + 1) ss

ordered-from : (j k : ℕ) (ss : List Slice) → j ≤ k → Ordered k ss → Ordered j ss
ordered-from j k [] h w = tt
ordered-from j k (s ∷ ss) h w = (omega (arith, w.0), w.1, w.2)

before-ordered : (k : ℕ) (s : Slice) (ss : List Slice) → s.file ≡ k → Ordered (k + 1) ss → Ordered k (before s ss)
before-ordered k s ss e w = at (eqb s.size 0) refl
  where
    at : (b : Bool) → eqb s.size 0 ≡ b → Ordered k (cond b ss (s ∷ ss))
    at true q = ordered-from k (k + 1) ss (omega arith) w
    at false q = (omega arith, positive s.size (eqb-false s.size 0 q), rw e w)
      where
        positive : (n : ℕ) → (n ≡ 0 → ⊥) → 0 < n
        positive zero f = absurd (f refl)
        positive (suc n) f = omega arith

pub walk-ordered : (f : ℕ) (rows : List ℕ) (k s n : ℕ) → Ordered k (walk f rows k s n)
unfolding walk
walk-ordered zero rows k s n = tt
walk-ordered (suc f) rows k s n =
    before-ordered
    k
    (record { file = k; offset = s; size = min ((row_at rows k).size - s) n })
    (walk f rows (k + 1) (s - (row_at rows k).size) (n - ((row_at rows k).size - s)))
    refl
    (walk-ordered f rows (k + 1) (s - (row_at rows k).size) (n - ((row_at rows k).size - s)))

pub slices-ordered : (fs : FileStorage) (rows : List ℕ) (w : Window) (target size : ℕ) → Ordered (found_within rows fs.num_files w target) (slices_within fs rows w target size)
slices-ordered fs rows w target size = walk-ordered _ rows _ _ _

-- the sum of the sizes
before-sum : (s : Slice) (ss : List Slice) → sum (sizes_of (before s ss)) ≡ s.size + sum (sizes_of ss)
before-sum s ss = at (eqb s.size 0) refl
  where
    at : (b : Bool) → eqb s.size 0 ≡ b → sum (sizes_of (cond b ss (s ∷ ss))) ≡ s.size + sum (sizes_of ss)
    at true q = omega (arith, eqb-true s.size 0 q)
    at false q = refl

-- what f files from file k on hold, and what the files before file k hold
unfoldable pub sizes_from : ℕ → List ℕ → ℕ → ℕ
sizes_from zero rows k = 0
sizes_from (suc f) rows k = (row_at rows k).size + sizes_from f rows (k + 1)

unfoldable pub sizes_before : List ℕ → ℕ → ℕ
sizes_before rows zero = 0
sizes_before rows (suc k) = sizes_before rows k + (row_at rows k).size

before-next : (rows : List ℕ) (k : ℕ) → sizes_before rows (k + 1) ≡ sizes_before rows k + (row_at rows k).size
unfolding sizes_before
before-next rows k = rw (add-one k)

-- one file's share and the rest's
both-shares : (y n l : ℕ) → min y n + min (n - y) (l - 0) ≡ min n (y + l)
both-shares y n l = omega arith

no-share : (n m : ℕ) → min 0 n + min (n - 0) m ≡ min n m
no-share n m = omega arith

shares : (x s n l : ℕ) → min (x - s) n + min (n - (x - s)) (l - (s - x)) ≡ min n (x + l - s)
shares x s n l = by (le-or-lt s x)
  where
    by : (s ≤ x) ⊎ (x < s) → min (x - s) n + min (n - (x - s)) (l - (s - x)) ≡ min n (x + l - s)
    by (inl h) =
        let a : s - x ≡ 0 = omega arith in
        let b : x + l - s ≡ (x - s) + l = omega arith in
        rw (a, b) (both-shares (x - s) n l)
    by (inr h) =
        let a : x - s ≡ 0 = omega arith in
        let b : x + l - s ≡ l - (s - x) = omega arith in
        rw (a, b) (no-share n (l - (s - x)))

pub walk-sum : (f : ℕ) (rows : List ℕ) (k s n : ℕ) → sum (sizes_of (walk f rows k s n)) ≡ min n (sizes_from f rows k - s)
unfolding walk sizes_from
walk-sum zero rows k s n = omega arith
walk-sum (suc f) rows k s n =
    before-sum _ _ ∙
    ap (λ (m : ℕ). min ((row_at rows k).size - s) n + m) (walk-sum f rows (k + 1) (s - (row_at rows k).size) (n - ((row_at rows k).size - s))) ∙
    shares (row_at rows k).size s n (sizes_from f rows (k + 1))

from-before : (f : ℕ) (rows : List ℕ) (k : ℕ) → sizes_before rows k + sizes_from f rows k ≡ sizes_before rows (k + f)
unfolding sizes_from
from-before zero rows k = let e : k + 0 ≡ k = omega arith in rw e (omega arith)
from-before (suc f) rows k =
    let e : k + suc f ≡ (k + 1) + f = omega arith in
    rw e (omega (arith, from-before f rows (k + 1), before-next rows k))

sizes_before-zero : (rows : List ℕ) → sizes_before rows 0 ≡ 0
unfolding sizes_before
sizes_before-zero rows = refl

-- the sum is that of the cut: where there is nothing, and from a file at or below the target
nothing : (t l size target : ℕ) → t ≡ 0 → min (min size (t - target)) l ≡ min size (t - target)
nothing t l size target z = rw z (omega arith)

meets : (size t target off l : ℕ) → off + l ≡ t → off ≤ target → min (min size (t - target)) (l - (target - off)) ≡ min size (t - target)
meets size t target off l h k =
    let e : l - (target - off) ≡ t - target = omega arith in
    rw e (omega arith)

-- offsets and total are the running sums of the sizes
pub record EndToEnd (fs : FileStorage) (rows : List ℕ) : Type 0 where
  pub offsets : (i : ℕ) → i < fs.num_files → (row_at rows i).offset ≡ sizes_before rows i
  pub total : fs.total_size ≡ sizes_before rows fs.num_files

module _ (fs : FileStorage) (rows : List ℕ) (e : EndToEnd fs rows) where
  pub end-to-end-laid : Laid rows fs.num_files
  end-to-end-laid i h = omega (arith, e.offsets i (omega arith), e.offsets (i + 1) h, before-next rows i)

  -- a set of no files has no bytes
  none : fs.num_files ≤ 0 → fs.total_size ≡ 0
  none h =
      let z : fs.num_files ≡ 0 = omega arith in
      (rw z at e.total) ∙ sizes_before-zero rows

  -- from file k on there is the rest of the total
  reaches : (k : ℕ) → k < fs.num_files → (row_at rows k).offset + sizes_from (fs.num_files - k) rows k ≡ fs.total_size
  reaches k h =
      let d : k + (fs.num_files - k) ≡ fs.num_files = omega arith in
      let q = rw d at (from-before (fs.num_files - k) rows k) in
      omega (arith, q, e.offsets k h, e.total)

  pub slices-sum : (w : Window) (target size : ℕ) → sum (sizes_of (slices_within fs rows w target size)) ≡ cut fs.total_size target size
  slices-sum w target size = by (le-or-lt fs.num_files 0)
    where
      by : (fs.num_files ≤ 0) ⊎ (0 < fs.num_files) → sum (sizes_of (slices_within fs rows w target size)) ≡ cut fs.total_size target size
      by (inl h) = walk-sum _ rows _ _ _ ∙ nothing fs.total_size _ size target (none h)
      by (inr h) =
          let l = found_within_lem rows fs.num_files target end-to-end-laid w h (omega (arith, e.offsets 0 h, sizes_before-zero rows)) in
          walk-sum _ rows _ _ _ ∙ meets size fs.total_size target _ _ (reaches _ l.among) l.low
