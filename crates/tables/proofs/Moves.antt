-- What rows read once they are written row after row: any rows, directory rows that are lowered, and rows of which one is
-- removed. They rely on proofs/Words.antt and proofs/Filled.antt.
use mathlib.Core.Path.{◌≡◌, refl}
use mathlib.Core.Bool.{Bool, true, false, cond}
use mathlib.Core.List.{List}
use Prim.Native.Nat.{ℕ, ◌+◌, ◌*◌, ◌/◌, ◌^◌, ◌≤◌, ◌<◌, min}
use native.Mathlib.Omega.{arith}
use lib.Dec.{ltb}
use lib.ListN.{length}
use lib.Seq.{sets, length-sets}
use Rattle.tables.specs.declared.span.Span.{Span}
use Rattle.tables.specs.declared.rows.Row.{Row}
use Rattle.tables.specs.Span.{low}
use Rattle.tables.specs.Rows.{row_at, words, dir_at, dir_words, filled, dirs_lowered, skip, row_moved, rows_without}
use Rattle.tables.proofs.Words.{InRange, row-in-range, row_words, dir-words}
use Rattle.tables.proofs.Filled.{word-filled}

module _ (rows : List ℕ) (g : ℕ → Row) (n k : ℕ) where
  pub row-filled : n * 8 ≤ length rows → k < n → InRange (g k) → row_at (sets rows 0 (filled (λ i. words (g i)) 0 n)) k ≡ g k
  row-filled f h r =
      row_words (sets rows 0 (filled (λ i. words (g i)) 0 n)) k (g k) r (λ j b. word-filled 8 (λ i. words (g i)) (λ i. refl) rows n k j b f h)

module _ (dirs : List ℕ) (g : ℕ → Span) (n k : ℕ) where
  pub dir-filled : n * 2 ≤ length dirs → k < n → dir_at (sets dirs 0 (filled (λ i. dir_words (g i)) 0 n)) k ≡ g k
  dir-filled f h =
      dir-words (sets dirs 0 (filled (λ i. dir_words (g i)) 0 n)) k (g k) (λ j b. word-filled 2 (λ i. dir_words (g i)) (λ i. refl) dirs n k j b f h)

-- directory rows once span c is removed
pub length-lowered : (dirs : List ℕ) (n : ℕ) (c : Span) → length (dirs_lowered dirs n c) ≡ length dirs
length-lowered dirs n c = length-sets dirs 0 (filled (λ i. dir_words (low c (dir_at dirs i))) 0 (min n (length dirs / 2)))

module _ (dirs : List ℕ) (n : ℕ) (c : Span) (k : ℕ) where
  pub dir-lowered : k < n → k * 2 + 2 ≤ length dirs → dir_at (dirs_lowered dirs n c) k ≡ low c (dir_at dirs k)
  dir-lowered h f = dir-filled dirs (λ i. low c (dir_at dirs i)) (min n (length dirs / 2)) k (omega arith) (omega arith)

-- rows once row f is removed
pub length_without : (rows : List ℕ) (n f total : ℕ) (c d : Span) → length (rows_without rows n f total c d) ≡ length rows
length_without rows n f total c d =
    length-sets rows 0 (filled (λ i. words (row_moved f total c d i (row_at rows (skip f i)))) 0 (min n (length rows / 8)))

module _ (rows : List ℕ) (n f total : ℕ) (c d : Span) (k : ℕ) where
  pub row_moved_lem : k < n → k * 8 + 8 ≤ length rows → total < 2 ^ 48 → row_at (rows_without rows n f total c d) k ≡ row_moved f total c d k (row_at rows (skip f k))
  row_moved_lem h b t =
      row-filled rows (λ i. row_moved f total c d i (row_at rows (skip f i))) (min n (length rows / 8)) k (omega arith) (omega arith) (record { offset = offset (ltb k f); size = r.size; flags = r.flags })
    where
      r : InRange (row_at rows (skip f k))
      r = row-in-range rows (skip f k)

      offset : (b : Bool) → cond b (row_at rows (skip f k)).offset total < 2 ^ 48
      offset true = r.offset
      offset false = t
