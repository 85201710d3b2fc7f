-- A trim of tables in order: they stay in order, and mean what document 01 says of the trim. It relies on Trimmed/View.antt,
-- Trimmed/Texts.antt and on what the search for the tail pad finds.
pub mod Tail
pub mod Spans
pub mod Texts
pub mod View
use Rattle.std.specs.Prelude.{Option, Some, None}
use mathlib.Core.Path.{◌≡◌, refl, sym, ap, ◌∙◌}
use mathlib.Core.Bool.{true, false, cond}
use mathlib.Core.Logic.{◌⊎◌, inl, inr}
use Prim.Native.Nat.{ℕ, ◌+◌, ◌-◌, ◌*◌, ◌/◌, ◌%◌, ◌≤◌, ◌<◌}
use native.Mathlib.Omega.{arith}
use lib.Dec.{ltb}
use lib.ListN.{length}
use borrow.Author.Tests.{lt-ltb, le-ltb, eq-eqb}
use Rattle.lists.proofs.Orders.{le-or-lt}
use Rattle.tables.specs.declared.rows.Row.{Row}
use Rattle.tables.specs.Span.{low, slid}
use Rattle.tables.specs.Rows.{row_at, has, skip, dirs_lowered}
use Rattle.tables.specs.Model.{File, Store, file_of, view_of}
use Rattle.tables.proofs.Spans.{length-slid}
use Rattle.tables.proofs.Moves.{length-lowered, length_without}
use Rattle.tables.proofs.Tabled.{length-tabled}
use Rattle.trim.specs.Trim.{tail_pad, trimmed_if, trimmed_of}
use Rattle.trim.specs.Removal.{store_trimmed, trimmed_by}
use Rattle.sound.specs.Sound.{sum_to, size_of_row, pad_of_row, Sound}
use Rattle.sound.proofs.Trimmed.Tail.{TailPad, tail-pad}
use Rattle.sound.proofs.Common.{sum_same}
use Rattle.sound.proofs.Files.{sum-skip, sum-tail, number-tabled}
use Rattle.sound.proofs.Trimmed.Texts.{c, l, new, removed-is, row_is, within-after, apart-after, full-after}
use Rattle.sound.proofs.Trimmed.View.{view-after}

-- ---- what the search on a store's files says of its rows

module _ (s : Store) (f : ℕ) (p : TailPad (view_of s).files f) where
  pub there : f < s.fs.num_files
  there = rw (length-tabled s.fs.num_files (file_of s)) at p.last.there

  empty-behind : (k : ℕ) → f < k → k < s.fs.num_files → size_of_row s k ≡ 0
  empty-behind k a b = sym (number-tabled (λ (g : File). g.size) s.fs.num_files (file_of s) k b) ∙ p.last.behind k a

  is-pad : has (row_at s.rows f).flags 1 ≡ true
  is-pad =
      let e : (row_at s.rows f).flags % 16 % 2 ≡ 1 = sym (ap (λ (n : ℕ). n % 2) (number-tabled (λ (g : File). g.flags) s.fs.num_files (file_of s) f there)) ∙ p.pad in
      eq-eqb ((row_at s.rows f).flags / 1 % 2) 1 (omega arith)

-- ---- offsets and totals

module _ (s : Store) (f : ℕ) (h : f < s.fs.num_files) (ok : Sound s) where
  abbrev after : Store
  after = new s f h ok

  abbrev n : ℕ
  n = s.fs.num_files

  size_is : (k : ℕ) → k < n - 1 → size_of_row after k ≡ size_of_row s (skip f k)
  size_is k b = ap (λ (r : Row). r.size) (row_is s f h ok k b)

  pad-is : (k : ℕ) → k < n - 1 → pad_of_row after k ≡ pad_of_row s (skip f k)
  pad-is k b = ap (λ (r : Row). cond (has r.flags 1) r.size 0) (row_is s f h ok k b)

  sums-new : (k : ℕ) → k ≤ n - 1 → sum_to k (size_of_row after) ≡ sum_to k (λ i. size_of_row s (skip f i))
  sums-new k b = sum_same k (size_of_row after) (λ i. size_of_row s (skip f i)) (λ i c. size_is i (omega arith))

  module _ (behind : (k : ℕ) → f < k → k < n → size_of_row s k ≡ 0) where
    -- from f on, all sums are the new total
    sum-behind : (k : ℕ) → f ≤ k → k ≤ n - 1 → sum_to k (λ i. size_of_row s (skip f i)) ≡ after.fs.total_size
    sum-behind k a b =
        let e : k + 1 - 1 ≡ k = omega arith in
        let q : k + 1 + (n - (k + 1)) ≡ n = omega arith in
        let x = sum-skip (k + 1) f (size_of_row s) (omega arith) in
        let y = sum-tail (k + 1) (n - (k + 1)) (size_of_row s) (λ i c d. behind i (omega arith) (omega arith)) in
        last (sum_to k (λ i. size_of_row s (skip f i))) (size_of_row s f) ok.total (rw e at x) (rw q at y)
      where
        last : {a b e : ℕ} (c d : ℕ) → a ≡ b → c + d ≡ e → b ≡ e → c ≡ a - d
        last c d p q r = omega arith

    total-after : after.fs.total_size ≡ sum_to (n - 1) (size_of_row after)
    total-after = sym (sums-new (n - 1) (omega arith) ∙ sum-behind (n - 1) (omega arith) (omega arith))

    offset-after : (k : ℕ) → k < n - 1 → (row_at after.rows k).offset ≡ sum_to k (size_of_row after)
    offset-after k b = ap (λ (r : Row). r.offset) (row_is s f h ok k b) ∙ at (le-or-lt f k) ∙ sym (sums-new k (omega arith))
      where
        before : (i : ℕ) → k < f → i < k → skip f i ≡ i
        before i a b = omega arith

        at : (f ≤ k) ⊎ (k < f) → cond (ltb k f) (row_at s.rows (skip f k)).offset after.fs.total_size ≡ sum_to k (λ i. size_of_row s (skip f i))
        at (inl a) = rw (le-ltb k f a) (sym (sum-behind k a (omega arith)))
        at (inr a) =
            let q : skip f k ≡ k = omega arith in
            rw (lt-ltb k f a, q)
            (ok.offsets k (omega arith) ∙ sym (sum_same k (λ i. size_of_row s (skip f i)) (size_of_row s) (λ i c. ap (size_of_row s) (before i a c))))

  -- the pad's size goes from the pads' sizes
  module _ (pad : has (row_at s.rows f).flags 1 ≡ true) where
    disk-after : after.fs.size_on_disk + sum_to (n - 1) (pad_of_row after) ≡ after.fs.total_size
    disk-after =
        let e : pad_of_row s f ≡ size_of_row s f = rw pad in
        last s.fs.size_on_disk (sum_same (n - 1) (pad_of_row after) (λ k. pad_of_row s (skip f k)) pad-is) (sum-skip n f (pad_of_row s) h) e ok.on-disk
      where
        last : (d : ℕ) {x y z v w t : ℕ} → x ≡ y → y + z ≡ v → z ≡ w → d + v ≡ t → d + x ≡ t - w
        last d p q r k = omega arith

  -- each row is one that was there
  path-is : (k : ℕ) → k < n - 1 → (row_at after.rows k).path_index ≡ (row_at s.rows (skip f k)).path_index
  path-is k b = ap (λ (r : Row). r.path_index) (row_is s f h ok k b)

  unlinked-after : (k : ℕ) → k < n - 1 → has (row_at after.rows k).flags 16 ≡ false → (row_at after.rows k).link.len ≡ 0
  unlinked-after k b e =
      ap (λ (r : Row). r.link.len) (row_is s f h ok k b)
      ∙ ok.unlinked (skip f k) (omega arith) (sym (ap (λ (r : Row). has r.flags 16) (row_is s f h ok k b)) ∙ e)

  placed-after : (k : ℕ) → k < n - 1 → (row_at after.rows k).path_index < 1073741822 → (row_at after.rows k).path_index < s.fs.num_paths
  placed-after k b e =
      let q = path-is k b in
      omega (arith, ok.placed (skip f k) (omega arith) (omega arith))

  indexed-after : (k : ℕ) → k < n - 1 → (row_at after.rows k).path_index ≤ 1073741823
  indexed-after k b = omega (arith, path-is k b, ok.indexed (skip f k) (omega arith))

  -- the tables hold what the new record counts
  dirs-after : s.fs.num_paths * 2 ≤ length after.dirs
  dirs-after =
      let a = length-lowered (dirs_lowered s.dirs s.fs.num_paths (c s f h ok)) s.fs.num_paths (low (c s f h ok) (l s f h ok)) in
      let b = length-lowered s.dirs s.fs.num_paths (c s f h ok) in
      omega (arith, ok.dirs-hold)

  text-after : after.fs.text_len ≤ length after.text
  text-after =
      let a = length-slid (low (c s f h ok) (l s f h ok)) (s.fs.text_len - (c s f h ok).len) (slid (c s f h ok) s.fs.text_len s.text) in
      let b = length-slid (c s f h ok) s.fs.text_len s.text in
      left_in s.fs.text_len (c s f h ok).len (l s f h ok).len (a ∙ b) ok.text-holds
    where
      left_in : (t x y : ℕ) {m r : ℕ} → m ≡ r → t ≤ r → t - x - y ≤ m
      left_in t x y e k = omega arith

  rows-after : (n - 1) * 8 ≤ length after.rows
  rows-after =
      let a = length_without s.rows (n - 1) f after.fs.total_size (c s f h ok) (low (c s f h ok) (l s f h ok)) in
      omega (arith, ok.rows-hold)

  roots-after : (n - 1) * 32 ≤ length after.roots
  roots-after =
      let a = length-slid (record { at = f * 32; len = 32 }) (n * 32) s.roots in
      omega (arith, ok.roots-hold)

-- ---- the theorems

sound-after : (s : Store) (f : ℕ) (ok : Sound s) (p : TailPad (view_of s).files f) → Sound (store_trimmed s f)
sound-after s f ok p =
    let h = there s f p in
    rw (removed-is s f h ok)
    (record {
      rows-hold = rows-after s f h ok;
      roots-hold = roots-after s f h ok;
      dirs-hold = dirs-after s f h ok;
      text-holds = text-after s f h ok;
      few-files = omega (arith, ok.few-files);
      few-paths = ok.few-paths;
      within = within-after s f h ok;
      apart = apart-after s f h ok;
      full = full-after s f h ok;
      offsets = offset-after s f h ok (empty-behind s f p);
      total = total-after s f h ok (empty-behind s f p);
      limited = omega (arith, ok.limited);
      on-disk = disk-after s f h ok (is-pad s f p);
      unlinked = unlinked-after s f h ok;
      placed = placed-after s f h ok;
      indexed = indexed-after s f h ok;
    })

pub view-trimmed : (s : Store) → Sound s → view_of (trimmed_by (tail_pad (view_of s).files) s) ≡ trimmed_of (view_of s)
view-trimmed s ok = at (tail_pad (view_of s).files) refl
  where
    at : (o : Option ℕ) → tail_pad (view_of s).files ≡ o → view_of (trimmed_by o s) ≡ trimmed_if o (view_of s)
    at None e = refl
    at (Some f) e =
        let h = there s f (tail-pad (view_of s).files f e) in
        ap view_of (removed-is s f h ok) ∙ view-after s f h ok

pub sound-trimmed : (s : Store) → Sound s → Sound (trimmed_by (tail_pad (view_of s).files) s)
sound-trimmed s ok = at (tail_pad (view_of s).files) refl
  where
    at : (o : Option ℕ) → tail_pad (view_of s).files ≡ o → Sound (trimmed_by o s)
    at None e = ok
    at (Some f) e = sound-after s f ok (tail-pad (view_of s).files f e)
