-- Laws of the work space: the count of links, the space of those still to come, and the test on what is there. They rely on the
-- laws of proofs/Rows.antt.
use Prim.Native.Nat.{ℕ, zero, suc, ◌+◌, ◌*◌, ◌/◌, ◌<◌, ◌≤◌, min}
use mathlib.Core.Path.{◌≡◌, refl, sym, ap, ◌∙◌}
use mathlib.Core.Bool.{Bool, true, false, cond, not, ◌||◌, true≢false}
use mathlib.Core.List.{List, [], ◌∷◌, map}
use mathlib.Core.Logic.{◌⊎◌, inl, inr}
use native.Mathlib.Omega.{arith}
use lib.Dec.{leb, ltb}
use lib.ListN.{length}
use borrow.Author.Tests.{lt-ltb, le-ltb, le-leb, lt-leb}
use Rattle.std.specs.List.{filter, range_with_len}
use Rattle.lists.specs.Lists.{sum}
use Rattle.lists.proofs.Orders.{le-or-lt}
use Rattle.tables.specs.Span.{text_at}
use Rattle.tables.specs.Rows.{row_at, has}
use Rattle.tables.specs.Model.{Store}
use Rattle.lookup.specs.Lookup.{Entry, is_flagged, entries_of}
use Rattle.lookup.specs.Space.{directory_length, space, link_count, lacks_space}
use Rattle.lookup.specs.private.Rows.{entry_at, entries_from, row_space}
use Rattle.lookup.proofs.Rows.{flagged-at, text_at_lem, branch_at, length_at, entries-all}

-- ---- the count

-- the flagged links of the files, as an iterator's `filter` leaves them
module _ (s : Store) where
  abbrev pub flagged_row : ℕ → Bool
  flagged_row i = is_flagged (row_at s.rows i).flags

  filtered-from : (n i : ℕ) → length (filter flagged_row (range_with_len i n)) ≡ link_count (entries_from s n i)
  unfolding entries_from
  filtered-from zero i = refl
  filtered-from (suc n) i = one (flagged_row i) ∙ rw (filtered-from n (i + 1), flagged-at s i)
    where
      one : (b : Bool) → length (cond b (i ∷ filter flagged_row (range_with_len (i + 1) n)) (filter flagged_row (range_with_len (i + 1) n))) ≡ cond b 1 0 + length (filter flagged_row (range_with_len (i + 1) n))
      one true = omega arith
      one false = omega arith

  pub count-filtered : length (filter flagged_row (range_with_len 0 s.fs.num_files)) ≡ link_count (entries_of s)
  count-filtered = filtered-from s.fs.num_files 0 ∙ ap link_count (entries-all s)

-- links are counted by the rows alone
pub count-rows : (s s' : Store) → s.rows ≡ s'.rows → s.fs ≡ s'.fs → link_count (entries_of s) ≡ link_count (entries_of s')
unfolding entries_from
count-rows s s' e q =
    ap link_count (sym (entries-all s)) ∙ from s.fs.num_files 0 ∙ (rw q (ap link_count (entries-all s')))
  where
    flags : (i : ℕ) → (entry_at s i).flagged ≡ (entry_at s' i).flagged
    flags i = sym (flagged-at s i) ∙ ap (λ (rows : List ℕ). is_flagged (row_at rows i).flags) e ∙ flagged-at s' i

    from : (n i : ℕ) → link_count (entries_from s n i) ≡ link_count (entries_from s' n i)
    from zero i = refl
    from (suc n) i = ap (λ (b : Bool). cond b 1 0 + link_count (entries_from s n (i + 1))) (flags i) ∙ ap (λ (k : ℕ). cond (entry_at s' i).flagged 1 0 + k) (from n (i + 1))

-- ---- the space

-- what file i needs
abbrev pub need_at : Store → ℕ → ℕ
need_at s i = cond (entry_at s i).flagged (directory_length (entry_at s i).directory + length (entry_at s i).text + 2) 0

-- the same, by its row
pub need-row : (s : Store) (i : ℕ) → cond (is_flagged (row_at s.rows i).flags) (length (branch_at s i) + length (cond (has (row_at s.rows i).flags 16) (text_at s.text (row_at s.rows i).link) []) + 2) 0 ≡ need_at s i
need-row s i =
    ap (λ (b : Bool). cond b (length (branch_at s i) + length (cond (has (row_at s.rows i).flags 16) (text_at s.text (row_at s.rows i).link) []) + 2) 0) (flagged-at s i)
    ∙ ap (λ (n : ℕ). cond (entry_at s i).flagged (n + length (cond (has (row_at s.rows i).flags 16) (text_at s.text (row_at s.rows i).link) []) + 2) 0) (length_at s i)
    ∙ ap (λ (t : List ℕ). cond (entry_at s i).flagged (directory_length (entry_at s i).directory + length t + 2) 0) (text_at_lem s i)

-- the sum of what the files need
module _ (s : Store) where
  need-from : (n i : ℕ) → sum (map (row_space s.rows s.dirs s.text) (range_with_len i n)) ≡ space (entries_from s n i)
  unfolding entries_from
  need-from zero i = refl
  need-from (suc n) i = omega (arith, need-row s i, need-from n (i + 1))

  abbrev pub needed : ℕ
  needed = sum (map (row_space s.rows s.dirs s.text) (range_with_len 0 s.fs.num_files))

  needs-summed : needed ≡ space (entries_of s)
  needs-summed = need-from s.fs.num_files 0 ∙ ap space (entries-all s)

  -- the answer is no where a room of u bytes gives them all
  pub none-left : (u : ℕ) (r : Bool) → not r ≡ leb needed u → r ≡ ltb u (space (entries_of s))
  none-left u r e = at r (le-or-lt needed u) e ∙ ap (ltb u) needs-summed
    where
      at : (r : Bool) → (needed ≤ u) ⊎ (u < needed) → not r ≡ leb needed u → r ≡ ltb u needed
      at true (inl h) q = absurd (true≢false (sym (q ∙ le-leb needed u h)))
      at true (inr h) q = sym (lt-ltb u needed h)
      at false (inl h) q = sym (le-ltb u needed h)
      at false (inr h) q = absurd (true≢false (q ∙ lt-leb needed u h))

-- ---- the test

module _ (files : List Entry) (marks scratch path : ℕ) where
  pub lacks-marks : marks < link_count files → true ≡ lacks_space files marks scratch path
  lacks-marks h = rw (lt-ltb marks (link_count files) h)

  pub lacks-room : link_count files ≤ marks → (r : ℕ) → r ≡ min scratch (path / 2) → ltb r (space files) ≡ lacks_space files marks scratch path
  lacks-room h r e = rw (le-ltb marks (link_count files) h) (at (le-or-lt (space files) scratch) (le-or-lt (2 * space files) path))
    where
      at : (space files ≤ scratch) ⊎ (scratch < space files) → (2 * space files ≤ path) ⊎ (path < 2 * space files)
          → ltb r (space files) ≡ (ltb scratch (space files) || ltb path (2 * space files))
      at (inl a) (inl b) = rw (le-ltb scratch (space files) a, le-ltb path (2 * space files) b) (le-ltb r (space files) (omega arith))
      at (inl a) (inr b) = rw (le-ltb scratch (space files) a, lt-ltb path (2 * space files) b) (lt-ltb r (space files) (omega arith))
      at (inr a) b = rw (lt-ltb scratch (space files) a) (lt-ltb r (space files) (omega arith))
