-- The first file that has a root.
--     root_first      the search over the files' numbers gives it
--     root_low        an i32 holds its number, since a set has at most 65535 files
use Rattle.std.proofs.Common.{◌≡◌, ℕ, zero, suc, ◌+◌, ◌%◌, ◌^◌, ◌≤◌, Bool, true, false, cond, List, Option, Some, None, option_map, eqb, ℤ, pos, negsuc, refl, ap, ◌∙◌, arith}
use Rattle.std.specs.List.{find, range_with_len}
use Rattle.std.specs.Cmp.Lexicographic.{pointwise}
use Rattle.lists.specs.Lists.{equal}
use Rattle.lists.proofs.Equality.{pointwise-equal}
use Rattle.answers.specs.Answers.{root_of}
use Rattle.rules.proofs.Deciding.{low-i32}
use Rattle.files.specs.Files.{low31, root_from}

-- a number that was found, −1 for none
abbrev index_of : Option ℕ → ℤ
index_of None = negsuc 0
index_of (Some k) = pos k

module _ (rows roots root : List ℕ) where
  abbrev pub has_root : ℕ → Bool
  has_root k = pointwise eqb (root_of rows roots k) root

  root_listed : (n k : ℕ) → index_of (find has_root (range_with_len k n)) ≡ root_from n k rows roots root
  unfolding root_from
  root_listed zero k = refl
  root_listed (suc n) k = rw (← pointwise-equal (root_of rows roots k) root) (by (has_root k) (root_listed n (k + 1)))
    where
      by : (b : Bool) → index_of (find has_root (range_with_len (k + 1) n)) ≡ root_from n (k + 1) rows roots root
          → index_of (cond b (Some k) (find has_root (range_with_len (k + 1) n))) ≡ cond b (pos k) (root_from n (k + 1) rows roots root)
      by true e = refl
      by false e = e

  pub root_first : (n : ℕ) (r : Option ℕ) {z : ℤ} → option_map (λ (k : ℕ). k) r ≡ find has_root (range_with_len 0 n)
      → (r ≡ None → z ≡ negsuc 0) → ((k : ℕ) → r ≡ Some k → z ≡ pos (k % 2 ^ 31)) → z ≡ low31 (root_from n 0 rows roots root)
  root_first n None e f g = f refl ∙ ap (λ (o : Option ℕ). low31 (index_of o)) e ∙ ap low31 (root_listed n 0)
  root_first n (Some k) e f g = g k refl ∙ ap (λ (o : Option ℕ). low31 (index_of o)) e ∙ ap low31 (root_listed n 0)

module _ (rows roots root : List ℕ) where
  low-from : (n k : ℕ) → k + n ≤ 65535 → low31 (root_from n k rows roots root) ≡ root_from n k rows roots root
  unfolding root_from
  low-from zero k h = refl
  low-from (suc n) k h = by (equal (root_of rows roots k) root) (low-from n (k + 1) (omega arith))
    where
      by : (b : Bool) → low31 (root_from n (k + 1) rows roots root) ≡ root_from n (k + 1) rows roots root → low31 (cond b (pos k) (root_from n (k + 1) rows roots root)) ≡ cond b (pos k) (root_from n (k + 1) rows roots root)
      by true e = low-i32 k (omega arith)
      by false e = e

pub root_low : (n : ℕ) (rows roots root : List ℕ) → n ≤ 65535 → low31 (root_from n 0 rows roots root) ≡ root_from n 0 rows roots root
root_low n rows roots root h = low-from rows roots root n 0 (omega arith)
