-- The flagged links of a set one after another, each with the number of its mark: what a call for the next one says,
-- and the links that are left. It relies on the flags of a link in `lookup`.
use Rattle.std.specs.Prelude.{ℕ, zero, suc, ◌+◌, ◌-◌, ◌<◌, ◌≤◌, ◌≡◌, true, false, cond, List, [], ◌∷◌, Option}
use Rattle.std.specs.Prelude.{MatchOption}
use Rattle.tables.specs.Rows.{row_at}
use Rattle.lookup.specs.Lookup.{is_flagged}
use Rattle.links.specs.declared.flagged.Links.{Links}

-- none of the files from the i-th to the j-th is one
abbrev pub NoneBetween : List ℕ → ℕ → ℕ → Type 0
NoneBetween rows i j = (n : ℕ) → i ≤ n → n < j → is_flagged (row_at rows n).flags ≡ false

-- the next one, x, by the numbers of its mark and its file, where t gives those behind it
pub record Passed (s : Links) (x : ℕ × ℕ) (t : Links) : Type 0 where
  pub mark : x.0 ≡ s.k
  pub from : s.i ≤ x.1
  pub file : x.1 < s.num_files
  pub between : NoneBetween s.rows.now s.i x.1
  pub flag : is_flagged (row_at s.rows.now x.1).flags ≡ true
  pub next : (t.i ≡ x.1 + 1) × (t.k ≡ s.k + 1)
  pub same : (t.rows.now ≡ s.rows.now) × (t.num_files ≡ s.num_files)

-- a call for the next one: it comes, or there is none
abbrev pub Passes : Links → Option (ℕ × ℕ) → Links → Type 0
Passes s r t = MatchOption r (NoneBetween s.rows.now s.i s.num_files) (λ x. Passed s x t)

-- those of the n files from file i on, of which the first link has mark k: the number of its mark, and that of its file
abbrev pub links_from : List ℕ → ℕ → ℕ → ℕ → List (ℕ × ℕ)
links_from rows zero i k = []
links_from rows (suc n) i k =
    cond (is_flagged (row_at rows i).flags) ((k, i) ∷ links_from rows n (i + 1) (k + 1)) (links_from rows n (i + 1) k)

-- those that are left
abbrev pub links_left : Links → List (ℕ × ℕ)
links_left it = links_from it.rows.now (it.num_files - it.i) it.i it.k
