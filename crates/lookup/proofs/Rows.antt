-- Laws of the set that the lent tables hold: what a row says of its file, and the files and directories from a place on, which a
-- scan has still before it. They rely on the laws of tables by their places (`tables`) and of names at a path's end.
use Prim.Native.Nat.{ℕ, zero, suc, ◌+◌, ◌-◌, ◌%◌, ◌/◌, ◌<◌, ◌≤◌}
use mathlib.Core.Path.{◌≡◌, refl, sym, ap, ◌∙◌}
use mathlib.Core.Bool.{Bool, true, false, cond, not, ◌&&◌}
use mathlib.Core.List.{List, [], ◌∷◌}
use native.Mathlib.Omega.{arith}
use native.Mathlib.Nat.{sub-zero}
use lib.Dec.{eqb}
use lib.ListN.{length}
use Rattle.std.specs.List.{list_any, range_with_len}
use Rattle.lists.specs.Lists.{equal, any}
use Rattle.lists.proofs.Tests.{list-any}
use Rattle.path.specs.Join.{appended}
use Rattle.tables.specs.declared.span.Span.{Span}
use Rattle.tables.specs.declared.rows.Row.{Row}
use Rattle.tables.specs.Span.{text_at}
use Rattle.tables.specs.Rows.{row_at, dir_at, no_path, is_absolute, directory_span, has}
use Rattle.tables.specs.Model.{present_if, single, absolute, stored, path_in, Store, directory_text, directory_in, internal_path, tabled}
use Rattle.tables.proofs.Paths.{path-parts}
use Rattle.tables.proofs.Tabled.{tabled-same}
use Rattle.lookup.specs.Lookup.{Entry, own_path, is_held, held_text, covers, ends_with, is_directory, is_flagged, entries_of, directories_of}
use Rattle.lookup.specs.Space.{directory_length}
use Rattle.lookup.specs.private.Rows.{entry_at, entries_from, directories_from}
use Rattle.lookup.proofs.Paths.{ends-joined}

-- ---- a row

-- a bit among the lowest four
low_bit : (flags : ℕ) → has (flags % 16) 8 ≡ has flags 8
low_bit flags = let e : flags % 16 / 8 % 2 ≡ flags / 8 % 2 = omega arith in rw e

held-if : (b : Bool) (t : List ℕ) → is_held (present_if b t) ≡ b
held-if true t = refl
held-if false t = refl

text-if : (b : Bool) (t : List ℕ) → cond b t [] ≡ held_text (present_if b t)
text-if true t = refl
text-if false t = refl

module _ (s : Store) (i : ℕ) where
  -- whether file i is a flagged link
  pub flagged-at : is_flagged (row_at s.rows i).flags ≡ (entry_at s i).flagged
  flagged-at = rw (low_bit (row_at s.rows i).flags, held-if (has (row_at s.rows i).flags 16) (text_at s.text (row_at s.rows i).link))

  -- its link text
  pub text_at_lem : cond (has (row_at s.rows i).flags 16) (text_at s.text (row_at s.rows i).link) [] ≡ (entry_at s i).text
  text_at_lem = text-if (has (row_at s.rows i).flags 16) (text_at s.text (row_at s.rows i).link)

-- a path that does not end with a row's name is not the row's internal path, and the test for that says so
pub not_own : (dirs text p : List ℕ) (r : Row) (b : Bool) → b ≡ ends_with (text_at text r.name) p → b ≡ false → b ≡ equal (internal_path dirs text r) p
not_own dirs text p r b e h =
    h
    ∙ sym (ends-joined (text_at text r.name) p (sym e ∙ h) (text_at text (directory_span dirs r)))
    ∙ ap (λ (x : List ℕ). equal x p) (path-parts dirs text r (text_at text r.name))

-- a directory by its path index: of a single name, an absolute path, or a file in it
kinds-length : (a b outside : Bool) (text : List ℕ) (c : Span)
    → length (text_at text (cond (not a && not b) c (record { at = 0; len = 0 }))) ≡ directory_length (cond a single (cond b absolute (stored (text_at text c) outside)))
kinds-length true b outside text c = refl
kinds-length false true outside text c = refl
kinds-length false false outside text c = refl

module _ (dirs text : List ℕ) (r : Row) where
  -- the text of a row's directory, nothing where the file lies in none
  abbrev pub branch_in : List ℕ
  branch_in = text_at text (directory_span dirs r)

  pub length-in : length branch_in ≡ directory_length (directory_in dirs text r)
  length-in = kinds-length (eqb r.path_index no_path) (is_absolute r) (has r.flags 32) text (dir_at dirs r.path_index)

module _ (s : Store) (i : ℕ) where
  -- file i: the text of its directory, its internal path, a text from its directory, and how long that is
  abbrev pub branch_at : List ℕ
  branch_at = branch_in s.dirs s.text (row_at s.rows i)

  pub own_at : internal_path s.dirs s.text (row_at s.rows i) ≡ own_path (entry_at s i)
  own_at = refl

  pub beside_at : (t : List ℕ) → appended branch_at t ≡ path_in (entry_at s i).directory t
  beside_at t = path-parts s.dirs s.text (row_at s.rows i) t

  pub length_at : length branch_at ≡ directory_length (entry_at s i).directory
  length_at = length-in s.dirs s.text (row_at s.rows i)

-- ---- files and directories from a place on

from-tabled : {A : Type 0} (g : ℕ → A) (n i : ℕ) → tabled n (λ k. g (suc i + k)) ≡ tabled n (λ k. g (i + suc k))
from-tabled g n i = tabled-same n (λ k. g (suc i + k)) (λ k. g (i + suc k)) (λ k h. let e : suc i + k ≡ i + suc k = omega arith in ap g e)

module _ (s : Store) where
  entries-tabled : (n i : ℕ) → entries_from s n i ≡ tabled n (λ k. entry_at s (i + k))
  unfolding entries_from tabled
  entries-tabled zero i = refl
  entries-tabled (suc n) i =
      let e : i + 0 ≡ i = omega arith in
      let q : i + 1 ≡ suc i = omega arith in
      rw (e, q) (ap (λ (l : List Entry). entry_at s i ∷ l) (entries-tabled n (suc i) ∙ from-tabled (entry_at s) n i))

  directories-tabled : (n i : ℕ) → directories_from s n i ≡ tabled n (λ k. directory_text s (i + k))
  unfolding directories_from tabled
  directories-tabled zero i = refl
  directories-tabled (suc n) i =
      let e : i + 0 ≡ i = omega arith in
      let q : i + 1 ≡ suc i = omega arith in
      rw (e, q) (ap (λ (l : List (List ℕ)). directory_text s i ∷ l) (directories-tabled n (suc i) ∙ from-tabled (directory_text s) n i))

  -- all of them
  pub entries-all : entries_from s s.fs.num_files 0 ≡ entries_of s
  entries-all = entries-tabled s.fs.num_files 0 ∙ tabled-same s.fs.num_files (λ k. entry_at s (0 + k)) (entry_at s) (λ k h. let e : 0 + k ≡ k = omega arith in ap (entry_at s) e)

  pub directories-all : directories_from s s.fs.num_paths 0 ≡ directories_of s
  directories-all = directories-tabled s.fs.num_paths 0 ∙ tabled-same s.fs.num_paths (λ k. directory_text s (0 + k)) (directory_text s) (λ k h. let e : 0 + k ≡ k = omega arith in ap (directory_text s) e)

  -- the next of them, and none
  pub entries-cons : (n i : ℕ) → i < n → entries_from s (n - i) i ≡ entry_at s i ∷ entries_from s (n - (i + 1)) (i + 1)
  unfolding entries_from
  entries-cons n i h = let q : n - i ≡ suc (n - (i + 1)) = omega arith in rw q

  pub entries_none : (n i : ℕ) → n ≤ i → entries_from s (n - i) i ≡ []
  unfolding entries_from
  entries_none n i h = let q : n - i ≡ 0 = omega arith in rw q

  pub directories-cons : (n i : ℕ) → i < n → directories_from s (n - i) i ≡ directory_text s i ∷ directories_from s (n - (i + 1)) (i + 1)
  unfolding directories_from
  directories-cons n i h = let q : n - i ≡ suc (n - (i + 1)) = omega arith in rw q

  pub directories-none : (n i : ℕ) → n ≤ i → directories_from s (n - i) i ≡ []
  unfolding directories_from
  directories-none n i h = let q : n - i ≡ 0 = omega arith in rw q

  -- a scan of all begins
  pub entries-start : (n : ℕ) → n ≡ s.fs.num_files → entries_from s (n - 0) 0 ≡ entries_of s
  entries-start n e = rw (e, sub-zero) entries-all

  pub directories-start : (n : ℕ) → n ≡ s.fs.num_paths → directories_from s (n - 0) 0 ≡ directories_of s
  directories-start n e = rw (e, sub-zero) directories-all

-- ---- scans for a path

module _ (s : Store) (p : List ℕ) (n i : ℕ) where
  -- the directories: one that does not cover p, one that does, and no more of them
  pub directories-turn : i < n → covers (directory_text s i) p ≡ false → is_directory (directories_from s (n - (i + 1)) (i + 1)) p ≡ is_directory (directories_from s (n - i) i) p
  directories-turn h e = rw (directories-cons s n i h, e)

  pub directories-hit : i < n → covers (directory_text s i) p ≡ true → is_directory (directories_from s (n - i) i) p ≡ true
  directories-hit h e = rw (directories-cons s n i h, e)

  pub directories-end : n ≤ i → is_directory (directories_from s (n - i) i) p ≡ false
  directories-end h = rw (directories-none s n i h)

module _ (s : Store) (p : List ℕ) where
  -- whether one of the directories covers p, as an iterator's `any` asks it
  any-from : (n i : ℕ) → any (λ k. covers (directory_text s k) p) (range_with_len i n) ≡ is_directory (directories_from s n i) p
  unfolding directories_from
  any-from zero i = refl
  any-from (suc n) i = rw (any-from n (i + 1))

  pub any-directory : list_any (λ k. covers (directory_text s k) p) (range_with_len 0 s.fs.num_paths) ≡ is_directory (directories_of s) p
  any-directory =
      list-any (λ k. covers (directory_text s k) p) (range_with_len 0 s.fs.num_paths)
      ∙ any-from s.fs.num_paths 0
      ∙ ap (λ (l : List (List ℕ)). is_directory l p) (directories-all s)
