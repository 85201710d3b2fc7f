-- Laws of the flagged links one after another. What holds of the files from a place on, and does not ask for files that are
-- no flagged links, holds of those from the next flagged link on; and the links are the list of all flagged ones. They rely
-- on the laws of `lookup` about rows.
use Prim.Native.Nat.{ℕ, zero, suc, ◌+◌, ◌-◌, ◌<◌, ◌≤◌}
use mathlib.Core.Path.{◌≡◌, refl, sym, ap, subst, ◌∙◌}
use mathlib.Core.Bool.{true, false}
use mathlib.Core.List.{List, [], ◌∷◌}
use mathlib.Core.Logic.{⊎_elim}
use native.Mathlib.Omega.{arith}
use lib.ListN.{length}
use denote.Ref.{Bor}
use Rattle.std.specs.Prelude.{Some, None}
use Rattle.std.proofs.lemmas.Iterator.{YieldsList}
use Rattle.std.proofs.lemmas.Iterator.Consumers.{YieldsList-from_shown}
use Rattle.lists.proofs.Orders.{le-or-lt}
use Rattle.tables.specs.Rows.{row_at}
use Rattle.tables.specs.Model.{Store}
use Rattle.lookup.specs.Lookup.{Entry, is_flagged, entries_of}
use Rattle.lookup.specs.private.Rows.{entry_at, entries_from}
use Rattle.lookup.proofs.Rows.{flagged-at, entries-cons, entries_none, entries-start}
use Rattle.links.specs.declared.flagged.Links.{Links}
use Rattle.links.specs.Flagged.{NoneBetween, Passed, Passes, links_from, links_left}

-- from place i to place j, past files that are no flagged links
module _ (rows : List ℕ) (n : ℕ) (P : ℕ → Type 0) (step : (i : ℕ) → i < n → is_flagged (row_at rows i).flags ≡ false → P i → P (i + 1)) where
  skipped : (m i : ℕ) → i + m ≤ n → NoneBetween rows i (i + m) → P i → P (i + m)
  skipped zero i h e p = let z : i + 0 ≡ i = omega arith in subst P (sym z) p
  skipped (suc m) i h e p =
      let z : i + 1 + m ≡ i + suc m = omega arith in
      subst P z (skipped m (i + 1) (omega arith) (λ k l g. e k (omega arith) (omega arith)) (step i (omega arith) (e i (omega arith) (omega arith)) p))

  skip : (i j : ℕ) → i ≤ j → j ≤ n → NoneBetween rows i j → P i → P j
  skip i j h l e p =
      let z : i + (j - i) ≡ j = omega arith in
      subst P z (skipped (j - i) i (omega arith) (subst (NoneBetween rows i) (sym z) e) p)

-- ---- in a loop

-- the links that are still to come are those of the files of s from one on, and P holds of these files and the number of
-- the next mark
pub record Left (s : Store) (it : Links) (P : List Entry → ℕ → Type 0) : Type 0 where
  pub rows : it.rows.now ≡ s.rows
  pub files : it.num_files ≡ s.fs.num_files
  pub here : P (entries_from s (s.fs.num_files - it.i) it.i) it.k

-- before the first of all
pub left_all : {s : Store} {it : Links} {P : List Entry → ℕ → Type 0} (rows : Bor (List ℕ)) → it ≡ record { rows = rows; num_files = s.fs.num_files; i = 0; k = 0 } → rows.now ≡ s.rows → P (entries_of s) 0 → Left s it P
left_all {s = s} {P = P} rows e r p = rw e (record { rows = r; files = refl; here = subst (λ fs. P fs 0) (sym (entries-start s s.fs.num_files refl)) p })

module _ {s : Store} {it : Links} {P : List Entry → ℕ → Type 0} (past : (f : Entry) (fs : List Entry) → f.flagged ≡ false → P (f ∷ fs) it.k → P fs it.k) (l : Left s it P) where
  skip-files : (j : ℕ) → it.i ≤ j → j ≤ s.fs.num_files → NoneBetween s.rows it.i j → P (entries_from s (s.fs.num_files - j) j) it.k
  skip-files j h g e =
      skip s.rows s.fs.num_files (λ i. P (entries_from s (s.fs.num_files - i) i) it.k)
      (λ i h e p. past (entry_at s i) (entries_from s (s.fs.num_files - (i + 1)) (i + 1)) (sym (flagged-at s i) ∙ e) (subst (λ fs. P fs it.k) (entries-cons s s.fs.num_files i h) p)) it.i j h g e l.here

  -- the next link, x
  module _ {u : Links} {x : ℕ × ℕ} (t : Passed it x u) where
    pub in_files : x.1 < s.fs.num_files
    in_files = omega (arith, t.file, l.files)

    pub at_link : ((entry_at s x.1).flagged ≡ true) × P (entry_at s x.1 ∷ entries_from s (s.fs.num_files - (x.1 + 1)) (x.1 + 1)) x.0
    at_link =
        let b : NoneBetween s.rows it.i x.1 = subst (λ r. NoneBetween r it.i x.1) l.rows t.between in (
          sym (flagged-at s x.1) ∙ subst (λ r. is_flagged (row_at r x.1).flags ≡ true) l.rows t.flag,
          subst (P (entry_at s x.1 ∷ entries_from s (s.fs.num_files - (x.1 + 1)) (x.1 + 1))) (sym t.mark)
              (subst (λ fs. P fs it.k) (entries-cons s s.fs.num_files x.1 in_files) (skip-files x.1 t.from (omega (arith, in_files)) b)),
        )

    -- and past it, where Q follows of the files behind it
    pub past_link : {Q : List Entry → ℕ → Type 0}
        → ((fs : List Entry) → fs ≡ entries_from s (s.fs.num_files - (x.1 + 1)) (x.1 + 1) → (entry_at s x.1).flagged ≡ true → P (entry_at s x.1 ∷ fs) x.0 → Q fs (x.0 + 1)) → Left s u Q
    past_link turn =
        record {
          rows = t.same.0 ∙ l.rows;
          files = t.same.1 ∙ l.files;
          here = rw (t.next.0, t.next.1, ← t.mark) (turn (entries_from s (s.fs.num_files - (x.1 + 1)) (x.1 + 1)) refl at_link.0 at_link.1);
        }

  -- where no link is left
  pub at_end : NoneBetween it.rows.now it.i it.num_files → P [] it.k
  at_end e =
      let n = s.fs.num_files in
      let b : NoneBetween s.rows it.i n = rw (← l.rows, ← l.files) e in
      ⊎_elim (λ (h : it.i ≤ n). subst (λ fs. P fs it.k) (entries_none s n n (omega arith)) (skip-files n h (omega arith) b))
      (λ (h : n < it.i). subst (λ fs. P fs it.k) (entries_none s n it.i (omega arith)) l.here)
      (le-or-lt it.i n)

-- ---- as a list

module _ (rows : List ℕ) (n i k : ℕ) where
  list-none : n ≤ i → links_from rows (n - i) i k ≡ []
  list-none h = let q : n - i ≡ 0 = omega arith in rw q

  list-cons : i < n → is_flagged (row_at rows i).flags ≡ true → links_from rows (n - i) i k ≡ (k, i) ∷ links_from rows (n - (i + 1)) (i + 1) (k + 1)
  list-cons h e = let q : n - i ≡ suc (n - (i + 1)) = omega arith in rw (q, e)

  list-past : i < n → is_flagged (row_at rows i).flags ≡ false → links_from rows (n - i) i k ≡ links_from rows (n - (i + 1)) (i + 1) k
  list-past h e = let q : n - i ≡ suc (n - (i + 1)) = omega arith in rw (q, e)

list-skip : (rows : List ℕ) (n i j k : ℕ) → i ≤ j → j ≤ n → NoneBetween rows i j → links_from rows (n - i) i k ≡ links_from rows (n - j) j k
list-skip rows n i j k h l e = skip rows n (λ j. links_from rows (n - i) i k ≡ links_from rows (n - j) j k) (λ j h e p. p ∙ list-past rows n j k h e) i j h l e refl

-- what the iterator gives
given-none : (it u : Links) → Passes it None u → length (links_left it) ≡ 0
given-none it u e =
    ap length (⊎_elim (λ (h : it.i ≤ it.num_files). list-skip it.rows.now it.num_files it.i it.num_files it.k h (omega arith) e ∙ list-none it.rows.now it.num_files it.num_files it.k (omega arith))
    (λ (h : it.num_files < it.i). list-none it.rows.now it.num_files it.i it.k (omega arith))
    (le-or-lt it.i it.num_files))

given-some : (it : Links) (x : ℕ × ℕ) (u : Links) → Passes it (Some x) u → links_left it ≡ x ∷ links_left u
given-some it x u t =
    list-skip it.rows.now it.num_files it.i x.1 it.k t.from (omega (arith, t.file)) t.between
    ∙ list-cons it.rows.now it.num_files x.1 it.k t.file t.flag
    ∙ rw (t.same.0, t.same.1, t.next.0, t.next.1, t.mark)

pub links_given : (it : Links) (l : List (ℕ × ℕ)) → links_left it ≡ l → YieldsList Passes (λ x. x) it l
links_given it l e = subst (YieldsList Passes (λ x. x) it) e (YieldsList-from_shown Passes (λ x. x) links_left given-none given-some it)
