-- The flagged links of a set, each with its mark, as `links` gives them: what is taken off a number for each is what the verdicts of
-- all files take off. These laws rely on the definitions of specs/private/Writing.antt.
use Prim.Native.Nat.{ℕ, zero, suc, ◌+◌, ◌-◌, ◌≤◌, ◌<◌}
use mathlib.Core.Path.{◌≡◌, refl, sym, ap, ◌∙◌}
use mathlib.Core.Bool.{Bool, true, false, cond, not}
use mathlib.Core.List.{List, [], ◌∷◌, map}
use native.Mathlib.Omega.{arith}
use lib.Dec.{leb, ltb}
use lib.ListN.{get_or}
use borrow.Author.Tests.{lt-ltb, le-ltb, le-leb, lt-leb}
use Rattle.std.specs.List.{fold}
use mathlib.Core.Logic.{◌⊎◌, inl, inr}
use Rattle.lists.specs.Lists.{sum}
use Rattle.lists.proofs.Orders.{le-or-lt}
use Rattle.tables.specs.declared.rows.Row.{Row}
use Rattle.tables.specs.Rows.{row_at}
use Rattle.lookup.specs.Lookup.{is_flagged}
use Rattle.links.specs.declared.mark.LinkVerdict.{LinkVerdict}
use Rattle.links.specs.declared.mark.LinkVerdict.TheVariants.{Keep}
use Rattle.links.specs.Flagged.{links_from}
use Rattle.links.specs.Judging.{verdict_read}
use Rattle.cleaning.specs.private.Writing.{flags_in, verdicts_by, left_by, sum_by}

-- what f gives of some items, together
abbrev pub total : {X : Type 0} → (X → ℕ) → List X → ℕ
total f [] = 0
total f (x ∷ xs) = f x + total f xs

total-map : {X : Type 0} (f : X → ℕ) (xs : List X) → sum (map f xs) ≡ total f xs
total-map f [] = refl
total-map f (x ∷ xs) = ap (λ (n : ℕ). f x + n) (total-map f xs)

-- ---- what is taken off a number, item by item

-- as much as there is
taken : {X : Type 0} (f : X → ℕ) (xs : List X) (u : ℕ) → fold (λ left x. left - f x) u xs ≡ u - total f xs
taken f [] u = omega arith
taken f (x ∷ xs) u = taken f xs (u - f x) ∙ omega arith

taken-by : (h : LinkVerdict → ℕ → ℕ) (vs : List LinkVerdict) (i u : ℕ) → left_by h vs i u ≡ u - sum_by h vs i
taken-by h [] i u = omega arith
taken-by h (v ∷ vs) i u = taken-by h vs (i + 1) (u - h v i) ∙ omega arith

-- ---- the flagged links

module _ (h : LinkVerdict → Row → ℕ) (kept : (r : Row) → h Keep r ≡ 0) (rows marks : List ℕ) where
  abbrev pub by_link : ℕ × ℕ → ℕ
  by_link p = h (verdict_read (get_or marks p.0 0)) (row_at rows p.1)

  abbrev by_file : LinkVerdict → ℕ → ℕ
  by_file v i = h v (row_at rows i)

  links-total : (n i k : ℕ) → total by_link (links_from rows n i k) ≡ sum_by by_file (verdicts_by (flags_in rows) marks n i k) i
  unfolding verdicts_by
  links-total zero i k = refl
  links-total (suc n) i k = one (is_flagged (flags_in rows i)) (links-total n (i + 1))
    where
      one : (b : Bool) → ((j : ℕ) → total by_link (links_from rows n (i + 1) j) ≡ sum_by by_file (verdicts_by (flags_in rows) marks n (i + 1) j) (i + 1))
          → total by_link (cond b ((k, i) ∷ links_from rows n (i + 1) (k + 1)) (links_from rows n (i + 1) k))
          ≡ h (cond b (verdict_read (get_or marks k 0)) Keep) (row_at rows i) + sum_by by_file (verdicts_by (flags_in rows) marks n (i + 1) (cond b (k + 1) k)) (i + 1)
      one true others = ap (λ (x : ℕ). by_link (k, i) + x) (others (k + 1))
      one false others = rw (others k, kept (row_at rows i)) (omega arith)

  -- what they leave, and whether they have more than there is room for
  pub links-left : (n u : ℕ) → fold (λ left p. left - by_link p) u (links_from rows n 0 0) ≡ left_by by_file (verdicts_by (flags_in rows) marks n 0 0) 0 u
  links-left n u = taken by_link (links_from rows n 0 0) u ∙ ap (λ (x : ℕ). u - x) (links-total n 0 0) ∙ sym (taken-by by_file (verdicts_by (flags_in rows) marks n 0 0) 0 u)

  pub links-more : (n room : ℕ) (b : Bool) → leb (sum (map by_link (links_from rows n 0 0))) room ≡ not b → b ≡ ltb room (sum_by by_file (verdicts_by (flags_in rows) marks n 0 0) 0)
  links-more n room b e = same b _ (sym e ∙ rw (total-map by_link (links_from rows n 0 0), links-total n 0 0) (fits (le-or-lt (sum_by by_file (verdicts_by (flags_in rows) marks n 0 0) 0) room)))
    where
      fits : {k : ℕ} → (k ≤ room) ⊎ (room < k) → leb k room ≡ not (ltb room k)
      fits {k} (inl h) = rw (le-leb k room h, le-ltb room k h)
      fits {k} (inr h) = rw (lt-leb k room h, lt-ltb room k h)

      same : (a b : Bool) → not a ≡ not b → a ≡ b
      same true true e = refl
      same false false e = refl
      same true false e = cc
      same false true e = cc
