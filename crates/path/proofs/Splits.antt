-- Laws of the splits. The last separator parts a path in `before_last` and `after_last`, the first one in `before_first` and
-- `after_first`; a path without a separator is all leaf, and all first. They rely on the kit's laws of `eqb`.
use Prim.Native.Nat.{ℕ, suc, ◌+◌, ◌-◌, ◌≤◌, ◌<◌, min}
use mathlib.Core.Path.{◌≡◌, refl, sym, ap, ◌∙◌}
use mathlib.Core.Bool.{Bool, true, false, cond, true≢false, false≢true}
use mathlib.Core.List.{List, [], ◌∷◌, ◌++◌}
use native.Mathlib.Omega.{arith}
use lib.ListN.{length, get_or, take, drop, length-drop, drop_of_length-le}
use lib.Seq.{split_at, take_all, take-add, drop-drop}
use Rattle.std.specs.Prelude.{Option, Some, None}
use Rattle.std.specs.List.{position_or_len}
use Rattle.std.specs.Option.{unwrap_or}
use borrow.Author.Tests.{eqb-true, ne_eqb, leb-true, leb-false, ltb-true}
use lib.Dec.{leb, ltb}
use Rattle.lists.specs.Lists.{any}
use Rattle.lists.proofs.Searches.{found}
use Rattle.lists.proofs.Tests.{any-turn}
use Rattle.path.specs.Split.{is_separator, before_last, after_last, before_first, after_first}

-- a test that a list fails is failed by its first element, and by the rest
none_first : (s b : Bool) → cond s true b ≡ false → s ≡ false
none_first true b e = e
none_first false b e = refl

none_rest : (s b : Bool) → cond s true b ≡ false → b ≡ false
none_rest true b e = absurd (true≢false e)
none_rest false b e = e

-- a list that has a separator at a place has one
any_at_lem : (a b : List ℕ) → any is_separator (a ++ (47 ∷ b)) ≡ true
any_at_lem [] b = refl
any_at_lem (x ∷ a) b = yes (is_separator x) (any_at_lem a b)
  where
    yes : (s : Bool) {r : Bool} → r ≡ true → cond s true r ≡ true
    yes true e = refl
    yes false e = e

-- the last separator
last_step : (s b : Bool) (c : ℕ) (t u v : List ℕ) → (s ≡ true → c ≡ 47) → (b ≡ true → t ≡ u ++ (47 ∷ v)) → cond s true b ≡ true
    → c ∷ t ≡ cond b (c ∷ u) [] ++ (47 ∷ cond b v (cond s t (c ∷ t)))
last_step s true c t u v h k e = ap (λ (l : List ℕ). c ∷ l) (k refl)
last_step true false c t u v h k e = rw (h refl)
last_step false false c t u v h k e = absurd (false≢true e)

pub last-parts : (p : List ℕ) → any is_separator p ≡ true → p ≡ before_last p ++ (47 ∷ after_last p)
last-parts [] e = absurd (false≢true e)
last-parts (c ∷ t) e =
    last_step (is_separator c) (any is_separator t) c t (before_last t) (after_last t) (eqb-true c 47) (last-parts t) e

leaf-step : (s b : Bool) (c : ℕ) (t v : List ℕ) → is_separator c ≡ s → any is_separator t ≡ b → any is_separator v ≡ false
    → any is_separator (cond b v (cond s t (c ∷ t))) ≡ false
leaf-step s true c t v h k e = e
leaf-step true false c t v h k e = k
leaf-step false false c t v h k e = rw (h, k)

pub leaf-clear : (p : List ℕ) → any is_separator (after_last p) ≡ false
leaf-clear [] = refl
leaf-clear (c ∷ t) = leaf-step (is_separator c) (any is_separator t) c t (after_last t) refl refl (leaf-clear t)

pub leaf-all : (p : List ℕ) → any is_separator p ≡ false → after_last p ≡ p
leaf-all [] e = refl
leaf-all (c ∷ t) e = rw (none_rest (is_separator c) (any is_separator t) e, none_first (is_separator c) (any is_separator t) e)

pub branch-none : (p : List ℕ) → any is_separator p ≡ false → before_last p ≡ []
branch-none [] e = refl
branch-none (c ∷ t) e = rw (none_rest (is_separator c) (any is_separator t) e)

-- and no other parting has a leaf without separators
pub branch-only : (a b : List ℕ) → any is_separator b ≡ false → before_last (a ++ (47 ∷ b)) ≡ a
branch-only [] b e = rw e
branch-only (x ∷ a) b e = rw (any_at_lem a b, branch-only a b e)

pub leaf-only : (a b : List ℕ) → any is_separator b ≡ false → after_last (a ++ (47 ∷ b)) ≡ b
leaf-only [] b e = rw e
leaf-only (x ∷ a) b e = rw (any_at_lem a b, leaf-only a b e)

-- where no separator stands from place i on: none from the place before on, if none stands there either
pub leaf_before : (p : List ℕ) (i j : ℕ) → i ≡ suc j → j < length p → (get_or p j 0 ≡ 47 → ⊥) → any is_separator (drop i p) ≡ false
    → any is_separator (drop j p) ≡ false
leaf_before p i j e h q n =
    let f : j + 1 ≡ i = omega arith in any-turn is_separator p j 0 h (ne_eqb (get_or p j 0) 47 q) ∙ rw f n

-- the last separator stands there, and so the leaf begins at i; or it stands one place before that
pub leaf_here : (p : List ℕ) (i : ℕ) → 0 < i → i ≤ length p → get_or p (i - 1) 0 ≡ 47 → any is_separator (drop i p) ≡ false
    → (take (i - 1) p ≡ before_last p) × (drop i p ≡ after_last p)
leaf_here p i z h q n =
    let k : suc (i - 1) ≡ i = omega arith in
    let s : p ≡ take (i - 1) p ++ (47 ∷ drop i p) = split_at p (i - 1) 0 (omega arith) ∙ rw (q, k) in
    (sym (ap before_last s ∙ branch-only (take (i - 1) p) (drop i p) n), sym (ap after_last s ∙ leaf-only (take (i - 1) p) (drop i p) n))

pub leaf_next : (p : List ℕ) (i : ℕ) → 1 < i → i ≤ length p → (get_or p (i - 1) 0 ≡ 47 → ⊥) → get_or p (i - 2) 0 ≡ 47
    → any is_separator (drop i p) ≡ false → (take (i - 1 - 1) p ≡ before_last p) × (drop (i - 1) p ≡ after_last p)
leaf_next p i z h o q n =
    let k : i - 1 - 1 ≡ i - 2 = omega arith in
    leaf_here p (i - 1) (omega arith) (omega arith) (rw k q) (leaf_before p i (i - 1) (omega arith) (omega arith) o n)

-- the first separator
first_step : (s b : Bool) (c : ℕ) (t u v : List ℕ) → (s ≡ true → c ≡ 47) → (b ≡ true → t ≡ u ++ (47 ∷ v)) → cond s true b ≡ true
    → c ∷ t ≡ cond s [] (c ∷ u) ++ (47 ∷ cond s t v)
first_step true b c t u v h k e = rw (h refl)
first_step false b c t u v h k e = ap (λ (l : List ℕ). c ∷ l) (k e)

pub first-parts : (p : List ℕ) → any is_separator p ≡ true → p ≡ before_first p ++ (47 ∷ after_first p)
first-parts [] e = absurd (false≢true e)
first-parts (c ∷ t) e =
    first_step (is_separator c) (any is_separator t) c t (before_first t) (after_first t) (eqb-true c 47) (first-parts t) e

clear_step : (s : Bool) (c : ℕ) (u : List ℕ) → is_separator c ≡ s → any is_separator u ≡ false → any is_separator (cond s [] (c ∷ u)) ≡ false
clear_step true c u h e = refl
clear_step false c u h e = rw (h, e)

pub first-clear : (p : List ℕ) → any is_separator (before_first p) ≡ false
first-clear [] = refl
first-clear (c ∷ t) = clear_step (is_separator c) c (before_first t) refl (first-clear t)

pub first-all : (p : List ℕ) → any is_separator p ≡ false → before_first p ≡ p
first-all [] e = refl
first-all (c ∷ t) e =
    rw (none_first (is_separator c) (any is_separator t) e, first-all t (none_rest (is_separator c) (any is_separator t) e))

pub rest-none : (p : List ℕ) → any is_separator p ≡ false → after_first p ≡ []
rest-none [] e = refl
rest-none (c ∷ t) e =
    rw (none_first (is_separator c) (any is_separator t) e, rest-none t (none_rest (is_separator c) (any is_separator t) e))

-- how far a search for the first separator goes
search-step : (b : Bool) (c : ℕ) (f : List ℕ) → length (cond b [] (c ∷ f)) ≡ cond b 0 (1 + length f)
search-step true c f = refl
search-step false c f = omega arith

pub separator_found : (t : List ℕ) (r : Option ℕ) → r ≡ cond (ltb (position_or_len is_separator t) (length t)) (Some (position_or_len is_separator t)) None
    → unwrap_or r (length t) ≡ length (before_first t)
separator_found t r e = (found (λ s. length (before_first s)) is_separator refl (λ c s. search-step (is_separator c) c (before_first s)) t r e).0

-- where a list is parted by its first separator
pub first-places : (t : List ℕ) → (take (length (before_first t)) t ≡ before_first t) × (drop (suc (length (before_first t))) t ≡ after_first t)
first-places [] = (refl, refl)
first-places (c ∷ t) = at (is_separator c) (first-places t)
  where
    at : (b : Bool) → (take (length (before_first t)) t ≡ before_first t) × (drop (suc (length (before_first t))) t ≡ after_first t)
        → (take (length (cond b [] (c ∷ before_first t))) (c ∷ t) ≡ cond b [] (c ∷ before_first t))
        × (drop (suc (length (cond b [] (c ∷ before_first t)))) (c ∷ t) ≡ cond b t (after_first t))
    at true h = (refl, refl)
    at false h = (ap (λ (l : List ℕ). c ∷ l) h.0, h.1)

-- a place past the end parts a list as its end does
end-places : (p : List ℕ) (i : ℕ) → (b : Bool) → leb i (length p) ≡ b → (take (min i (length p)) p ≡ take i p) × (drop (min i (length p)) p ≡ drop i p)
end-places p i true e =
    let h : min i (length p) ≡ i = omega (arith, leb-true i (length p) e) in
    (rw h, rw h)
end-places p i false e =
    let k : length p < i = omega (arith, leb-false i (length p) e) in
    let h : min i (length p) ≡ length p = omega arith in
    (rw (h, take_all (length p) p (omega arith), take_all i p (omega arith)), rw (h, drop_of_length-le p {i = length p} (omega arith), drop_of_length-le p {i = i} (omega arith)))

-- the first separator at or after a place, as a search finds it
pub first-found : (p : List ℕ) (i k : ℕ) → k ≡ length (before_first (drop (min i (length p)) p))
    → (take (min i (length p) + k) p ≡ take i p ++ before_first (drop i p)) × (drop (min i (length p) + k + 1) p ≡ after_first (drop i p))
first-found p i k e =
    let f = min i (length p) in
    let d = first-places (drop f p) in
    let q = end-places p i (leb i (length p)) refl in
    let t : take (f + k) p ≡ take f p ++ before_first (drop f p) = rw e (take-add f (length (before_first (drop f p))) p ∙ ap (λ (l : List ℕ). take f p ++ l) d.0) in
    let s : drop (f + k + 1) p ≡ after_first (drop f p) = ap (λ (j : ℕ). drop j p) (omega arith) ∙ (sym (drop-drop (suc k) f p) ∙ rw e d.1) in
    (rw (q.0, q.1) at t, rw q.1 at s)

-- and as one behind the place finds it
module _ (p : List ℕ) (i x : ℕ) (r : Option ℕ) (none : r ≡ None → x ≡ length p) (some : (k : ℕ) → r ≡ Some k → x ≡ i + k) where
  abbrev n : ℕ
  n = position_or_len is_separator (drop i p)

  place-by : (b : Bool) → ltb n (length (drop i p)) ≡ b → r ≡ cond b (Some n) None → unwrap_or r (length (drop i p)) ≡ length (before_first (drop i p))
      → x ≡ min i (length p) + length (before_first (drop i p))
  place-by true q e u =
      let f : n ≡ length (before_first (drop i p)) = rw e at u in
      omega (arith, some n e, f, ltb-true n (length (drop i p)) q, length-drop i p)
  place-by false q e u =
      let f : length (drop i p) ≡ length (before_first (drop i p)) = rw e at u in
      omega (arith, none e, f, length-drop i p)

  pub first_place : r ≡ cond (ltb n (length (drop i p))) (Some n) None
      → (take x p ≡ take i p ++ before_first (drop i p)) × (drop (x + 1) p ≡ after_first (drop i p))
  first_place e =
      let g = place-by (ltb n (length (drop i p))) refl e (separator_found (drop i p) r e) in
      let q = (end-places p i (leb i (length p)) refl).1 in
      rw g (first-found p i (length (before_first (drop i p))) (ap (λ (l : List ℕ). length (before_first l)) (sym q)))
