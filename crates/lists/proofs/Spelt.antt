-- A law of `try_fold` whose step is a function that may fail: it gives what the function gives over all the items. It relies on
-- the kit's laws of iterators.
use Rattle.std.specs.Prelude.{Option, Some, None, option_and_then}
use Rattle.std.specs.Option.{MatchOption}
use Rattle.std.specs.ControlFlow.{continue_value}
use Rattle.std.specs.List.{FoldsTo}
use Rattle.std.specs.Iterator.{AlwaysYields, TryFoldTurn, TryFoldsItems}
use Rattle.std.proofs.iter.Yields.{gives_left}
use Rattle.std.proofs.lemmas.Iterator.{YieldsList}
use Prim.Native.Nat.{ℕ}
use mathlib.Core.Path.{◌≡◌, refl, sym, subst, ap, ◌∙◌}
use mathlib.Core.List.{List, [], ◌∷◌, ◌++◌, map}
use denote.Param.Members.{Mut, Called}
use Rattle.lists.specs.Decimal.{digit_of, with_digit, digits_from}

module _ {F X : Type 0} (E : Type 0) (read : X → ℕ) (g : Mut F (ℕ × (X × Unit {0})) (Option ℕ)) (f : F)
    (gives : (a : ℕ) (x : X) (w : Option ℕ) (q : F) → Called g f (a, (x, tt)) w q → (q ≡ f) × (w ≡ with_digit a (digit_of (read x)))) where
  given : (a : ℕ) (x : X) (w : Option ℕ) (p q : F) → p ≡ f → Called g p (a, (x, tt)) w q → (q ≡ f) × (w ≡ with_digit a (digit_of (read x)))
  given a x w p q e call = gives a x w q (subst (λ (k : F). Called g k (a, (x, tt)) w q) e call)

  turns : (xs : List X) (a b : ℕ) (p q : F) → p ≡ f → FoldsTo {P = F × ℕ} (TryFoldTurn {E = E} g (λ w c. w ≡ continue_value c)) (p, a) xs (q, b)
      → (q ≡ f) × ((ys : List ℕ) → digits_from a (map read xs ++ ys) ≡ digits_from b ys)
  turns [] a b p q e y = (sym (ap (λ (z : F × ℕ). z.0) y) ∙ e, λ ys. ap (λ (z : F × ℕ). digits_from z.1 ys) y)
  turns (x ∷ xs) a b p q e y =
      let one = given a x y.1.0 p y.0.0 e y.1.1 in
      let rest = turns xs y.0.1 b y.0.0 q one.0 y.2 in
      (rest.0, λ ys. ap (option_and_then (λ n. digits_from n (map read xs ++ ys))) (sym one.1 ∙ y.1.2) ∙ rest.1 ys)

  module _ {S : Type 0} (steps : S → Option X → S → Type 0) (r : Option ℕ) where
    ends : (q : F) (left : ℕ) (t u : S) (o : Option X) (rest : List ℕ) → q ≡ f → AlwaysYields steps read t rest → steps t o u
        → MatchOption o (r ≡ Some left) (λ x. (w : Option ℕ) × (h : F) × (e : E) × Called g q (left, (x, tt)) w h × (w ≡ None) × (r ≡ None))
        → r ≡ digits_from left rest
    ends q left t u None [] e road last is = is
    ends q left t u None (y ∷ ys) e road last is = absurd (road.0 u last)
    ends q left t u (Some x) [] e road last is = absurd (road x u last)
    ends q left t u (Some x) (y ∷ ys) e road last is =
        let one = given left x is.0 q is.1 e is.3 in
        let none : with_digit left (digit_of (read x)) ≡ None = sym one.1 ∙ is.4 in
        let same : read x ≡ y = (road.1 x u last).0 in
        is.5 ∙ sym (ap (option_and_then (λ n. digits_from n ys)) (ap (λ (z : ℕ). with_digit left (digit_of z)) (sym same) ∙ none))

    pub all_spelt : (s u : S) (all : List ℕ) (n : ℕ) → YieldsList steps read s all
        → TryFoldsItems steps {E = E} g (λ w c. w ≡ continue_value c) (λ e w. w ≡ None) s f n r u → r ≡ digits_from n all
    all_spelt s u all n road (xs, o, q, left, (t, y, last), folded, is) =
        let done = turns xs n left f q refl folded in
        let more = gives_left steps read xs all s t road.runs y in
        ends q left t u o more.0 done.0 more.2 last is ∙ sym (ap (digits_from n) more.1 ∙ done.1 more.0)
