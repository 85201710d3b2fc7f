-- Laws of `checked_sub` over what an iterator gives: by `try_fold` a number for each item is taken off a room, and all can be taken
-- where their sum is at most the room. They rely on the kit's laws of iterators.
use Rattle.std.specs.Prelude.{Option, Some, None, SomeIff}
use Rattle.std.specs.Option.{MatchOption, is_some}
use Rattle.std.specs.ControlFlow.{continue_value}
use Rattle.std.specs.List.{FoldsTo}
use Rattle.std.specs.Iterator.{AlwaysYields, TryFoldTurn, TryFoldsItems}
use Rattle.std.proofs.iter.Yields.{gives_left}
use Rattle.std.proofs.lemmas.Iterator.{YieldsList}
use Prim.Native.Nat.{ℕ, ◌+◌, ◌-◌, ◌≤◌, ◌<◌}
use mathlib.Core.Path.{◌≡◌, refl, sym, subst, ap, ◌∙◌}
use mathlib.Core.Logic.{◌⊎◌, inl, inr}
use mathlib.Core.List.{List, [], ◌∷◌, map}
use native.Mathlib.Omega.{arith}
use lib.Dec.{leb}
use borrow.Author.Tests.{le-leb, lt-leb}
use denote.Param.Members.{Mut, Called}
use Rattle.lists.specs.Lists.{sum}
use Rattle.lists.proofs.Orders.{le-or-lt}
use Rattle.lists.proofs.Sums.{sum-append}

-- a part taken off both sides
leb-less : (room a b : ℕ) → a ≤ room → leb b (room - a) ≡ leb (a + b) room
leb-less room a b h = at (le-or-lt (a + b) room)
  where
    at : (a + b ≤ room) ⊎ (room < a + b) → leb b (room - a) ≡ leb (a + b) room
    at (inl p) = le-leb b (room - a) (omega arith) ∙ sym (le-leb (a + b) room p)
    at (inr p) = lt-leb b (room - a) (omega arith) ∙ sym (lt-leb (a + b) room p)

module _ {A F : Type 0} (v : A → ℕ) (E : Type 0) (g : Mut F (ℕ × (A × Unit {0})) (Option ℕ)) (f : F)
    (subtracts : (a : ℕ) (x : A) (w : Option ℕ) (q : F) → Called g f (a, (x, tt)) w q → (q ≡ f) × SomeIff w (v x ≤ a) (a - v x)) where
  one-less : (a : ℕ) (x : A) (b : ℕ) (w : Option ℕ) (p q : F) → p ≡ f → Called g p (a, (x, tt)) w q → w ≡ Some b → (q ≡ f) × (v x ≤ a) × (b ≡ a - v x)
  one-less a x b w p q e call is =
      let s = subtracts a x w q (subst (λ (k : F). Called g k (a, (x, tt)) w q) e call) in
      let t = subst (λ (o : Option ℕ). SomeIff o (v x ≤ a) (a - v x)) is s.1 in
      (s.0, t.0, t.1)

  one-more : (a : ℕ) (x : A) (w : Option ℕ) (p q : F) → p ≡ f → Called g p (a, (x, tt)) w q → w ≡ None → a < v x
  one-more a x w p q e call is =
      let s = subtracts a x w q (subst (λ (k : F). Called g k (a, (x, tt)) w q) e call) in
      let t : v x ≤ a → ⊥ = subst (λ (o : Option ℕ). SomeIff o (v x ≤ a) (a - v x)) is s.1 in
      omega (arith, t)

  turns : (xs : List A) (a b : ℕ) (p q : F) → p ≡ f → FoldsTo {P = F × ℕ} (TryFoldTurn {E = E} g (λ w c. w ≡ continue_value c)) (p, a) xs (q, b)
      → (q ≡ f) × (sum (map v xs) ≤ a) × (b ≡ a - sum (map v xs))
  turns [] a b p q e y = (sym (ap (λ (z : F × ℕ). z.0) y) ∙ e, omega arith, sym (ap (λ (z : F × ℕ). z.1) y) ∙ omega arith)
  turns (x ∷ xs) a b p q e y =
      let one = one-less a x y.0.1 y.1.0 p y.0.0 e y.1.1 y.1.2 in
      let rest = turns xs y.0.1 b y.0.0 q one.0 y.2 in
      (rest.0, omega (arith, one.1, one.2, rest.1), omega (arith, one.1, one.2, rest.1, rest.2))

  module _ {S : Type 0} (steps : S → Option A → S → Type 0) (r : Option ℕ) where
    ends : (q : F) (left : ℕ) (t u : S) (o : Option A) (rest : List ℕ) → q ≡ f → AlwaysYields steps v t rest → steps t o u
        → MatchOption o (r ≡ Some left) (λ x. (w : Option ℕ) × (h : F) × (e : E) × Called g q (left, (x, tt)) w h × (w ≡ None) × (r ≡ None))
        → is_some r ≡ leb (sum rest) left
    ends q left t u None [] e road last is = ap is_some is ∙ sym (le-leb 0 left (omega arith))
    ends q left t u None (y ∷ ys) e road last is = absurd (road.0 u last)
    ends q left t u (Some x) [] e road last is = absurd (road x u last)
    ends q left t u (Some x) (y ∷ ys) e road last is =
        let more = one-more left x is.0 q is.1 e is.3 is.4 in
        let over : left < y + sum ys = omega (arith, (road.1 x u last).0) in
        ap is_some is.5 ∙ sym (lt-leb (y + sum ys) left over)

    pub all_taken_by : (s u : S) (all : List ℕ) (room : ℕ) → YieldsList steps v s all
        → TryFoldsItems steps {E = E} g (λ w c. w ≡ continue_value c) (λ e w. w ≡ None) s f room r u → is_some r ≡ leb (sum all) room
    all_taken_by s u all room road (xs, o, q, left, (t, y, last), folded, is) =
        let done = turns xs room left f q refl folded in
        let more = gives_left steps v xs all s t road.runs y in
        let whole : sum all ≡ sum (map v xs) + sum more.0 = ap sum more.1 ∙ sum-append (map v xs) more.0 in
        ends q left t u o more.0 done.0 more.2 last is ∙ rw (whole, done.2) (leb-less room (sum (map v xs)) (sum more.0) done.1)

-- an iterator gives a number for each item
module _ {S A B : Type 0} (steps : S → Option A → S → Type 0) (v : A → B) (h : B → ℕ) where
  numbers : (ys : List B) (s : S) → AlwaysYields steps v s ys → AlwaysYields steps (λ x. h (v x)) s (map h ys)
  numbers [] s y = y
  numbers (b ∷ ys) s y = (y.0, λ x j k. (ap h (y.1 x j k).0, numbers ys j (y.1 x j k).1))

  pub numbers_of : {s : S} {ys : List B} → YieldsList steps v s ys → YieldsList steps (λ x. h (v x)) s (map h ys)
  numbers_of {s} {ys} y = record { runs = numbers ys s y.runs }

-- the numbers themselves
module _ {F : Type 0} (E : Type 0) (g : Mut F (ℕ × (ℕ × Unit {0})) (Option ℕ)) (f : F)
    (subtracts : (a x : ℕ) (w : Option ℕ) (q : F) → Called g f (a, (x, tt)) w q → (q ≡ f) × SomeIff w (x ≤ a) (a - x)) where
  module _ {S : Type 0} (steps : S → Option ℕ → S → Type 0) (r : Option ℕ) where
    pub all-taken : (s u : S) (all : List ℕ) (room : ℕ) → YieldsList steps (λ x. x) s all
        → TryFoldsItems steps {E = E} g (λ w c. w ≡ continue_value c) (λ e w. w ≡ None) s f room r u → is_some r ≡ leb (sum all) room
    all-taken = all_taken_by (λ x. x) E g f subtracts steps r
