-- Two iterators compared by `eq`, where each gives the numbers of a list: the answer is that the lists are the same. It relies
-- on what the library says of such a comparison.
use Rattle.std.specs.Prelude.{Option, Some, None}
use Rattle.std.specs.Iterator.{AlwaysYields, YieldsThen}
use Rattle.std.specs.List.{AllZip}
use Rattle.std.specs.Option.{MatchOption, IfSome}
use Rattle.std.proofs.lemmas.Iterator.{YieldsList}
use Prim.Native.Nat.{ℕ}
use mathlib.Core.Path.{◌≡◌, sym, subst, ◌∙◌}
use mathlib.Core.Bool.{Bool, true, false}
use mathlib.Core.List.{List, [], ◌∷◌}
use lib.Dec.{eqb}
use Rattle.lists.specs.Lists.{equal}

-- what the first two answers that do not agree, or that end both, decide
abbrev pub Decided : {A : Type 0} → (A → A → Bool) → Bool → Option A → Option A → Type 0
Decided eq r o p = MatchOption o (MatchOption p (r ≡ true) (λ _. r ≡ false)) (λ x. (r ≡ false) × IfSome p (λ y. eq x y ≡ false))

module _ {S T A : Type 0} (steps : S → Option A → S → Type 0) (others : T → Option A → T → Type 0) (v : A → ℕ) (eq : A → A → Bool) (says : (x y : A) → eq x y ≡ eqb (v x) (v y)) where
  last : (r : Bool) (ps qs : List ℕ) (s : S) (t : T) (o p : Option A) (u : S) (w : T)
      → AlwaysYields steps v s ps → AlwaysYields others v t qs → steps s o u → others t p w → Decided eq r o p → r ≡ equal ps qs
  last r [] qs s t (Some x) p u w e f a b d = absurd (e x u a)
  last r (m ∷ ps) qs s t None p u w e f a b d = absurd (e.0 u a)
  last r [] [] s t None None u w e f a b d = d
  last r [] [] s t None (Some y) u w e f a b d = absurd (f y w b)
  last r [] (n ∷ qs) s t None None u w e f a b d = absurd (f.0 w b)
  last r [] (n ∷ qs) s t None (Some y) u w e f a b d = d
  last r (m ∷ ps) [] s t (Some x) None u w e f a b d = d.0
  last r (m ∷ ps) [] s t (Some x) (Some y) u w e f a b d = absurd (f y w b)
  last r (m ∷ ps) (n ∷ qs) s t (Some x) None u w e f a b d = absurd (f.0 w b)
  last r (m ∷ ps) (n ∷ qs) s t (Some x) (Some y) u w e f a b d =
      let differ : eqb m n ≡ false = rw (← (e.1 x u a).0, ← (f.1 y w b).0) (sym (says x y) ∙ d.1) in
      d.0 ∙ rw differ

  from : (r : Bool) (ps qs : List ℕ) (s : S) (t : T) (xs ys : List A) (o p : Option A) (u : S) (w : T) → AlwaysYields steps v s ps → AlwaysYields others v t qs
      → YieldsThen steps s xs o u → YieldsThen others t ys p w → AllZip (λ x y. eq x y ≡ true) xs ys → Decided eq r o p → r ≡ equal ps qs
  from r ps qs s t [] [] o p u w e f a b z d =
      last r ps qs a.0 b.0 o p u w (subst (λ k. AlwaysYields steps v k ps) a.1 e) (subst (λ k. AlwaysYields others v k qs) b.1 f) a.2 b.2 d
  from r ps qs s t [] (y ∷ ys) o p u w e f a b z d = absurd z
  from r ps qs s t (x ∷ xs) [] o p u w e f a b z d = absurd z
  from r [] qs s t (x ∷ xs) (y ∷ ys) o p u w e f a b z d = absurd (e x a.1.0 a.1.1)
  from r (m ∷ ps) [] s t (x ∷ xs) (y ∷ ys) o p u w e f a b z d = absurd (f y b.1.0 b.1.1)
  from r (m ∷ ps) (n ∷ qs) s t (x ∷ xs) (y ∷ ys) o p u w e f a b z d =
      let same : eqb m n ≡ true = rw (← (e.1 x a.1.0 a.1.1).0, ← (f.1 y b.1.0 b.1.1).0) (sym (says x y) ∙ z.0) in
      from r ps qs a.1.0 b.1.0 xs ys o p u w (e.1 x a.1.0 a.1.1).1 (f.1 y b.1.0 b.1.1).1 (a.0, a.1.2, a.2) (b.0, b.1.2, b.2) z.1 d ∙ rw same

  pub compared : (r : Bool) {ps qs : List ℕ} {s : S} {t : T} (xs ys : List A) (o p : Option A) (u : S) (w : T) → YieldsList steps v s ps → YieldsList others v t qs
      → YieldsThen steps s xs o u → YieldsThen others t ys p w → AllZip (λ x y. eq x y ≡ true) xs ys → Decided eq r o p → r ≡ equal ps qs
  compared r {ps} {qs} {s} {t} xs ys o p u w e f = from r ps qs s t xs ys o p u w e.runs f.runs
