-- Laws of a composed path in pieces: in a row they are the path, and paths of the same pieces are the same. They rely on the
-- laws of joins and of equality.
use Prim.Native.Nat.{ℕ, ◌<◌}
use native.Mathlib.Omega.{arith}
use lib.ListN.{length}
use mathlib.Core.Path.{◌≡◌, ap, ◌∙◌, sym}
use mathlib.Core.Bool.{Bool, true, false, cond}
use mathlib.Core.List.{List, [], ◌∷◌, ◌++◌, append-nil, append_assoc}
use Rattle.path.specs.Join.{is_alone, is_empty, is_closed, separator, glued, appended}
use Rattle.lists.specs.Lists.{equal}
use Rattle.lists.proofs.Equality.{equal-true, equal-same}
use Rattle.rules.proofs.Rules.{both_true}
use Rattle.compatible.specs.declared.walk.Pieces.{Pieces}
use Rattle.compatible.specs.private.Walk.{whole_of, same_each}
use Rattle.names.proofs.Composed.{kept-appended, closed-appended}

-- a part with what stands behind it, and the next
glue : (a b : List ℕ) → (a ++ separator a b) ++ b ≡ cond (is_empty b) a (glued a b)
glue a [] = append-nil (a ++ []) ∙ append-nil a
glue a (x ∷ b) = at (is_closed a)
  where
    at : (k : Bool) → (a ++ cond k [] (47 ∷ [])) ++ (x ∷ b) ≡ a ++ cond k (x ∷ b) (47 ∷ x ∷ b)
    at true = ap (λ (l : List ℕ). l ++ (x ∷ b)) (append-nil a)
    at false = append_assoc a (47 ∷ []) (x ∷ b)

-- two parts, the first one kept
two-kept : (a b : List ℕ) → is_alone a ≡ false → (a ++ separator a b) ++ b ≡ appended a b
two-kept a b e = glue a b ∙ rw e

-- three, of which the second is not empty
pub three-kept : (a b c : List ℕ) → is_alone a ≡ false → 0 < length b → (((a ++ separator a b) ++ b) ++ separator b c) ++ c ≡ appended (appended a b) c
three-kept a [] c e h = absurd (omega arith)
three-kept a (x ∷ b) c e h =
    let closed : is_closed (appended a (x ∷ b)) ≡ is_closed (x ∷ b) = closed-appended a (x ∷ b) e in
    rw (two-kept a (x ∷ b) e, ← closed) (two-kept (appended a (x ∷ b)) c (kept-appended a (x ∷ b) e))

-- paths of the same pieces are the same
pub each-same : (p q : Pieces) → same_each p q ≡ true → true ≡ equal (whole_of p) (whole_of q)
each-same p q e =
    let h1 = both_true (equal p.first.now q.first.now) _ e in
    let h2 = both_true (equal p.first_end.now q.first_end.now) _ h1.1 in
    let h3 = both_true (equal p.second.now q.second.now) _ h2.1 in
    let h4 = both_true (equal p.second_end.now q.second_end.now) (equal p.last.now q.last.now) h3.1 in
    let same : whole_of p ≡ whole_of q = rw (
      equal-true p.first.now q.first.now h1.0,
      equal-true p.first_end.now q.first_end.now h2.0,
      equal-true p.second.now q.second.now h3.0,
      equal-true p.second_end.now q.second_end.now h4.0,
      equal-true p.last.now q.last.now h4.1,
    ) in
    sym (equal-same (whole_of p) (whole_of q) same)
