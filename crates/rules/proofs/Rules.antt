-- Rules in order: two lists of them in a row, and what is known where none stops a call.
use Prim.Native.Nat.{ℕ, ◌<◌}
use mathlib.Core.Path.{◌≡◌, refl, ap, ◌∙◌}
use mathlib.Core.Bool.{Bool, true, false, cond, true≢false, false≢true, ◌&&◌, ◌||◌}
use mathlib.Core.List.{List, [], ◌∷◌, ◌++◌}
use native.Mathlib.Omega.{arith}
use lib.Dec.{eqb, ltb}
use borrow.Author.Tests.{eqb-true, ne_eqb, ltb-true}
use Rattle.types.specs.Refusals.{number_of, value, refused}
use Rattle.types.specs.declared.refusal.Refusal.{Refusal}
use Rattle.types.proofs.Refusals.{numbered}
use Rattle.rules.specs.Rules.{Rule, first_of, outcome_of}

pub both_true : (a b : Bool) → (a && b) ≡ true → (a ≡ true) × (b ≡ true)
both_true true b e = (refl, e)
both_true false b e = absurd (false≢true e)

-- whether the numbers of rules are above 0
abbrev named : List Rule → Bool
named [] = true
named (r ∷ rs) = ltb 0 r.number && named rs

abbrev pub Numbered : List Rule → Type 0
Numbered rs = named rs ≡ true

-- none of the tests holds
abbrev pub Passed : List Rule → Type 0
Passed [] = Unit
Passed (r ∷ rs) = (r.test ≡ false) × Passed rs

-- the first number, or the second where that is 0
abbrev pub or_else : ℕ → ℕ → ℕ
or_else n m = cond (eqb n 0) m n

-- two lists of rules in a row
append-one : (t : Bool) (n a b : ℕ) → 0 < n → cond t n (or_else a b) ≡ or_else (cond t n a) b
append-one true n a b h = let e : eqb n 0 ≡ false = ne_eqb n 0 (λ q. omega arith) in rw e
append-one false n a b h = refl

pub first-append : (rs ss : List Rule) → Numbered rs → first_of (rs ++ ss) ≡ or_else (first_of rs) (first_of ss)
first-append [] ss h = refl
first-append (r ∷ rs) ss h =
    let q = both_true (ltb 0 r.number) (named rs) h in
    ap (cond r.test r.number) (first-append rs ss q.1) ∙ append-one r.test r.number (first_of rs) (first_of ss) (ltb-true 0 r.number q.0)

-- where no rule stops a call, no test holds
passed-one : (t : Bool) (n m : ℕ) → 0 < n → 0 ≡ cond t n m → (t ≡ false) × (0 ≡ m)
passed-one true n m h e = absurd (omega arith)
passed-one false n m h e = (refl, e)

pub passed : (rs : List Rule) → Numbered rs → 0 ≡ first_of rs → Passed rs
passed [] h e = tt
passed (r ∷ rs) h e =
    let q = both_true (ltb 0 r.number) (named rs) h in
    let p = passed-one r.test r.number (first_of rs) (ltb-true 0 r.number q.0) e in
    (p.0, passed rs q.1 p.1)

-- a rule of the first list stops a call, or none does and the second list decides
pub stopped : {A : Type 0} (rs ss : List Rule) (e : Refusal) (a : A) → Numbered rs → number_of e ≡ first_of rs
    → refused (number_of e) ≡ outcome_of (first_of (rs ++ ss)) a
stopped rs ss e a h k = rw (first-append rs ss h, ← k, numbered e, numbered e)

pub after : (rs ss : List Rule) → Numbered rs → 0 ≡ first_of rs → first_of (rs ++ ss) ≡ first_of ss
after rs ss h k = rw (first-append rs ss h, ← k)

-- what an outcome says of its number
pub outcome-value : {A : Type 0} (n : ℕ) (a b : A) → value a ≡ outcome_of n b → (n ≡ 0) × (a ≡ b)
outcome-value n a b e = at (eqb n 0) refl e
  where
    at : (t : Bool) → eqb n 0 ≡ t → value a ≡ cond t (value b) (refused n) → (n ≡ 0) × (a ≡ b)
    at true q e = (eqb-true n 0 q, cc)
    at false q e = absurd (let z : ◌≡◌ {A = ℕ} 0 1 = cc in omega arith)

pub outcome-refused : {A : Type 0} (n k : ℕ) (b : A) → refused k ≡ outcome_of n b → n ≡ k
outcome-refused n k b e = at (eqb n 0) e
  where
    at : (t : Bool) → refused k ≡ cond t (value b) (refused n) → n ≡ k
    at true e = absurd (let z : ◌≡◌ {A = ℕ} 0 1 = cc in omega arith)
    at false e = cc

pub either-false : (a b : Bool) → (a || b) ≡ false → (a ≡ false) × (b ≡ false)
either-false true b e = absurd (true≢false e)
either-false false b e = (refl, e)
