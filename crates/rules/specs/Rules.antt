-- Refusals in order. Document 01, 'Refusals, by place': 'The place's list is its order'. It relies on the outcomes
-- of `types`.
use Rattle.std.specs.Prelude.{ℕ, Bool, cond, List, [], ◌∷◌, eqb}
use Rattle.types.specs.Refusals.{Outcome, value, refused}

-- a test, and the number of the refusal where it holds
pub record Rule : Type 0 where
  pub test : Bool
  pub number : ℕ

abbrev pub when : Bool → ℕ → Rule
when t n = record { test = t; number = n }

-- the number of the first rule whose test holds, 0 where none does
abbrev pub first_of : List Rule → ℕ
first_of [] = 0
first_of (r ∷ rs) = cond r.test r.number (first_of rs)

-- 'A refusal gives its number and no other value'
abbrev pub outcome_of : {A : Type 0} → ℕ → A → Outcome A
outcome_of k a = cond (eqb k 0) (value a) (refused k)
