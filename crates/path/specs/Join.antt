-- Document 01, 'Path parts': joins of a branch and a leaf, and what a join does to a lent buffer. 46 is `.`. It
-- relies on the separator of Split.antt and the outcomes of `types`.
use Rattle.std.specs.Prelude.{ℕ, Bool, true, false, cond, List, [], ◌∷◌, ◌++◌, leb, length, take, Result}
use Rattle.std.proofs.lemmas.List.Edits.{sets}
use Rattle.lists.specs.Lists.{equal}
use Rattle.types.specs.declared.refusal.Refusal.{Refusal}
use Rattle.types.specs.Refusals.{Outcome, value, refused, outcome}
use Rattle.path.specs.Split.{is_separator}

-- 'an empty branch or `.`'
abbrev pub is_alone : List ℕ → Bool
is_alone [] = true
is_alone (c ∷ t) = equal (c ∷ t) (46 ∷ [])

abbrev pub is_empty : List ℕ → Bool
is_empty [] = true
is_empty (c ∷ t) = false

-- whether the list c ∷ t ends in a separator
abbrev pub closed_from : ℕ → List ℕ → Bool
closed_from c [] = is_separator c
closed_from c (d ∷ t) = closed_from d t

abbrev pub is_closed : List ℕ → Bool
is_closed [] = false
is_closed (c ∷ t) = closed_from c t

-- what stands between a branch that a join keeps and a leaf
abbrev pub separator : List ℕ → List ℕ → List ℕ
separator branch leaf = cond (is_empty leaf) [] (cond (is_closed branch) [] (47 ∷ []))

-- one separator between the two, unless the branch ends in one
abbrev pub glued : List ℕ → List ℕ → List ℕ
glued branch leaf = branch ++ cond (is_closed branch) leaf (47 ∷ leaf)

-- 'onto an empty branch or `.` leaves the leaf alone'; an empty leaf leaves the branch as it is
abbrev pub appended : List ℕ → List ℕ → List ℕ
appended branch leaf = cond (is_alone branch) leaf (cond (is_empty leaf) branch (glued branch leaf))

-- `combine_path`: either part stands alone where the other is empty or `.`
abbrev pub combined : List ℕ → List ℕ → List ℕ
combined left right = cond (is_alone left) right (cond (is_alone right) left (glued left right))

-- what a join answers, and what the buffer then holds
pub record Joined : Type 0 where
  pub says : Outcome ℕ
  pub buf : List ℕ

-- what the function's result and the buffer after it say
abbrev pub joined_says : Result ℕ Refusal → List ℕ → Joined
joined_says r buf = record { says = outcome r; buf = buf }

-- the text at the buffer's start and its length, or refusal 10 and the buffer untouched
abbrev pub joined_if : Bool → List ℕ → List ℕ → Joined
joined_if true text buf = record { says = value (length text); buf = sets buf 0 text }
joined_if false text buf = record { says = refused 10; buf = buf }

abbrev pub fits : List ℕ → List ℕ → Bool
fits text buf = leb (length text) (length buf)

-- the leaf appended to the branch that stands in the first `used` bytes of the buffer
abbrev pub append_into : List ℕ → ℕ → List ℕ → Joined
append_into buf used leaf =
    joined_if (cond (leb used (length buf)) (fits (appended (take used buf) leaf) buf) false)
    (appended (take used buf) leaf) buf

abbrev pub combine_into : List ℕ → List ℕ → List ℕ → Joined
combine_into left right buf = joined_if (fits (combined left right) buf) (combined left right) buf
