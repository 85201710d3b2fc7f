-- Document 01, 'Path parts': paths as lists of bytes, and their splits. The separator is 47, `/`; 92 is `\`, which only
-- `has_parent_path` counts as one. It relies on `any` of `lists`.
use Rattle.std.specs.Prelude.{ℕ, ◌-◌, Bool, true, false, cond, List, [], ◌∷◌, ◌++◌, eqb, take, drop}
use Rattle.lists.specs.Lists.{any}

abbrev pub is_separator : ℕ → Bool
is_separator c = eqb c 47

-- 'counts `\` as a separator'
abbrev pub is_either : ℕ → Bool
is_either c = cond (is_separator c) true (eqb c 92)

-- 'drops one separator at the end, no more': the list c ∷ t without its last byte, where that passes the test
abbrev pub trimmed_from : (ℕ → Bool) → ℕ → List ℕ → List ℕ
trimmed_from f c [] = cond (f c) [] (c ∷ [])
trimmed_from f c (d ∷ t) = c ∷ trimmed_from f d t

abbrev pub trimmed : (ℕ → Bool) → List ℕ → List ℕ
trimmed f [] = []
trimmed f (c ∷ t) = trimmed_from f c t

-- what stands before the last separator: nothing where there is none
abbrev pub before_last : List ℕ → List ℕ
before_last [] = []
before_last (c ∷ t) = cond (any is_separator t) (c ∷ before_last t) []

-- what stands after the last separator: all where there is none
abbrev pub after_last : List ℕ → List ℕ
after_last [] = []
after_last (c ∷ t) = cond (any is_separator t) (after_last t) (cond (is_separator c) t (c ∷ t))

-- what stands before the first separator: all where there is none
abbrev pub before_first : List ℕ → List ℕ
before_first [] = []
before_first (c ∷ t) = cond (is_separator c) [] (c ∷ before_first t)

-- what stands after the first separator: nothing where there is none
abbrev pub after_first : List ℕ → List ℕ
after_first [] = []
after_first (c ∷ t) = cond (is_separator c) t (after_first t)

-- `rsplit_path`: branch and leaf, parted by the last separator
abbrev pub rsplit_branch : List ℕ → List ℕ
rsplit_branch p = before_last (trimmed is_separator p)

abbrev pub rsplit_leaf : List ℕ → List ℕ
rsplit_leaf p = after_last (trimmed is_separator p)

-- an absolute path begins with a separator
abbrev pub is_complete : List ℕ → Bool
is_complete [] = false
is_complete (c ∷ t) = is_separator c

-- `lsplit_path` at a position: a leading separator is skipped and the position lowered with it; then the first
-- separator at or after the position parts first from rest
abbrev pub skipped : List ℕ → List ℕ
skipped p = drop (cond (is_complete p) 1 0) p

abbrev pub position_in : List ℕ → ℕ → ℕ
position_in p pos = pos - cond (is_complete p) 1 0

abbrev pub lsplit_at_first : List ℕ → ℕ → List ℕ
lsplit_at_first p pos = take (position_in p pos) (skipped p) ++ before_first (drop (position_in p pos) (skipped p))

abbrev pub lsplit_at_rest : List ℕ → ℕ → List ℕ
lsplit_at_rest p pos = after_first (drop (position_in p pos) (skipped p))

-- `lsplit_path`: a leading separator is skipped, then the first separator parts first from rest
abbrev pub lsplit_first : List ℕ → List ℕ
lsplit_first p = before_first (skipped p)

abbrev pub lsplit_rest : List ℕ → List ℕ
lsplit_rest p = after_first (skipped p)

-- `has_parent_path`: a separator of either kind is left when one at the end is dropped
abbrev pub has_parent_path : List ℕ → Bool
has_parent_path p = any is_either (trimmed is_either p)
