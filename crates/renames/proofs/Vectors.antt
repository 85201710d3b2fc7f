-- The search for a number, computed: in an ascending table, at its ends, in an empty one, and in one that is out of order.
use Prim.Native.Nat.{ℕ}
use mathlib.Core.Path.{◌≡◌, refl}
use mathlib.Core.List.{List, [], ◌∷◌}
use Rattle.renames.specs.Finding.{sought_from, entry_sought}

-- entries of the files 2, 5, 9
abbrev ascending : List ℕ
ascending = 2 ∷ 0 ∷ 1 ∷ 0 ∷ 5 ∷ 0 ∷ 1 ∷ 1 ∷ 9 ∷ 0 ∷ 1 ∷ 2 ∷ []

-- entries of the files 9, 5, 2
abbrev descending : List ℕ
descending = 9 ∷ 0 ∷ 1 ∷ 0 ∷ 5 ∷ 0 ∷ 1 ∷ 1 ∷ 2 ∷ 0 ∷ 1 ∷ 2 ∷ []

first : entry_sought 3 2 ascending ≡ 0
unfolding sought_from
first = refl

middle : entry_sought 3 5 ascending ≡ 1
unfolding sought_from
middle = refl

last : entry_sought 3 9 ascending ≡ 2
unfolding sought_from
last = refl

between : entry_sought 3 6 ascending ≡ 2
unfolding sought_from
between = refl

behind : entry_sought 3 10 ascending ≡ 3
unfolding sought_from
behind = refl

of-none : entry_sought 0 5 ascending ≡ 0
unfolding sought_from
of-none = refl

-- it goes on behind file 5, and file 2 is no less than 9
disordered : entry_sought 3 9 descending ≡ 3
unfolding sought_from
disordered = refl
