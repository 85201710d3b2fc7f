-- The example of document 01, by computing.
use mathlib.Core.Path.{◌≡◌, refl}
use mathlib.Core.List.{List, [], ◌∷◌, ◌++◌}
use Prim.Native.Nat.{ℕ}
use Rattle.lists.specs.Decimal.{digits_within, column}
use Rattle.listing.specs.Run.{listing, run_from}
use Rattle.listing_output.specs.Output.{file_lines}

a_line : List ℕ
a_line = column 15 10000 ++ (32 ∷ 49 ∷ 54 ∷ 32 ∷ 115 ∷ 47 ∷ 97 ∷ 46 ∷ 119 ∷ 97 ∷ 118 ∷ 10 ∷ [])

b_line : List ℕ
b_line = column 15 16384 ++ (32 ∷ 49 ∷ 54 ∷ 32 ∷ 115 ∷ 47 ∷ 98 ∷ 46 ∷ 119 ∷ 97 ∷ 118 ∷ 10 ∷ [])

example : listing (column 10 16384 ++ (10 ∷ (a_line ++ b_line))) ≡
    column 5 0 ++ (column 15 0 ++ (column 15 10000 ++ (column 2 0 ++ (32 ∷ 97 ∷ 46 ∷ 119 ∷ 97 ∷ 118 ∷ 10 ∷ (
    column 5 1 ++ (column 15 10000 ++ (column 15 6384 ++ (column 2 1 ++ (32 ∷ 46 ∷ 112 ∷ 97 ∷ 100 ∷ 47 ∷ 54 ∷ 51 ∷ 56 ∷ 52 ∷ 10 ∷ (
    column 5 2 ++ (column 15 16384 ++ (column 15 16384 ++ (column 2 0 ++ (32 ∷ 98 ∷ 46 ∷ 119 ∷ 97 ∷ 118 ∷ 10 ∷ (
    column 5 3 ++ (column 15 32768 ++ (column 15 26384 ++ (column 10 2 ++ (10 ∷ [])))))))))))))))))))
unfolding a_line b_line digits_within run_from file_lines
example = refl

none : listing [] ≡ column 5 17 ++ (column 5 1 ++ (10 ∷ []))
unfolding digits_within run_from file_lines
none = refl
