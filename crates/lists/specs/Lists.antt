-- Lists as slices hold them: parts, zeros, equality, sums, and quotients rounded up. Reading past the end is the kit's
-- `get_or`, storing one value is its `set`, and storing a run of values its `sets`; what falls past the end is dropped.
-- It relies on the kit only.
use Rattle.std.specs.Prelude.{ℕ, ◌+◌, ◌-◌, ◌/◌, Bool, true, false, cond, List, [], ◌∷◌, eqb, length, take, drop}
use Rattle.std.specs.Prelude.{replicate}

-- the n elements from position `at` on, or as many of them as there are
abbrev pub part_of : {A : Type 0} → List A → ℕ → ℕ → List A
part_of xs at n = take n (drop at xs)

-- the bytes without the blanks at their start; 32 is a blank
abbrev pub unblanked : List ℕ → List ℕ
unblanked [] = []
unblanked (c ∷ t) = cond (eqb c 32) (unblanked t) (c ∷ t)

-- a list of the same length, all zeros
abbrev pub cleared : List ℕ → List ℕ
cleared xs = replicate (length xs) 0

-- whether two lists of numbers are the same
abbrev pub equal : List ℕ → List ℕ → Bool
equal [] [] = true
equal [] (y ∷ ys) = false
equal (x ∷ xs) [] = false
equal (x ∷ xs) (y ∷ ys) = cond (eqb x y) (equal xs ys) false

-- whether some element passes the test
abbrev pub any : {A : Type 0} → (A → Bool) → List A → Bool
any f [] = false
any f (x ∷ xs) = cond (f x) true (any f xs)

abbrev pub sum : List ℕ → ℕ
sum [] = 0
sum (x ∷ xs) = x + sum xs

-- n / d, rounded up
abbrev pub ceiling : ℕ → ℕ → ℕ
ceiling n d = (n + (d - 1)) / d
