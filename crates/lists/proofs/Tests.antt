-- Laws of `any`, which says whether an element of a list passes a test. They rely on the kit's laws of lists.
use mathlib.Core.Path.{◌≡◌, refl}
use mathlib.Core.Bool.{Bool, true, false, cond, ◌||◌}
use mathlib.Core.List.{List, [], ◌∷◌, ◌++◌}
use Prim.Native.Nat.{ℕ, ◌+◌, ◌<◌}
use native.Mathlib.Numerals.{add-one}
use lib.ListN.{length, get_or, drop}
use lib.Seq.{drop-cons}
use Rattle.std.specs.List.{list_any}
use Rattle.lists.specs.Lists.{any}

module _ {A : Type 0} (f : A → Bool) where
  cond-or : (a b c : Bool) → cond a true (b || c) ≡ (cond a true b || c)
  cond-or true b c = refl
  cond-or false b c = refl

  pub any_append : (xs ys : List A) → any f (xs ++ ys) ≡ (any f xs || any f ys)
  any_append [] ys = refl
  any_append (x ∷ xs) ys = rw (any_append xs ys) (cond-or (f x) (any f xs) (any f ys))

  -- one place of a scan fails
  pub any-turn : (xs : List A) (i : ℕ) (d : A) → i < length xs → f (get_or xs i d) ≡ false → any f (drop i xs) ≡ any f (drop (i + 1) xs)
  any-turn xs i d h e = rw (add-one i, drop-cons xs i d h, e)

  -- it is the kit's word for what an iterator's `any` answers
  or-cond : (a b : Bool) → (a || b) ≡ cond a true b
  or-cond true b = refl
  or-cond false b = refl

  pub list-any : (xs : List A) → list_any f xs ≡ any f xs
  list-any [] = refl
  list-any (x ∷ xs) = rw (list-any xs) (or-cond (f x) (any f xs))
