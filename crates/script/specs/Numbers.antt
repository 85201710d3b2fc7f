-- docs/CALLS.md: 'Numbers are decimal, with `-` where negative'; 'a number out of its type's range' is no number. What
-- digits spell is said in Decimal.antt of `lists`; 45 is `-`.
use Rattle.std.specs.Prelude.{ℕ, ◌-◌, ◌^◌, cond, List, eqb, ltb, leb, ℤ, pos, negsuc, get_or, drop, Option, None, Some}
use Rattle.lists.specs.Decimal.{number_of}

-- a number below 2 ^ k
abbrev pub positive_of : ℕ → Option ℕ → Option ℤ
positive_of k None = None
positive_of k (Some n) = cond (ltb n (2 ^ k)) (Some (pos n)) None

-- minus a number from 1 to 2 ^ k: `negsuc n` is −(n + 1)
abbrev pub negative_of : ℕ → Option ℕ → Option ℤ
negative_of k None = None
negative_of k (Some n) = cond (eqb n 0) None (cond (leb n (2 ^ k)) (Some (negsuc (n - 1))) None)

-- a number from −2 ^ k to 2 ^ k − 1
abbrev pub signed_of : ℕ → List ℕ → Option ℤ
signed_of k word =
    cond (eqb (get_or word 0 0) 45) (negative_of k (number_of (drop 1 word))) (positive_of k (number_of word))
