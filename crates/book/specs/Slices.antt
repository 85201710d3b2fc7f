-- Slices of files that lie end to end (BEP 3): joined slices, the slices that hold each file once and in full, and the
-- bytes that slices stand for. The files are given by their sizes. Of the port it relies on `part_of` of `lists` alone.
--
-- Names from elsewhere: `cond t a b` is a where t is true, else b; `eqb`, `ltb` and `leb` test =, < and ≤; `a - b` is 0
-- where b is larger. `get_or xs i d` is element i of xs, d past its end; `take n` and `drop n` are the first n elements
-- and the rest; `part_of xs at n` is the n elements from position `at` on.
use Rattle.std.specs.Prelude.{ℕ, zero, suc, ◌+◌, ◌-◌, ◌≤◌, min, max, cond, ◌&&◌, List, [], ◌∷◌, ◌++◌, eqb, get_or}
use Rattle.lists.specs.Lists.{part_of}

-- a part of a file: the file's number, where in the file the part begins, and its size
pub record Slice : Type 0 where
  pub file : ℕ
  pub offset : ℕ
  pub size : ℕ

abbrev pub slice : ℕ → ℕ → ℕ → Slice
slice f o n = record { file = f; offset = o; size = n }

-- the slice a in front of others, made one with the first of them where that continues a in the same file
abbrev pub joined_to : Slice → List Slice → List Slice
joined_to a [] = a ∷ []
joined_to a (b ∷ r) =
    cond (eqb a.file b.file && eqb (a.offset + a.size) b.offset)
    (slice a.file a.offset (a.size + b.size) ∷ r)
    (a ∷ b ∷ r)

abbrev pub joined : List Slice → List Slice
joined [] = []
joined (a ∷ r) = joined_to a (joined r)

-- each nonempty file once and in full: 'Whole is offset 0 and the row's size'; the files are numbered from k
abbrev pub whole_from : ℕ → List ℕ → List Slice
whole_from k [] = []
whole_from k (x ∷ xs) = cond (eqb x 0) (whole_from (suc k) xs) (slice k 0 x ∷ whole_from (suc k) xs)

abbrev pub whole_files : List ℕ → List Slice
whole_files xs = whole_from 0 xs

abbrev pub bytes_in : List Slice → ℕ
bytes_in [] = 0
bytes_in (p ∷ r) = p.size + bytes_in r

-- at most one slice of each file, in file order, and no file below k
abbrev pub AscendingFrom : ℕ → List Slice → Type 0
AscendingFrom k [] = Unit {0}
AscendingFrom k (p ∷ r) = (k ≤ p.file) × AscendingFrom (suc p.file) r

-- 0 for 0, else 1
abbrev pub one_if : ℕ → ℕ
one_if zero = 0
one_if (suc n) = 1

-- the number of files with a byte among the n bytes from byte t on, where the first file starts at byte o
abbrev pub meets_from : ℕ → List ℕ → ℕ → ℕ → ℕ
meets_from o [] t n = 0
meets_from o (x ∷ xs) t n = one_if (min (o + x) (t + n) - max o t) + meets_from (o + x) xs t n

abbrev pub meets : List ℕ → ℕ → ℕ → ℕ
meets xs t n = meets_from 0 xs t n

-- the bytes of the set: BEP 3, the files' contents end to end
abbrev pub end_to_end : List (List ℕ) → List ℕ
end_to_end [] = []
end_to_end (c ∷ cs) = c ++ end_to_end cs

-- the bytes that slices stand for, out of the files' contents
abbrev pub content_of : List (List ℕ) → List Slice → List ℕ
content_of cs [] = []
content_of cs (p ∷ r) = part_of (get_or cs p.file []) p.offset p.size ++ content_of cs r
