-- Document 01, 'The book of demand 3'. The book 'is fed the calls' arguments, no table of the set among them, and which
-- calls were refused'. Nothing here speaks of the port's tables or of its model. Of the port it relies on the records
-- of the calls' arguments alone: `Addition` of `additions`, whose given name and root are each an `Option` of
-- std, and `Naming` of `renames`; besides, on `sum` of `lists`, which adds a list up.
--
-- Names from elsewhere: `cond t a b` is a where t is true, else b; `eqb` and `ltb` test = and <; `a - b` is 0 where b
-- is larger. The integer n is `pos n`, and −(n + 1) is `negsuc n`.
use Rattle.std.specs.Prelude.{ℕ, ◌+◌, ◌-◌, ◌%◌, ◌≡◌, Bool, true, false, cond, not, ◌&&◌, ◌||◌, List, [], ◌∷◌, ◌++◌, map}
use Rattle.std.specs.Prelude.{eqb, ltb, ℤ, pos, negsuc, length, Option, Some, None}
use Rattle.lists.specs.Lists.{sum}
use Rattle.additions.specs.Addition.{Addition}
use Rattle.imports.specs.Imports.{Naming}

-- a call, by its arguments
pub data Call : Type 0 where
  add : Addition → Call
  trim : Call
  clean : Call
  rename : Naming → Call
  «import» : List Naming → Call

-- what came of a call: done, or refused by a number of document 01
pub data Came : Type 0 where
  done : Came
  refused : ℕ → Came

-- a call that was made, and what came of it
pub record Made : Type 0 where
  pub call : Call
  pub came : Came

-- a row is a file: its size, and whether it is marked as a pad
pub record Row : Type 0 where
  pub size : ℕ
  pub marked : Bool

pub record Book : Type 0 where
  pub piece_length : ℕ
  pub v2 : Bool
  pub rows : List Row
  pub links : ℕ

abbrev pub sizes_of : List Row → List ℕ
sizes_of rs = map (λ (r : Row). r.size) rs

abbrev pub bytes_of : List Row → ℕ
bytes_of rs = sum (sizes_of rs)

-- 'It starts with the piece length, v1, no rows, no link texts'
abbrev pub blank : ℕ → Book
blank n = record { piece_length = n; v2 = false; rows = []; links = 0 }

-- an integer that is not negative; a negative size is refused, so what stands for it is free
abbrev pub natural : ℤ → ℕ
natural (pos n) = n
natural (negsuc n) = 0

abbrev pub size_given : Addition → ℕ
size_given a = natural a.size

abbrev pub has_link : Addition → Bool
has_link a = ltb 0 (length a.link)

abbrev pub is_given : Option (List ℕ) → Bool
is_given None = false
is_given (Some xs) = true

abbrev pub has_given_root : Addition → Bool
has_given_root a = is_given a.root

-- 'a nonempty file without link text'
abbrev pub is_plain : Addition → Bool
is_plain a = ltb 0 (size_given a) && not (has_link a)

-- 'while the sizes sum to 0 or there are as many link texts as rows'
abbrev pub is_left_open : Book → Bool
is_left_open b = eqb (bytes_of b.rows) 0 || eqb b.links (length b.rows)

-- 'sets v2 if it has a root, else v1'
abbrev pub version_after : Book → Addition → Bool
version_after b a = cond (is_plain a && is_left_open b) (has_given_root a) b.v2

-- 'A row of the file's size follows, marked if flag 1 is given'
abbrev pub row_for : Addition → Row
row_for a = record { size = size_given a; marked = eqb (a.flags % 2) 1 }

-- 'In v2, if the sum is then no multiple of the piece length, a marked row fills it up to the next'
abbrev pub filling : ℕ → Bool → ℕ → List Row
filling n v2 bytes = cond (v2 && not (eqb (bytes % n) 0)) (record { size = n - bytes % n; marked = true } ∷ []) []

-- 'a link text is counted, up to 32766'
abbrev pub links_after : Book → Addition → ℕ
links_after b a = cond (has_link a && ltb b.links 32766) (b.links + 1) b.links

abbrev pub after_addition : Book → Addition → Book
after_addition b a =
    record {
      piece_length = b.piece_length;
      v2 = version_after b a;
      rows =
          b.rows
          ++ (row_for a ∷ filling b.piece_length (version_after b a) (bytes_of b.rows + size_given a));
      links = links_after b a;
    }

-- 'Trim: the last nonempty row goes if marked': the row after which all are empty
abbrev pub trimmed_rows : List Row → List Row
trimmed_rows [] = []
trimmed_rows (r ∷ rs) =
    cond (eqb (bytes_of rs) 0) (cond (ltb 0 r.size && r.marked) rs (r ∷ rs)) (r ∷ trimmed_rows rs)

abbrev pub after_trim : Book → Book
after_trim b = record { piece_length = b.piece_length; v2 = b.v2; rows = trimmed_rows b.rows; links = b.links }

-- 'Refused call, cleaning, rename, import: no change'
abbrev pub entry : Book → Call → Came → Book
entry b c (refused k) = b
entry b (add a) done = after_addition b a
entry b trim done = after_trim b
entry b clean done = b
entry b (rename n) done = b
entry b («import» ns) done = b

-- the book after a list of calls, the latest first
abbrev pub book : ℕ → List Made → Book
book n [] = blank n
book n (m ∷ ms) = entry (book n ms) m.call m.came

-- BEP 52, 'On an untrimmed v2 set': no trim was done
abbrev pub is_trim : Call → Came → Bool
is_trim c (refused k) = false
is_trim (add a) done = false
is_trim trim done = true
is_trim clean done = false
is_trim (rename n) done = false
is_trim («import» ns) done = false

abbrev pub Untrimmed : List Made → Type 0
Untrimmed [] = Unit {0}
Untrimmed (m ∷ ms) = (is_trim m.call m.came ≡ false) × Untrimmed ms
