-- Document 01, 'Refusals, by place': what a call is refused by, over the book alone. 10 is for room, which the book
-- does not know: it stands last, so a call that no row before it refuses is done or refused by 10. Of the port it
-- relies on the records of the calls' arguments, on the rules in order of `rules` and on the splits of `path`.
--
-- Names from elsewhere: `when t k` is the row of the table that refuses by k where t holds; `first_of` is the number of
-- the first row that holds, 0 where none does. Of a path, `rsplit_leaf` is its `filename`, `has_parent_path` that it
-- has a parent, and `is_complete` that it starts with a separator, as an absolute one does (path, specs/Split.antt).
-- `any` tests that some element passes.
use Rattle.std.specs.Prelude.{ℕ, zero, suc, ◌+◌, ◌≡◌, ◌⊎◌, Bool, true, false, not, ◌&&◌, ◌||◌, List, [], ◌∷◌, ltb, leb}
use Rattle.std.specs.Prelude.{ℤ, pos, negsuc, length, Option, Some, None}
use Rattle.lists.specs.Lists.{any}
use Rattle.path.specs.Split.{rsplit_leaf, is_complete, has_parent_path}
use Rattle.rules.specs.Rules.{Rule, when, first_of}
use Rattle.additions.specs.Addition.{Addition}
use Rattle.imports.specs.Imports.{Naming}
use Rattle.book.specs.Book.{Call, add, trim, clean, rename, «import», Came, done, refused, Made, Book, book}
use Rattle.book.specs.Book.{bytes_of, size_given, has_given_root, is_plain, is_left_open, version_after, filling}

-- ---- adding

abbrev pub is_negative : ℤ → Bool
is_negative (pos n) = false
is_negative (negsuc n) = true

-- the total after the file, and after the pad behind it
abbrev pub bytes_with : Book → Addition → ℕ
bytes_with b a = bytes_of b.rows + size_given a

abbrev pub bytes_padded : Book → Addition → ℕ
bytes_padded b a = bytes_with b a + bytes_of (filling b.piece_length (version_after b a) (bytes_with b a))

-- 'given name, or with none the path's `filename`'
abbrev pub name_tested : Option (List ℕ) → List ℕ → List ℕ
name_tested None path = rsplit_leaf path
name_tested (Some name) path = name

-- 'given name starts with a separator, or is nonempty with an absolute path'
abbrev pub bad_name : Option (List ℕ) → List ℕ → Bool
bad_name None path = false
bad_name (Some name) path = is_complete name || (ltb 0 (length name) && is_complete path)

-- 'A file of size above 0 without link text fixes v2 or v1 …; later ones must agree'
abbrev pub must_agree : Book → Addition → Bool
must_agree b a = is_plain a && not (is_left_open b)

abbrev pub adding_table : Book → Addition → List Rule
adding_table b a =
    when (is_negative a.size) 2 ∷
    when (ltb 281474976710655 (size_given a)) 3 ∷
    when (ltb 281474976710655 (bytes_with b a)) 4 ∷
    when (leb 4096 (length (name_tested a.given a.path))) 5 ∷
    when (bad_name a.given a.path) 6 ∷
    -- 'no parent in the path, and the set has a file'
    when (not (has_parent_path a.path) && ltb 0 (length b.rows)) 7 ∷
    -- 'no root in a v2 set; a root in a v1 set'
    when (must_agree b a && (b.v2 && not (has_given_root a))) 8 ∷
    when (must_agree b a && (not b.v2 && has_given_root a)) 9 ∷
    -- 'padding passes the same limit'
    when (ltb 281474976710655 (bytes_padded b a)) 4 ∷
    []

-- ---- renames and imports

-- whether the book has a row of that number
abbrev pub has_row : Book → ℤ → Bool
has_row b (pos k) = ltb k (length b.rows)
has_row b (negsuc k) = false

-- 'no such file, also in a rename'
abbrev pub renaming_table : Book → Naming → List Rule
renaming_table b x = when (not (has_row b x.file)) 11 ∷ []

-- 'a number below 0 in it is 11 for the whole list'
abbrev pub importing_table : List Naming → List Rule
importing_table xs = when (any (λ (x : Naming). is_negative x.file) xs) 11 ∷ []

-- ---- every call

-- the rows before 10 for a call; none is for a trim or a cleaning
abbrev pub table_for : Book → Call → List Rule
table_for b (add a) = adding_table b a
table_for b trim = []
table_for b clean = []
table_for b (rename x) = renaming_table b x
table_for b («import» xs) = importing_table xs

-- an outcome, by the number of the first row that holds
abbrev pub Says : ℕ → Came → Type 0
Says zero o = (o ≡ done) ⊎ (o ≡ refused 10)
Says (suc k) o = o ≡ refused (suc k)

-- 'which calls were refused, each as the table of refusals says'
abbrev pub AsTabled : ℕ → List Made → Type 0
AsTabled n [] = Unit {0}
AsTabled n (m ∷ ms) = Says (first_of (table_for (book n ms) m.call)) m.came × AsTabled n ms
