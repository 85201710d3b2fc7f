-- One list of calls in which each kind of call occurs, done and refused (a trim is never refused), on a set that keeps the
-- first file of each piece: a file of v2 finds no place in that table, then in a longer one it leaves a pad, a link is
-- cleaned and the trim takes the pad. What comes of each call is computed, and so are the book's rows and their times
-- before and after the trim. It relies on Runs.antt.
use Rattle.std.specs.Prelude.{Some, None}
use mathlib.Core.Path.{◌≡◌, refl}
use mathlib.Core.Bool.{Bool, true, false}
use mathlib.Core.List.{List, [], ◌∷◌, ◌++◌}
use Prim.Native.Nat.{ℕ, ◌+◌}
use native.Mathlib.Omega.{arith}
use lib.IntN.{ℤ, pos, negsuc}
use lib.ListN.{replicate}
use Rattle.lists.specs.Decimal.{digits_within}
use Rattle.tables.specs.declared.storage.FileStorage.{FileStorage}
use Rattle.tables.specs.Rows.{packed, filled}
use Rattle.tables.specs.Model.{Store, store_of, tabled}
use Rattle.additions.specs.Addition.{Addition}
use Rattle.storage.specs.Opening.{new_storage}
use Rattle.plan.specs.Write.{directory_index_from}
use Rattle.links.specs.Clean.{step, walk}
use Rattle.renames.specs.Renames.{renames_from, ordered_from, placed_from}
use Rattle.imports.specs.Imports.{Naming}
use Rattle.book.specs.Book.{Came, done, refused, Made, book}
use Rattle.book.specs.Times.{times_in, timed_rows}
use Rattle.book.specs.Calls.{SameSet, Renames, no_entries, Leads}
use Rattle.book.specs.Calls as calls
use Rattle.book.proofs.Lent.{names-self}
use Rattle.book.proofs.Runs.{Known, adding, trimming, cleaning, renaming, importing, answer_of, entered, stepped, opens}

-- ---- the tables, with places for 3 files, 1 piece, 2 directories and 15 bytes of text

-- the record of a v2 set with the file s/f of 10000 bytes, the name s and the directories of f and of pads
abbrev storage : ℕ → ℕ → ℕ → ℕ → Bool → FileStorage
storage files links used total trimmed =
    record {
      piece_length = 16384;
      v2 = true;
      num_files = files;
      num_paths = 2;
      num_symlinks = links;
      name = record { at = 0; len = 1 };
      text_len = used;
      total_size = total;
      size_on_disk = 10000;
      trimmed = trimmed;
      indexed = true;
    }

-- the file's root; the places of other roots are empty
abbrev root : List ℕ
root = replicate 32 1

abbrev tables : FileStorage → List ℕ → List ℕ → Store
tables fs rows text = store_of fs rows (root ++ replicate 64 0) (0 ∷ []) (1 ∷ 0 ∷ 2 ∷ 4 ∷ []) text

-- newly opened, with these first files: with no place for any, and with one place, which holds no file's number
abbrev newly : List ℕ → Store
newly firsts = store_of (new_storage 16384 true) (replicate 24 0) (replicate 96 0) firsts (replicate 4 0) (replicate 15 0)

abbrev bare : Store
bare = newly []

abbrev start : Store
start = newly (65535 ∷ [])

-- the rows of the file, of its pad, and of a link whose name of one byte begins at `at` and its text after that; the file
-- has the time 5, the link −3
abbrev file_row : List ℕ
file_row = 0 ∷ packed 10000 128 ∷ 1 ∷ 1 ∷ 2 ∷ 0 ∷ 0 ∷ 10 ∷ []

abbrev row_of_pad : List ℕ
row_of_pad = 10000 ∷ packed 6384 65 ∷ 6 ∷ 4 ∷ 10 ∷ 0 ∷ 1 ∷ 0 ∷ []

abbrev link_row : ℕ → ℕ → ℕ → List ℕ
link_row offset at len = offset ∷ packed 0 24 ∷ at ∷ 1 ∷ (at + 1) ∷ len ∷ 0 ∷ 5 ∷ []

-- the texts sf.pad and then `text`
abbrev after_pad : List ℕ → List ℕ
after_pad text = 115 ∷ 102 ∷ 46 ∷ 112 ∷ 97 ∷ 100 ∷ text

-- with the file and the pad after it: sf.pad6384
abbrev one : Store
one =
    tables (storage 2 0 10 16384 false) (file_row ++ (row_of_pad ++ replicate 8 0)) (after_pad (54 ∷ 51 ∷ 56 ∷ 52 ∷ replicate 5 0))

-- with the link s/n to /etc: sf.pad6384n/etc
abbrev two : Store
two =
    tables (storage 3 1 15 16384 false) (file_row ++ (row_of_pad ++ link_row 16384 10 4))
    (after_pad (54 ∷ 51 ∷ 56 ∷ 52 ∷ 110 ∷ 47 ∷ 101 ∷ 116 ∷ 99 ∷ []))

-- and cleaned, so that the link holds its own path: sf.pad6384nn
abbrev three : Store
three =
    tables (storage 3 1 12 16384 false) (file_row ++ (row_of_pad ++ link_row 16384 10 1))
    (after_pad (54 ∷ 51 ∷ 56 ∷ 52 ∷ 110 ∷ 110 ∷ 101 ∷ 116 ∷ 99 ∷ []))

-- and trimmed, so that the pad is gone: sf.padnn; what stands after the used part is left over
abbrev four : Store
four =
    tables (storage 2 1 8 10000 true) (file_row ++ (link_row 10000 6 1 ++ link_row 16384 10 1))
    (after_pad (110 ∷ 110 ∷ 56 ∷ 52 ∷ 110 ∷ 110 ∷ 101 ∷ 116 ∷ 99 ∷ []))

-- ---- the calls

abbrev file : ℤ → Addition
file size =
    record {
      given = None;
      path = 115 ∷ 47 ∷ 102 ∷ [];
      size = size;
      flags = 0;
      time = pos 5;
      link = [];
      root = Some root;
    }

abbrev link : Addition
link =
    record {
      given = None;
      path = 115 ∷ 47 ∷ 110 ∷ [];
      size = pos 0;
      flags = 8;
      time = negsuc 2;
      link = 47 ∷ 101 ∷ 116 ∷ 99 ∷ [];
      root = None;
    }

-- no renames, in tables with a place for one of 2 bytes, and one: the name u for file 0, by a rename or an import
abbrev unnamed : Renames
unnamed = record { rf = no_entries; entries = replicate 4 0; text = replicate 2 0 }

abbrev named : Renames
named = record { rf = record { num_renames = 1; text_len = 1 }; entries = 0 ∷ 0 ∷ 1 ∷ 0 ∷ []; text = 117 ∷ 0 ∷ [] }

abbrev to : ℤ → Naming
to z = record { file = z; name = 117 ∷ [] }

-- the work space of one link whose text has 4 bytes
abbrev cleans : Known
cleans = cleaning (replicate 1 0) (replicate 6 0) (replicate 12 0)

-- ---- what comes of each

abbrev Comes : Store → Renames → Known → Came → Store → Renames → Type 0
Comes s r k o t q = answer_of s r k ≡ record { came = o; store = t; names = q }

-- the piece has no place
file-full : Comes bare unnamed (adding (file (pos 10000))) (refused 10) bare unnamed
unfolding tabled filled directory_index_from digits_within
file-full = refl

-- the longer table is lent
lent_longer : SameSet bare start
lent_longer = record { fs = refl; rows = refl; roots = refl; firsts = refl; dirs = refl; text = refl }

-- the piece begins in file 0
file-added : Comes start unnamed (adding (file (pos 10000))) done one unnamed
unfolding tabled filled directory_index_from digits_within
file-added = refl

file-refused : Comes one unnamed (adding (file (negsuc 0))) (refused 2) one unnamed
unfolding tabled filled directory_index_from
file-refused = refl

link-added : Comes one unnamed (adding link) done two unnamed
unfolding tabled filled directory_index_from
link-added = refl

clean-refused : Comes two unnamed (cleaning [] [] []) (refused 10) two unnamed
unfolding tabled filled
clean-refused = refl

clean-done : Comes two unnamed cleans done three unnamed
unfolding tabled filled step walk
clean-done = refl

rename-done : Comes three unnamed (renaming (to (pos 0))) done three named
unfolding renames_from ordered_from placed_from
rename-done = refl

rename-refused : Comes three named (renaming (to (pos 9))) (refused 11) three named
unfolding renames_from ordered_from placed_from
rename-refused = refl

-- a second entry has no place
rename-full : Comes three named (renaming (to (pos 1))) (refused 10) three named
unfolding renames_from ordered_from placed_from
rename-full = refl

import-done : Comes three named (importing (to (pos 0) ∷ to (pos 9) ∷ [])) done three named
unfolding renames_from ordered_from placed_from
import-done = refl

import-refused : Comes three named (importing (to (negsuc 0) ∷ [])) (refused 11) three named
unfolding renames_from ordered_from placed_from
import-refused = refl

trim-done : Comes three named trimming done four named
unfolding tabled filled
trim-done = refl

-- ---- all of them, the latest first

abbrev before : List Made
before =
    entered (importing (to (negsuc 0) ∷ [])) (refused 11) ∷
    entered (importing (to (pos 0) ∷ to (pos 9) ∷ [])) done ∷
    entered (renaming (to (pos 1))) (refused 10) ∷
    entered (renaming (to (pos 9))) (refused 11) ∷
    entered (renaming (to (pos 0))) done ∷
    entered cleans done ∷
    entered (cleaning [] [] []) (refused 10) ∷
    entered (adding link) done ∷
    entered (adding (file (negsuc 0))) (refused 2) ∷
    entered (adding (file (pos 10000))) done ∷
    entered (adding (file (pos 10000))) (refused 10) ∷
    []

abbrev made : List Made
made = entered trimming done ∷ before

pub each-kind : Leads 16384 made four named
each-kind =
    stepped trimming (
    stepped (importing (to (negsuc 0) ∷ [])) (
    stepped (importing (to (pos 0) ∷ to (pos 9) ∷ [])) (
    stepped (renaming (to (pos 1))) (
    stepped (renaming (to (pos 9))) (
    stepped (renaming (to (pos 0))) (
    stepped cleans (
    stepped (cleaning [] [] []) (
    stepped (adding link) (
    stepped (adding (file (negsuc 0))) (
    stepped (adding (file (pos 10000))) (
    calls.lending (
    stepped (adding (file (pos 10000))) (calls.opening {s = bare} {r = unnamed} true (omega arith) (opens 16384 true (omega arith)) refl)
    file-full) lent_longer (names-self unnamed)) file-added) file-refused) link-added) clean-refused) clean-done) rename-done) rename-refused) rename-full) import-done) import-refused) trim-done

-- the book has the file, the row that fills up the piece and the link, and the trim takes the filling
pub rows_before : (book 16384 before).rows ≡ record { size = 10000; marked = false } ∷ record { size = 6384; marked = true } ∷ record { size = 0; marked = false } ∷ []
rows_before = refl

pub rows-after : (book 16384 made).rows ≡ record { size = 10000; marked = false } ∷ record { size = 0; marked = false } ∷ []
rows-after = refl

-- the link, an empty file behind the pad, keeps its time when the pad goes
pub times-before : times_in (timed_rows 16384 before) ≡ pos 5 ∷ pos 0 ∷ negsuc 2 ∷ []
times-before = refl

pub times-after : times_in (timed_rows 16384 made) ≡ pos 5 ∷ negsuc 2 ∷ []
times-after = refl
