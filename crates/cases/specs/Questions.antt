-- A set built by additions, and questions to it, some after a cleaning: each answer is what the contract of the
-- function with the question's name promises. It relies on the definitions that those contracts cite.
use Rattle.std.specs.Prelude.{ℕ, Bool, true, false, ◌&&◌, List, [], ◌∷◌, map, eqb, ℤ, pos, negsuc, get_or, replicate}
use Rattle.std.specs.Prelude.{take}
use Rattle.types.specs.Refusals.{Outcome, value, refused}
use Rattle.types.specs.declared.index.FileSlice.{FileSlice}
use Rattle.tables.specs.declared.storage.FileStorage.{FileStorage}
use Rattle.tables.specs.Span.{text_at}
use Rattle.tables.specs.Rows.{row_at, has, link_held_bit}
use Rattle.tables.specs.Model.{Store}
use Rattle.additions.specs.Addition.{Addition}
use Rattle.storage.specs.Opening.{new_storage}
use Rattle.change.specs.Changes.{Changed}
use Rattle.plan.specs.Outcomes.{add_stored}
use Rattle.rules.specs.Questions.{file_answer, link_answer, row_there, rows_are_held, text_held}
use Rattle.lookup.specs.Lookup.{lent}
use Rattle.cleaning.specs.Cleaning.{Cleaned, clean_stored}
use Rattle.rules.specs.Results.{Range, SignedRequest}
use Rattle.files.specs.Given.{file_mapped}
use Rattle.mapping.specs.Table.{Filled, record_of, block_mapped}
use Rattle.layout.specs.Window.{window_for}
use Rattle.layout.specs.Given.{num_pieces_given, piece_size2_given, file_at_offset_given}
use Rattle.files.specs.Given.{exclusive_given, inclusive_given}

-- tables with places for 4 files, 3 first files of pieces, 2 directories and 14 bytes of text, and a table for 4
-- slices: enough for the sets of Cases.antt
abbrev pub new_store : ℕ → Bool → Store
new_store n indexed =
    record {
      fs = new_storage n indexed;
      rows = replicate 32 0;
      roots = replicate 128 0;
      firsts = replicate 3 65535;
      dirs = replicate 4 0;
      text = replicate 14 0;
    }

abbrev pub lent_slices : List FileSlice
lent_slices = replicate 4 (record_of (record { file = 0; offset = 0; size = 0 }))

-- the tables after an addition; a refused one leaves them
abbrev pub kept : Store → Changed → Store
kept s c = by c.says
  where
    by : Outcome FileStorage → Store
    by (value fs) =
        record {
          fs = fs;
          rows = c.rows;
          roots = c.roots;
          firsts = c.firsts;
          dirs = c.dirs;
          text = c.text;
        }
    by (refused k) = s

abbrev pub built : Store → List Addition → Store
built s [] = s
built s (a ∷ rest) = built (kept s (add_stored s a)) rest

-- the tables after a cleaning, with a work space of 3 marks, 14 bytes and twice 14
abbrev pub cleaned : Store → Store
cleaned s =
    by (clean_stored (lent s.fs s.rows s.dirs s.text) (replicate 3 0) (replicate 14 0) (replicate 28 0))
  where
    by : Cleaned → Store
    by c =
        kept s
        (record {
          says = c.says;
          rows = c.rows;
          roots = s.roots;
          firsts = s.firsts;
          dirs = c.dirs;
          text = c.text;
        })

-- the link text of a file
abbrev pub link_in : Store → ℤ → Outcome (List ℕ)
link_in s z =
    link_answer s.fs z (row_there s.rows) (λ k. has (row_at s.rows k).flags link_held_bit)
    (rows_are_held s.fs s.rows && text_held s.fs s.text)
    (λ k. text_at s.text (row_at s.rows k).link)

pub data Question : Type 0 where
  add_file : Addition → Question
  file_offset : ℤ → Question
  num_pieces : Question
  map_block : ℤ → ℤ → ℤ → Question
  file_index_at_offset : ℤ → Question
  map_file : ℤ → ℤ → ℤ → Question
  exclusive : ℤ → Question
  inclusive : ℤ → Question
  piece_size2 : ℤ → Question
  link_after_cleaning : ℤ → Question
  first_file : ℕ → Question

-- an answer as a row of numbers
abbrev pub numbers : {A : Type 0} → (A → List ℤ) → Outcome A → Outcome (List ℤ)
numbers f (value a) = value (f a)
numbers f (refused k) = refused k

abbrev pub one : ℤ → List ℤ
one z = z ∷ []

abbrev pub ends : Range → List ℤ
ends r = r.begin ∷ r.end ∷ []

abbrev pub request : SignedRequest → List ℤ
request r = r.piece ∷ r.start ∷ r.length ∷ []

-- file, offset and size of each record
abbrev pub slice_numbers : List FileSlice → List ℤ
slice_numbers [] = []
slice_numbers (p ∷ ps) = p.file_index.0 ∷ p.offset ∷ p.size ∷ slice_numbers ps

-- the number of slices, and then the numbers of each
abbrev pub slices : Filled → Outcome (List ℤ)
slices r = numbers (λ (n : ℕ). pos n ∷ slice_numbers (take n r.table)) r.says

-- a search begins with the window of the set's table of first files; a set that keeps none searches all files
abbrev pub answer : Store → Question → Outcome (List ℤ)
answer s (add_file a) = numbers (λ (fs : FileStorage). []) (add_stored s a).says
answer s (file_offset z) =
    numbers one (file_answer s.fs z (rows_are_held s.fs s.rows) (λ k. pos (row_at s.rows k).offset))
answer s num_pieces = numbers one (num_pieces_given s.fs)
answer s (map_block p o n) = slices (block_mapped s.fs s.rows (window_for s.fs s.firsts p o) p o n lent_slices)
answer s (file_index_at_offset o) =
    numbers one (file_at_offset_given s.fs s.rows (window_for s.fs s.firsts (pos 0) o) o)
answer s (map_file f o n) = numbers request (file_mapped s.fs s.rows f o n)
answer s (exclusive f) = numbers ends (exclusive_given s.fs s.rows f)
answer s (inclusive f) = numbers ends (inclusive_given s.fs s.rows f)
answer s (piece_size2 p) =
    numbers one (piece_size2_given s.fs s.rows (window_for s.fs s.firsts p (pos 0)) p)
answer s (link_after_cleaning z) = numbers (map pos) (link_in (cleaned s) z)
answer s (first_file p) = value (one (pos (get_or s.firsts p 0)))

-- whether two answers are the same
abbrev pub same_number : ℤ → ℤ → Bool
same_number (pos m) (pos n) = eqb m n
same_number (pos m) (negsuc n) = false
same_number (negsuc m) (pos n) = false
same_number (negsuc m) (negsuc n) = eqb m n

abbrev pub same_numbers : List ℤ → List ℤ → Bool
same_numbers [] [] = true
same_numbers [] (y ∷ ys) = false
same_numbers (x ∷ xs) [] = false
same_numbers (x ∷ xs) (y ∷ ys) = same_number x y && same_numbers xs ys

abbrev pub same_answer : Outcome (List ℤ) → Outcome (List ℤ) → Bool
same_answer (value xs) (value ys) = same_numbers xs ys
same_answer (value xs) (refused k) = false
same_answer (refused k) (value ys) = false
same_answer (refused j) (refused k) = eqb j k
