-- Document 02 (vi): what `mtime` answers after every list of calls, the time given at addition. Relies on the book's agreement with
-- the set (book, proofs/Agree.antt, `times-given`).
--     mtime-given     of each row of the book its time
--     mtime-none      11 past the last row
use Prim.Native.Nat.{ℕ, ◌≤◌, ◌<◌}
use mathlib.Core.Path.{◌≡◌, sym, ap, ◌∙◌}
use mathlib.Core.Bool.{◌&&◌}
use mathlib.Core.List.{List, [], ◌∷◌}
use native.Mathlib.Omega.{arith}
use lib.IntN.{ℤ, pos}
use lib.ListN.{length, get_or, length-map}
use borrow.Author.Tests.{le-ltb}
use Rattle.types.specs.Refusals.{value, refused}
use Rattle.tables.specs.Model.{File, Store, file_of}
use Rattle.tables.proofs.Tabled.{get_or-tabled}
use Rattle.sound.proofs.Files.{map-tabled}
use Rattle.rules.specs.Questions.{rows_are_held, bad_piece_length, no_file, short, few_entries}
use Rattle.answers.specs.Answers.{time_of}
use Rattle.answers.specs.Given.{mtime_given}
use Rattle.book.specs.Book.{Made, Row, sizes_of, book}
use Rattle.book.specs.Times.{Timed, times_in, timed_rows}
use Rattle.book.specs.Calls.{Renames, Leads}
use Rattle.book.proofs.Timed.{rows-timed}
use Rattle.book.proofs.Agree.{times-given}
use Rattle.book.proofs.Demand.{is_open, all_held, file-there}
use Rattle.book.proofs.Theorem.{holds}
use Rattle.meaning.proofs.Tables.{given}

module _ {n : ℕ} {made : List Made} {s : Store} {r : Renames} (l : Leads n made s r) where
  -- as many times as files
  count : s.fs.num_files ≡ length (timed_rows n made)
  count =
      (holds l).count
      ∙ length-map (book n made).rows (λ (x : Row). x.size)
      ∙ ap length (sym (rows-timed n made))
      ∙ length-map (timed_rows n made) (λ (t : Timed). t.row)

  long : length (sizes_of (book n made).rows) ≡ length (timed_rows n made)
  long = sym (holds l).count ∙ count

  -- the time of row k of the book
  abbrev pub time_given : ℕ → ℤ
  time_given k = get_or (times_in (timed_rows n made)) k (pos 0)

  time-is : (k : ℕ) → k < s.fs.num_files → time_of s.rows k ≡ time_given k
  time-is k h =
      sym
      (ap (λ (ts : List ℤ). get_or ts k (pos 0)) (sym (times-given l) ∙ map-tabled (λ (f : File). f.time) s.fs.num_files (file_of s))
      ∙ get_or-tabled s.fs.num_files (λ j. (file_of s j).time) k (pos 0) h)

  pub mtime-given : (k : ℕ) → k < length (timed_rows n made) → mtime_given s.fs s.rows (pos k) ≡ value (time_given k)
  mtime-given k h =
      given (bad_piece_length s.fs ∷ no_file s.fs (pos k) ∷ short (rows_are_held s.fs s.rows && few_entries s.fs) ∷ [])
      (is_open (holds l), (file-there (holds l) k (omega (arith, long)), (all_held (holds l), tt)))
      (time_of s.rows k)
      ∙ ap value (time-is k (omega (arith, count)))

  pub mtime-none : (k : ℕ) → length (timed_rows n made) ≤ k → mtime_given s.fs s.rows (pos k) ≡ refused 11
  mtime-none k h =
      let e : s.fs.num_files ≤ k = omega (arith, count) in
      rw (is_open (holds l), le-ltb k s.fs.num_files e)
