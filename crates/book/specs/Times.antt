-- Document 02 (vi): 'The time becomes part of the file's record and moves when the record moves. … the yardstick is the
-- time given at addition.' The time of each row of the book, by the same calls. Nothing here speaks of the port's
-- tables or of its model; it relies on the book of Book.antt.
--
-- Names from elsewhere: `cond t a b` is a where t is true, else b; `eqb` and `ltb` test = and <; `pos 0` is the integer
-- 0.
use Rattle.std.specs.Prelude.{ℕ, ◌+◌, cond, ◌&&◌, List, [], ◌∷◌, ◌++◌, map, eqb, ltb, ℤ, pos}
use Rattle.additions.specs.Addition.{Addition}
use Rattle.book.specs.Book.{Call, add, trim, clean, rename, «import», Came, done, refused, Made, Row, Book}
use Rattle.book.specs.Book.{bytes_of, size_given, version_after, row_for, filling, book}

-- a row of the book, and its time
pub record Timed : Type 0 where
  pub row : Row
  pub time : ℤ

abbrev pub rows_in : List Timed → List Row
rows_in ts = map (λ (t : Timed). t.row) ts

abbrev pub times_in : List Timed → List ℤ
times_in ts = map (λ (t : Timed). t.time) ts

-- the file's row has the time that the addition gave
abbrev pub timed_for : Addition → Timed
timed_for a = record { row = row_for a; time = a.time }

-- a row that fills up a piece was given none: 0
abbrev pub untimed : Row → Timed
untimed r = record { row = r; time = pos 0 }

-- document 01, 'Trim: the last nonempty row goes if marked': its time goes with it, and every other row keeps its own
abbrev pub trimmed_timed : List Timed → List Timed
trimmed_timed [] = []
trimmed_timed (t ∷ ts) =
    cond (eqb (bytes_of (rows_in ts)) 0)
    (cond (ltb 0 t.row.size && t.row.marked) ts (t ∷ ts))
    (t ∷ trimmed_timed ts)

-- the rows with their times after a call on the set of the book b
abbrev pub timed_after : Book → List Timed → Call → Came → List Timed
timed_after b ts c (refused k) = ts
timed_after b ts (add a) done =
    ts
    ++ (timed_for a ∷ map untimed (filling b.piece_length (version_after b a) (bytes_of b.rows + size_given a)))
timed_after b ts trim done = trimmed_timed ts
timed_after b ts clean done = ts
timed_after b ts (rename x) done = ts
timed_after b ts («import» xs) done = ts

-- the rows with their times after a list of calls, the latest first
abbrev pub timed_rows : ℕ → List Made → List Timed
timed_rows n [] = []
timed_rows n (m ∷ ms) = timed_after (book n ms) (timed_rows n ms) m.call m.came
