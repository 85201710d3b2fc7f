-- The rows with their times (specs/Times.antt) are the book's rows, after every list of calls; it relies on the definitions alone.
--     rows-trimmed     a trim takes the same row from both
--     rows-timed       the rows are the book's
use Prim.Native.Nat.{ℕ, ◌+◌}
use mathlib.Core.Path.{◌≡◌, refl, ap, ap₂, ◌∙◌}
use mathlib.Core.Bool.{Bool, true, false, cond, ◌&&◌}
use mathlib.Core.List.{List, [], ◌∷◌, ◌++◌, map, map-append}
use lib.Dec.{eqb, ltb}
use Rattle.book.specs.Book.{Call, add, trim, clean, rename, «import», Came, done, refused, Made, Row, Book, bytes_of, size_given, version_after, row_for, filling, trimmed_rows, entry, book}
use Rattle.book.specs.Times.{Timed, rows_in, timed_for, untimed, trimmed_timed, timed_after, timed_rows}

pub rows-trimmed : (ts : List Timed) → rows_in (trimmed_timed ts) ≡ trimmed_rows (rows_in ts)
rows-trimmed [] = refl
rows-trimmed (t ∷ ts) =
    at (rows-trimmed ts) (eqb (bytes_of (rows_in ts)) 0) (ltb 0 t.row.size && t.row.marked)
  where
    at : rows_in (trimmed_timed ts) ≡ trimmed_rows (rows_in ts) → (b g : Bool)
        → rows_in (cond b (cond g ts (t ∷ ts)) (t ∷ trimmed_timed ts)) ≡ cond b (cond g (rows_in ts) (t.row ∷ rows_in ts)) (t.row ∷ trimmed_rows (rows_in ts))
    at e true true = refl
    at e true false = refl
    at e false g = ap (λ (l : List Row). t.row ∷ l) e

untimed-rows : (rs : List Row) → rows_in (map untimed rs) ≡ rs
untimed-rows [] = refl
untimed-rows (r ∷ rs) = ap (λ (l : List Row). r ∷ l) (untimed-rows rs)

rows-after : (b : Book) (ts : List Timed) → rows_in ts ≡ b.rows → (c : Call) (o : Came) → rows_in (timed_after b ts c o) ≡ (entry b c o).rows
rows-after b ts e c (refused k) = e
rows-after b ts e (add a) done =
    let more = filling b.piece_length (version_after b a) (bytes_of b.rows + size_given a) in
    map-append (λ (t : Timed). t.row) ts (timed_for a ∷ map untimed more)
    ∙ ap₂ (λ (l k : List Row). l ++ (row_for a ∷ k)) e (untimed-rows more)
rows-after b ts e trim done = rows-trimmed ts ∙ ap trimmed_rows e
rows-after b ts e clean done = e
rows-after b ts e (rename x) done = e
rows-after b ts e («import» xs) done = e

pub rows-timed : (n : ℕ) (made : List Made) → rows_in (timed_rows n made) ≡ (book n made).rows
rows-timed n [] = refl
rows-timed n (m ∷ ms) = rows-after (book n ms) (timed_rows n ms) (rows-timed n ms) m.call m.came
