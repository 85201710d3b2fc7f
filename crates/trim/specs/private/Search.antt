-- The search for the pad that a trim removes, on the file rows. Private: the public definition is `tail_pad` of
-- Trim.antt on what the tables mean, and proofs/Trims.antt ties this to it.
use Rattle.std.specs.Prelude.{ℕ, zero, suc, cond, List, eqb, Option, None}
use Rattle.tables.specs.Rows.{row_at, has, pad_bit}
use Rattle.tables.specs.Model.{present_if}

-- the index of the last of the first n rows that is not empty, where that is a pad
unfoldable pub tail_pad_in : List ℕ → ℕ → Option ℕ
tail_pad_in rows zero = None
tail_pad_in rows (suc n) =
    cond (eqb (row_at rows n).size 0) (tail_pad_in rows n) (present_if (has (row_at rows n).flags pad_bit) n)
