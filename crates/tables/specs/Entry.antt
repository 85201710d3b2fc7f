-- Document 01, 'The set': a file's record, its row beside its root and the root's presence. It relies on Rows.antt.
use Rattle.std.specs.Prelude.{ℕ, Bool, true, false, List}
use Rattle.tables.specs.declared.rows.Presence.{Presence}
use Rattle.tables.specs.declared.rows.Presence.TheVariants.{Absent, Present}
use Rattle.tables.specs.declared.rows.FileEntry.{FileEntry}
use Rattle.tables.specs.Rows.{row_at, put_row, root_at, put_root, has, root_bit}

abbrev pub presence_if : Bool → Presence
presence_if true = Present
presence_if false = Absent

abbrev pub is_here : Presence → Bool
is_here Absent = false
is_here Present = true

-- file i
abbrev pub entry_at : List ℕ → List ℕ → ℕ → FileEntry
entry_at rows roots i =
    record {
      row = row_at rows i;
      presence = presence_if (has (row_at rows i).flags root_bit);
      root = record { bytes = root_at roots i };
    }

-- a root written where it is present; without one the roots stay as they are
abbrev pub root_if : Presence → List ℕ → ℕ → List ℕ → List ℕ
root_if Present roots i root = put_root roots i root
root_if Absent roots i root = roots

-- what the two tables hold once file i is written: the rows its row, the roots its root where it has one
abbrev pub rows_with : List ℕ → ℕ → FileEntry → List ℕ
rows_with rows i file = put_row rows i file.row

abbrev pub roots_with : List ℕ → ℕ → FileEntry → List ℕ
roots_with roots i file = root_if file.presence roots i file.root.bytes
