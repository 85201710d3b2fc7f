-- The slot of a file's rename in the lent tables, and what a table holds after a part of it is replaced. It relies on
-- Finding.antt for the entry of a file.
use Rattle.std.specs.Prelude.{ℕ, zero, suc, ◌+◌, ◌*◌, cond, List, ◌++◌, get_or, take, drop, set}
use Rattle.std.proofs.lemmas.List.Edits.{sets}
use Rattle.renames.specs.declared.slot.Slot.{Slot}
use Rattle.renames.specs.Finding.{entry_sought, entry_is_named}

-- the bytes that the texts of the n entries from entry i on have together
unfoldable pub bytes_from : ℕ → ℕ → List ℕ → ℕ
bytes_from zero i entries = 0
bytes_from (suc n) i entries = get_or entries (i * 4 + 2) 0 + bytes_from n (i + 1) entries

-- the entries and the bytes of text that the rename of k has already: one and its text's, or none
abbrev pub same_at : ℕ → ℕ → ℕ → List ℕ → ℕ
same_at n k i entries = cond (entry_is_named n k i entries) 1 0

abbrev pub old_at : ℕ → ℕ → ℕ → List ℕ → ℕ
old_at n k i entries = cond (entry_is_named n k i entries) (get_or entries (i * 4 + 2) 0) 0

abbrev pub slot_at : ℕ → ℕ → ℕ → List ℕ → Slot
slot_at n k i entries =
    record { entry = i; same = same_at n k i entries; at = bytes_from i 0 entries; old = old_at n k i entries }

-- the slot of file k among n entries
abbrev pub slot_of : ℕ → ℕ → List ℕ → Slot
slot_of n k entries = slot_at n k (entry_sought n k entries) entries

-- the table after the texts of the n entries from entry i on are said to begin one where the other ends, the first at
-- byte `at`
unfoldable pub with_places : ℕ → ℕ → ℕ → List ℕ → List ℕ
with_places zero i at entries = entries
with_places (suc n) i at entries =
    with_places n (i + 1) (at + get_or entries (i * 4 + 2) 0) (set entries (i * 4 + 3) at)

-- a table whose first `used` cells are in use, after the `old` cells from `at` on give way to new ones
abbrev pub spliced : {A : Type 0} → List A → ℕ → ℕ → ℕ → List A → List A
spliced l used at old new = sets l at (new ++ drop (at + old) (take used l))
