-- The decision before a rename, on numbers: the slot of the rename, or the refusal. It relies on the slots of
-- Slots.antt and on the order of Renames.antt.
use Rattle.std.specs.Prelude.{ℕ, ◌+◌, ◌-◌, ◌/◌, Bool, ◌||◌, List, [], ◌∷◌, ltb, ℤ, length}
use Rattle.types.specs.Refusals.{Outcome}
use Rattle.tables.specs.declared.storage.FileStorage.{FileStorage}
use Rattle.rules.specs.Rules.{when, first_of, outcome_of}
use Rattle.rules.specs.Bounds.{clamped_of}
use Rattle.rules.specs.Questions.{bad_piece_length, no_file, short, few_entries}
use Rattle.renames.specs.declared.rename.RenameMode.{RenameMode}
use Rattle.renames.specs.declared.rename.RenamedFiles.{RenamedFiles}
use Rattle.renames.specs.declared.slot.Slot.{Slot}
use Rattle.renames.specs.Renames.{Renamed, renames_of, with_rename, mode_for, in_order_in}
use Rattle.renames.specs.private.Slots.{slot_of}

-- `lacks_room` where a text of `len` bytes comes to slot p
abbrev pub is_short : RenamedFiles → Slot → ℕ → ℕ → ℕ → Bool
is_short rf p words room len =
    ltb (words / 4) (rf.num_renames + 1 - p.same) || ltb room (rf.text_len - p.old + len)

abbrev pub slot_number : FileStorage → RenamedFiles → List ℕ → ℕ → ℤ → ℕ → ℕ
slot_number fs rf entries room z len =
    first_of
    (bad_piece_length fs ∷
    no_file fs z ∷
    short (few_entries fs) ∷
    short (in_order_in rf entries room) ∷
    when (is_short rf (slot_of rf.num_renames (clamped_of z) entries) (length entries) room len) 10 ∷
    [])

abbrev pub slot_given : FileStorage → RenamedFiles → List ℕ → ℕ → ℤ → ℕ → Outcome Slot
slot_given fs rf entries room z len =
    outcome_of (slot_number fs rf entries room z len) (slot_of rf.num_renames (clamped_of z) entries)

-- the rename that `rename_file` gives a file
abbrev pub rename_of : ℕ → List ℕ → Renamed
rename_of file name = record { file = file; mode = mode_for name; name = name }

-- the renames that the tables hold, with that of a file put to them
abbrev pub renames_with : RenamedFiles → List ℕ → List ℕ → ℕ → RenameMode → List ℕ → List Renamed
renames_with rf entries text file mode name =
    with_rename (record { file = file; mode = mode; name = name }) (renames_of rf entries text)
