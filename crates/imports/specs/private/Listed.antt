-- A list of names as it is merged: which files it names, and what they get. It relies on the notes of Merging.antt.
use Rattle.std.specs.Prelude.{ℕ, Bool, List, length}
use Rattle.renames.specs.Renames.{Renamed}
use Rattle.imports.specs.declared.merge.NotedList.{NotedList}
use Rattle.imports.specs.private.Merging.{is_noted, given_at, merged_from}

abbrev pub named_in : NotedList → ℕ → Bool
named_in list = is_noted list.notes.now

abbrev pub given_in : NotedList → ℕ → Renamed
given_in list = given_at list.notes.now list.places.now list.lent.lengths.now list.lent.names.now

-- the renames rs that are kept, and the names that the list gives
abbrev pub merged_with : NotedList → List Renamed → List Renamed
merged_with list rs = merged_from (named_in list) (given_in list) (length list.notes.now) 0 rs
