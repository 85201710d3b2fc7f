-- The sets that opening, additions, trims and cleanings lead to, as models: what holds of every model here holds after
-- every run of calls. It relies on what `storage` says of opening, additions and trims and `links` of a cleaning.
use Rattle.std.specs.Prelude.{ℕ, ◌≤◌, ◌≡◌}
use Rattle.types.specs.Refusals.{value}
use Rattle.tables.specs.Model.{Model}
use Rattle.storage.specs.Opening.{max_piece_length, new_model}
use Rattle.additions.specs.Addition.{Addition, added, added_to}
use Rattle.change.specs.declared.rooms.Rooms.{Rooms}
use Rattle.trim.specs.Trim.{trimmed_of}
use Rattle.links.specs.Clean.{cleaned_of}

-- models that the calls lead to; the rooms are those of whatever tables are lent at the call
pub data Reached : Model → Type 1 where
  opened : (n : ℕ) → 1 ≤ n → n ≤ max_piece_length → Reached (new_model n)
  addition : {m : Model} → Reached m → (rooms : Rooms) (a : Addition) → added_to rooms m a ≡ value (added m a)
      → Reached (added m a)
  trim : {m : Model} → Reached m → Reached (trimmed_of m)
  cleaning : {m : Model} → Reached m → Reached (cleaned_of m)
