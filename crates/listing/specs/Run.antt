-- Document 01, 'The listing': what `setlist` prints for an input. Its lines are read as `listing_input` says and obeyed
-- on the model, by opening as `storage` and adding as `additions` say; the set that results, or the refusal and its
-- line, is printed as `listing_output` says.
use Rattle.std.specs.Prelude.{ℕ, ◌+◌, ◌%◌, cond, List, [], ◌∷◌, eqb, ltb, leb, pos, length, replicate, Option, Some}
use Rattle.std.specs.Prelude.{None}
use Rattle.types.specs.Refusals.{Outcome, value, refused}
use Rattle.tables.specs.Model.{present_if, Model}
use Rattle.additions.specs.Addition.{Addition, added_to}
use Rattle.change.specs.declared.rooms.Rooms.{Rooms}
use Rattle.storage.specs.Opening.{new_model}
use Rattle.listing_input.specs.Form.{FileEntry, lines, piece_length_in, file_in}
use Rattle.listing_output.specs.Output.{Run, listed, stopped, pieces, printed}

-- '13 is tested after the last line and carries that line'
abbrev pub counted : ℕ → Model → Run
counted line m = cond (ltb 2147483647 (pieces m)) (stopped 13 line) (listed m)

-- what was read from line `line`, and the run that follows; 17 where the line is out of form
abbrev pub read_as : {A : Type 0} → Option A → ℕ → (A → Run) → Run
read_as None line next = stopped 17 line
read_as (Some a) line next = next a

-- the set after line `line`, and the run that follows; a refused line ends it
abbrev pub go_on : Outcome Model → ℕ → (Model → Run) → Run
go_on (value m) line next = next m
go_on (refused k) line next = stopped k line

-- the addition that a file line asks for: 'a sum of 1, 2, 4 as above and 16, which gives a root of 32 bytes of value 1'
abbrev pub addition_of : FileEntry → Addition
addition_of e =
    record {
      given = None;
      path = e.path;
      size = pos e.size;
      flags = e.flags % 8;
      time = pos 0;
      link = [];
      root = present_if (leb 16 e.flags) (replicate 32 1);
    }

-- 'The first line that cannot be read ends the run'; lines are obeyed one by one, and `line` is the number of the last
-- one obeyed
unfoldable pub run_from : Rooms → ℕ → Model → List (List ℕ) → Run
run_from rooms line m [] = counted line m
run_from rooms line m (l ∷ ls) =
    read_as (file_in l) (line + 1)
    (λ e. go_on (added_to rooms m (addition_of e)) (line + 1) (λ next. run_from rooms (line + 1) next ls))

-- refusal 1 of opening
abbrev pub opened_as : ℕ → Outcome Model
opened_as n = cond (eqb n 0) (refused 1) (value (new_model n))

-- 'no input is 17 at line 1'
abbrev pub run_lines : Rooms → List (List ℕ) → Run
run_lines rooms [] = stopped 17 1
run_lines rooms (l ∷ ls) = read_as (piece_length_in l) 1 (λ n. go_on (opened_as n) 1 (λ m. run_from rooms 1 m ls))

-- 'input over 65536 bytes (line 0)'
abbrev pub run : Rooms → List ℕ → Run
run rooms input = cond (ltb 65536 (length input)) (stopped 17 0) (run_lines rooms (lines input))

-- 'places for 400 files (pads included), 400 directories and 65536 text bytes'
abbrev pub places : Rooms
places = record { files = 400; directories = 400; text = 65536 }

abbrev pub listing : List ℕ → List ℕ
listing input = printed (run places input)
