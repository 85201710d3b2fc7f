-- A rename read back, from tables of any content: that of a file, which is found by halves, and rename i. It relies on
-- the renames of Renames.antt and on the entries' four words as it reads them.
use Rattle.std.specs.Prelude.{ℕ, zero, suc, ◌+◌, ◌-◌, ◌*◌, ◌/◌, ◌%◌, ◌^◌, Bool, cond, ◌&&◌, List, [], ◌∷◌, eqb, ltb}
use Rattle.std.specs.Prelude.{leb, pos, get_or, length, Option, Some, None}
use Rattle.types.specs.Refusals.{Outcome}
use Rattle.rules.specs.Rules.{when, first_of, outcome_of}
use Rattle.rules.specs.Questions.{short}
use Rattle.renames.specs.declared.rename.Rename.{Rename}
use Rattle.renames.specs.declared.rename.RenamedFiles.{RenamedFiles}
use Rattle.renames.specs.Renames.{Renamed, mode_of, renames_held}

-- ---- the entries

-- the entry at which the search for number k ends, among the n entries from entry i on: it goes on behind the middle
-- one where that one's number is below k, else before it; n turns are enough. Where the numbers ascend it is the first
-- entry whose number is k or above
unfoldable pub sought_from : ℕ → ℕ → ℕ → ℕ → List ℕ → ℕ
sought_from zero n i k entries = i
sought_from (suc turns) n i k entries =
    cond (eqb n 0) i
    (cond (ltb (get_or entries ((i + n / 2) * 4) 0) k)
    (sought_from turns (n - (n / 2 + 1)) (i + n / 2 + 1) k entries)
    (sought_from turns (n / 2) i k entries))

abbrev pub entry_sought : ℕ → ℕ → List ℕ → ℕ
entry_sought n k entries = sought_from n n 0 k entries

-- whether entry i is one of n, and has the number k
abbrev pub entry_is_named : ℕ → ℕ → ℕ → List ℕ → Bool
entry_is_named n k i entries = ltb i n && eqb (get_or entries (i * 4) 0) k

-- entry i as a rename
abbrev pub rename_in : List ℕ → ℕ → Rename
rename_in entries i =
    record {
      file_index = record { 0 = pos (get_or entries (i * 4) 0 % 2 ^ 31) };
      mode = mode_of (get_or entries (i * 4 + 1) 0);
      name = record { at = get_or entries (i * 4 + 3) 0; len = get_or entries (i * 4 + 2) 0 };
    }

-- the rename of file k in the list of renames, where there is one
abbrev pub rename_for : ℕ → List Renamed → Option Renamed
rename_for k [] = None
rename_for k (r ∷ rs) = cond (eqb r.file k) (Some r) (rename_for k rs)

-- and in the tables; on tables in order it is the same one (law `renamed-found`)
abbrev pub rename_found : RenamedFiles → List ℕ → ℕ → Option Rename
rename_found rf entries k =
    cond (entry_is_named rf.num_renames k (entry_sought rf.num_renames k entries) entries)
    (Some (rename_in entries (entry_sought rf.num_renames k entries)))
    None

-- `find_rename`: refusal 10, the text area being of `room` bytes
abbrev pub find_given : RenamedFiles → List ℕ → ℕ → ℕ → Outcome (Option Rename)
find_given rf entries room k =
    outcome_of (first_of (short (renames_held rf entries room) ∷ [])) (rename_found rf entries k)

-- `export_filenames`, one rename at a time, ascending: rename i, 11 where there is none
abbrev pub exported : RenamedFiles → List ℕ → List ℕ → ℕ → Outcome Rename
exported rf entries names i =
    outcome_of (first_of (when (leb rf.num_renames i) 11 ∷ short (renames_held rf entries (length names)) ∷ []))
    (rename_in entries i)
