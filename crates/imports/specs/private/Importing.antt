-- How `import_filenames` is decided: the renames that the list does not name are kept, and of each number's names the
-- last is given to them. Merging.antt says how they come together. It relies on Imports.antt for what is due.
use Rattle.std.specs.Prelude.{ℕ, zero, suc, ◌+◌, ◌*◌, ◌/◌, Bool, false, cond, not, ◌&&◌, ◌||◌, ◌≡◌, List, [], ◌∷◌, eqb}
use Rattle.std.specs.Prelude.{ltb, ℤ, length, get_or, take, drop}
use Rattle.types.specs.Refusals.{Outcome}
use Rattle.lists.specs.Lists.{any}
use Rattle.tables.specs.declared.storage.FileStorage.{FileStorage}
use Rattle.rules.specs.Rules.{when, first_of, outcome_of}
use Rattle.rules.specs.Bounds.{is_negative, clamped_of, is_below}
use Rattle.rules.specs.Questions.{bad_piece_length, short}
use Rattle.renames.specs.declared.rename.RenamedFiles.{RenamedFiles}
use Rattle.renames.specs.Renames.{Renamed, with_rename}
use Rattle.renames.specs.Renames.{in_order_in}
use Rattle.imports.specs.Imports.{full_path}
use Rattle.imports.specs.declared.counted.Counted.{Counted}

-- ---- the list

-- whether a number is that of file k, one of `files` files
abbrev pub is_of : ℕ → ℕ → ℤ → Bool
is_of files k z = is_below files z && eqb (clamped_of z) k

-- whether one of the numbers is
abbrev pub is_listed : ℕ → List ℤ → ℕ → Bool
is_listed files zs k = any (is_of files k) zs

-- whether the number z counts: it is that of a file, and none of the later numbers zs repeats it
abbrev pub counts : ℕ → ℤ → List ℤ → Bool
counts files z zs = is_below files z && not (is_listed files zs (clamped_of z))

-- the renames that are kept: those of files that are not named
abbrev pub renames_kept : (ℕ → Bool) → List Renamed → List Renamed
renames_kept named [] = []
renames_kept named (r ∷ rs) = cond (named r.file) (renames_kept named rs) (r ∷ renames_kept named rs)

-- the renames that the list gives
abbrev pub renames_given : ℕ → List ℤ → List ℕ → List ℕ → List Renamed
renames_given files [] lengths t = []
renames_given files (z ∷ zs) lengths t =
    cond (counts files z zs)
    (full_path (record { file = z; name = take (get_or lengths 0 0) t }) ∷
    renames_given files zs (drop 1 lengths) (drop (get_or lengths 0 0) t))
    (renames_given files zs (drop 1 lengths) (drop (get_or lengths 0 0) t))

-- renames put to others, one after the other
abbrev pub with_all : List Renamed → List Renamed → List Renamed
with_all [] rs = rs
with_all (r ∷ xs) rs = with_all xs (with_rename r rs)

-- none of the renames is of a file that the list names
abbrev pub Fresh : ℕ → List ℤ → List Renamed → Type 0
Fresh files zs [] = Unit
Fresh files zs (r ∷ rs) = (is_listed files zs r.file ≡ false) × Fresh files zs rs

-- ---- the entries

-- of the n entries from entry i on those that are kept: their number, the bytes of their texts, and their words, the
-- first text beginning at byte `at`
unfoldable pub kept_count : (ℕ → Bool) → ℕ → ℕ → List ℕ → ℕ
kept_count named zero i entries = 0
kept_count named (suc n) i entries = cond (named (get_or entries (i * 4) 0)) 0 1 + kept_count named n (i + 1) entries

unfoldable pub kept_bytes : (ℕ → Bool) → ℕ → ℕ → List ℕ → ℕ
kept_bytes named zero i entries = 0
kept_bytes named (suc n) i entries =
    cond (named (get_or entries (i * 4) 0)) 0 (get_or entries (i * 4 + 2) 0) + kept_bytes named n (i + 1) entries

unfoldable pub kept_words : (ℕ → Bool) → ℕ → ℕ → ℕ → List ℕ → List ℕ
kept_words named zero i at entries = []
kept_words named (suc n) i at entries =
    cond (named (get_or entries (i * 4) 0)) (kept_words named n (i + 1) at entries)
    (get_or entries (i * 4) 0 ∷ get_or entries (i * 4 + 1) 0 ∷ get_or entries (i * 4 + 2) 0 ∷ at ∷
    kept_words named n (i + 1) (at + get_or entries (i * 4 + 2) 0) entries)

-- the record of those that are kept
abbrev pub kept_state : (ℕ → Bool) → RenamedFiles → List ℕ → RenamedFiles
kept_state named rf entries =
    record {
      num_renames = kept_count named rf.num_renames 0 entries;
      text_len = kept_bytes named rf.num_renames 0 entries;
    }

-- ---- the decision; `held` says whether the list is whole and the set has no more files and directories than it may

-- `lacks_room` where the renames that are counted are kept and given
abbrev pub is_full : ℕ → ℕ → Counted → Bool
is_full words room c =
    ltb (words / 4) (c.stay.num_renames + c.come.num_renames)
    || ltb room (c.stay.text_len + c.come.text_len)

-- the records of those that are kept and of those that come
abbrev pub counted_with : FileStorage → RenamedFiles → List ℕ → List ℤ → RenamedFiles → Counted
counted_with fs rf entries zs come = record { stay = kept_state (is_listed fs.num_files zs) rf entries; come = come }

abbrev pub import_number : FileStorage → RenamedFiles → List ℕ → ℕ → List ℤ → Bool → RenamedFiles → ℕ
import_number fs rf entries room zs held come =
    first_of
    (bad_piece_length fs ∷
    when (any is_negative zs) 11 ∷
    short held ∷
    short (in_order_in rf entries room) ∷
    when (is_full (length entries) room (counted_with fs rf entries zs come)) 10 ∷
    [])

-- both records, or the refusal
abbrev pub import_asked : FileStorage → RenamedFiles → List ℕ → ℕ → List ℤ → Bool → RenamedFiles → Outcome Counted
import_asked fs rf entries room zs held come =
    outcome_of (import_number fs rf entries room zs held come) (counted_with fs rf entries zs come)
