-- Document 01, `import_filenames`: names for many files at once, as a list of pairs and as the list is lent. It relies
-- on the changes of `renames` and on the sums of `lists`.
use Rattle.std.specs.Prelude.{ℕ, Bool, cond, ◌&&◌, List, [], ◌∷◌, leb, ℤ, length, get_or, take, drop}
use Rattle.lists.specs.Lists.{any, sum}
use Rattle.tables.specs.declared.storage.FileStorage.{FileStorage}
use Rattle.rules.specs.Rules.{when, first_of}
use Rattle.rules.specs.Bounds.{is_negative, clamped_of, is_below}
use Rattle.rules.specs.Questions.{bad_piece_length, short, few_entries}
use Rattle.renames.specs.declared.rename.RenameMode.TheVariants.{FullPath}
use Rattle.renames.specs.declared.rename.RenamedFiles.{RenamedFiles}
use Rattle.renames.specs.Renames.{Renamed, renames_of, in_order, with_rename, lacks_room, RenamesChanged}
use Rattle.renames.specs.Renames.{renames_changed_if}

-- a file's number and its new name
pub record Naming : Type 0 where
  pub file : ℤ
  pub name : List ℕ

-- the list as it is lent: the numbers, the lengths of the names, and the names one after the other
abbrev pub namings : List ℤ → List ℕ → List ℕ → List Naming
namings [] lengths t = []
namings (z ∷ zs) lengths t =
    record { file = z; name = take (get_or lengths 0 0) t } ∷ namings zs (drop 1 lengths) (drop (get_or lengths 0 0) t)

-- it is whole: there is a length for each number, and there are the bytes that these lengths say
abbrev pub list_held : List ℤ → List ℕ → List ℕ → Bool
list_held zs lengths names =
    leb (length zs) (length lengths) && leb (sum (take (length zs) lengths)) (length names)

-- 'keeps FullPath even for absolute names'
abbrev pub full_path : Naming → Renamed
full_path x = record { file = clamped_of x.file; mode = FullPath; name = x.name }

-- 'skips numbers past the end … and of repeats the last counts'
abbrev pub imported : ℕ → List Naming → List Renamed → List Renamed
imported files [] rs = rs
imported files (x ∷ xs) rs = imported files xs (cond (is_below files x.file) (with_rename (full_path x) rs) rs)

-- 'a number below 0 in it is 11 for the whole list'
abbrev pub has_negative : List Naming → Bool
has_negative xs = any (λ (x : Naming). is_negative x.file) xs

-- names for the files of a list of pairs: refusals 1, 11, 10
abbrev pub import_filenames_answer : FileStorage → RenamedFiles → List ℕ → List ℕ → List Naming → RenamesChanged
import_filenames_answer fs rf entries text xs =
    renames_changed_if
    (first_of
    (bad_piece_length fs ∷
    when (has_negative xs) 11 ∷
    short (few_entries fs) ∷
    short (in_order rf entries text) ∷
    when (lacks_room (imported fs.num_files xs (renames_of rf entries text)) entries text) 10 ∷
    []))
    (imported fs.num_files xs (renames_of rf entries text))
    entries
    text

-- `import_filenames`, on the list as it is lent: refusals 1, 11, 10; 'shorter than the result needs' is a list that is
-- not whole, too
abbrev pub import_lent : FileStorage → RenamedFiles → List ℕ → List ℕ → List ℤ → List ℕ → List ℕ → RenamesChanged
import_lent fs rf entries text zs lengths names =
    renames_changed_if
    (first_of
    (bad_piece_length fs ∷
    when (has_negative (namings zs lengths names)) 11 ∷
    short (list_held zs lengths names && few_entries fs) ∷
    short (in_order rf entries text) ∷
    when
    (lacks_room (imported fs.num_files (namings zs lengths names) (renames_of rf entries text)) entries text)
    10 ∷
    []))
    (imported fs.num_files (namings zs lengths names) (renames_of rf entries text))
    entries
    text
