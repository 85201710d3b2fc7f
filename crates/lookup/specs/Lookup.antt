-- Document 01, 'Links': what stands at a path in a set: a directory, a file, or a flagged link. It relies on the model
-- of a set in `tables` and on the separator of `path`.
use Rattle.std.specs.Prelude.{ℕ, ◌-◌, Bool, true, false, cond, List, [], ◌∷◌, eqb, leb, length, drop, Option, Some}
use Rattle.std.specs.Prelude.{None}
use Rattle.lists.specs.Lists.{equal}
use Rattle.path.specs.Split.{is_separator}
use Rattle.tables.specs.declared.storage.FileStorage.{FileStorage}
use Rattle.tables.specs.Rows.{row_at, has, link_held_bit, symlink_bit}
use Rattle.tables.specs.Model.{Directory, path_in, File, Store, store_of, file_of}
use Rattle.tables.specs.Model.{directory_text, tabled}
use Rattle.lookup.specs.declared.set.Seen.{Seen}
use Rattle.lookup.specs.declared.set.Seen.TheVariants.{Nothing, RegularFile, FlaggedLink}

-- ---- a file

-- a file's directory and name, whether it is a flagged link (flag 8, and a text is held), and its link text
pub record Entry : Type 0 where
  pub directory : Directory
  pub name : List ℕ
  pub flagged : Bool
  pub text : List ℕ

abbrev pub is_held : Option (List ℕ) → Bool
is_held None = false
is_held (Some t) = true

abbrev pub held_text : Option (List ℕ) → List ℕ
held_text None = []
held_text (Some t) = t

abbrev pub entry_of : File → Entry
entry_of f =
    record {
      directory = f.directory;
      name = f.name;
      flagged = cond (has f.flags symlink_bit) (is_held f.link) false;
      text = held_text f.link;
    }

-- its internal path
abbrev pub own_path : Entry → List ℕ
own_path f = path_in f.directory f.name

-- ---- what stands at a path

-- 'A directory is a stored directory or the part of one that stands before any of its separators'
abbrev pub covers : List ℕ → List ℕ → Bool
covers [] [] = true
covers (x ∷ d) [] = is_separator x
covers [] (y ∷ p) = false
covers (x ∷ d) (y ∷ p) = cond (eqb x y) (covers d p) false

abbrev pub is_directory : List (List ℕ) → List ℕ → Bool
is_directory [] p = false
is_directory (d ∷ ds) p = cond (covers d p) true (is_directory ds p)

-- p ends with n
abbrev pub ends_with : List ℕ → List ℕ → Bool
ends_with n p = cond (leb (length n) (length p)) (equal n (drop (length p - length n) p)) false

abbrev pub or_here : Seen → Bool → Bool → Seen
or_here RegularFile here l = RegularFile
or_here FlaggedLink here l = FlaggedLink
or_here Nothing true true = FlaggedLink
or_here Nothing true false = RegularFile
or_here Nothing false l = Nothing

-- 'Of files with one internal path the last counts'
abbrev pub file_at : List Entry → List ℕ → Seen
file_at [] p = Nothing
file_at (f ∷ fs) p = or_here (file_at fs p) (equal (own_path f) p) f.flagged

abbrev pub is_there : Seen → Bool
is_there Nothing = false
is_there RegularFile = true
is_there FlaggedLink = true

-- whether a file or a directory of the set stands at p
abbrev pub known : List Entry → List (List ℕ) → List ℕ → Bool
known files dirs p = cond (is_there (file_at files p)) true (is_directory dirs p)

-- ---- the set that the lent tables hold

-- the flags of a flagged link: flag 8, and a text is held
abbrev pub is_flagged : ℕ → Bool
is_flagged flags = cond (has flags symlink_bit) (has flags link_held_bit) false

-- roots and first files are not looked at
abbrev pub lent : FileStorage → List ℕ → List ℕ → List ℕ → Store
lent fs rows dirs text = store_of fs rows [] [] dirs text

abbrev pub entries_of : Store → List Entry
entries_of s = tabled s.fs.num_files (λ i. entry_of (file_of s i))

abbrev pub directories_of : Store → List (List ℕ)
directories_of s = tabled s.fs.num_paths (directory_text s)

-- the files and the directories that the lent tables hold
abbrev pub files_in : FileStorage → List ℕ → List ℕ → List ℕ → List Entry
files_in fs rows dirs text = entries_of (lent fs rows dirs text)

abbrev pub dirs_in : FileStorage → List ℕ → List ℕ → List ℕ → List (List ℕ)
dirs_in fs rows dirs text = directories_of (lent fs rows dirs text)

-- what a file is that a scan of the rows found, or none
abbrev pub seen_as : List ℕ → Option ℕ → Seen
seen_as rows None = Nothing
seen_as rows (Some i) = cond (is_flagged (row_at rows i).flags) FlaggedLink RegularFile
