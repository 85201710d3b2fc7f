-- Document 01, 'Names': 'a rename entry holds its file number and one of three modes'. A set's renames are a list,
-- ascending by file number, each number once. In the lent tables an entry is four words: number, mode, length of the
-- text, and where it begins in the text area; the texts stand there in the entries' order, one after the other. It
-- relies on the rules in order of `rules`.
use Rattle.std.specs.Prelude.{ℕ, zero, suc, ◌+◌, ◌-◌, ◌*◌, ◌/◌, Bool, true, cond, ◌&&◌, ◌||◌, List, [], ◌∷◌, ◌++◌, eqb}
use Rattle.std.specs.Prelude.{ltb, leb, ℤ, length, get_or, take, drop}
use Rattle.std.proofs.lemmas.List.Edits.{sets}
use Rattle.types.specs.Refusals.{Outcome, value, refused}
use Rattle.path.specs.Split.{is_complete}
use Rattle.tables.specs.declared.storage.FileStorage.{FileStorage}
use Rattle.rules.specs.Rules.{when, first_of}
use Rattle.rules.specs.Bounds.{clamped_of}
use Rattle.rules.specs.Questions.{bad_piece_length, no_file, short, few_entries}
use Rattle.renames.specs.declared.rename.RenameMode.{RenameMode}
use Rattle.renames.specs.declared.rename.RenameMode.TheVariants.{FullPath, NoRootPath, AbsolutePath}
use Rattle.renames.specs.declared.rename.RenamedFiles.{RenamedFiles}

-- a file's number, how its text is to be read, and the text
pub record Renamed : Type 0 where
  pub file : ℕ
  pub mode : RenameMode
  pub name : List ℕ

-- ---- the tables

abbrev pub mode_word : RenameMode → ℕ
mode_word FullPath = 0
mode_word NoRootPath = 1
mode_word AbsolutePath = 2

abbrev pub mode_of : ℕ → RenameMode
mode_of n = cond (eqb n 0) FullPath (cond (eqb n 1) NoRootPath AbsolutePath)

-- the n renames from entry i on, whose texts stand one after the other in t
unfoldable pub renames_from : ℕ → ℕ → List ℕ → List ℕ → List Renamed
renames_from zero i entries t = []
renames_from (suc n) i entries t =
    record {
      file = get_or entries (i * 4) 0;
      mode = mode_of (get_or entries (i * 4 + 1) 0);
      name = take (get_or entries (i * 4 + 2) 0) t;
    } ∷
    renames_from n (i + 1) entries (drop (get_or entries (i * 4 + 2) 0) t)

abbrev pub renames_of : RenamedFiles → List ℕ → List ℕ → List Renamed
renames_of rf entries text = renames_from rf.num_renames 0 entries text

-- the same list as words, the first text beginning at byte `at`, and as text
abbrev pub words_from : ℕ → List Renamed → List ℕ
words_from at [] = []
words_from at (r ∷ rs) =
    r.file ∷ mode_word r.mode ∷ length r.name ∷ at ∷ words_from (at + length r.name) rs

abbrev pub words_of : List Renamed → List ℕ
words_of rs = words_from 0 rs

abbrev pub texts_of : List Renamed → List ℕ
texts_of [] = []
texts_of (r ∷ rs) = r.name ++ texts_of rs

abbrev pub state_of : List Renamed → RenamedFiles
state_of rs = record { num_renames = length rs; text_len = length (texts_of rs) }

-- the n entries from entry i on are in order: each number is one of 31 bits and at least `least`, each later one above
-- it, each mode is one of three, and their texts have `left` bytes together
unfoldable pub ordered_from : ℕ → ℕ → ℕ → ℕ → List ℕ → Bool
ordered_from zero i least left entries = eqb left 0
ordered_from (suc n) i least left entries =
    (leb least (get_or entries (i * 4) 0) && leb (get_or entries (i * 4) 0) 2147483647)
    && (leb (get_or entries (i * 4 + 1) 0) 2
    && (leb (get_or entries (i * 4 + 2) 0) left
    && ordered_from n (i + 1) (get_or entries (i * 4) 0 + 1) (left - get_or entries (i * 4 + 2) 0) entries))

-- the texts of the n entries from entry i on begin one where the other ends, the first at byte `at`
unfoldable pub placed_from : ℕ → ℕ → ℕ → List ℕ → Bool
placed_from zero i at entries = true
placed_from (suc n) i at entries =
    eqb (get_or entries (i * 4 + 3) 0) at
    && placed_from n (i + 1) (at + get_or entries (i * 4 + 2) 0) entries

-- the lent tables hold what the record counts; the text area has `room` bytes
abbrev pub renames_held : RenamedFiles → List ℕ → ℕ → Bool
renames_held rf entries room = leb rf.num_renames (length entries / 4) && leb rf.text_len room

-- and are in order
abbrev pub in_order_in : RenamedFiles → List ℕ → ℕ → Bool
in_order_in rf entries room =
    renames_held rf entries room
    && (ordered_from rf.num_renames 0 0 rf.text_len entries && placed_from rf.num_renames 0 0 entries)

abbrev pub in_order : RenamedFiles → List ℕ → List ℕ → Bool
in_order rf entries text = in_order_in rf entries (length text)

-- ---- changes

-- a rename takes the place of an older one of its file: each number once, ascending
abbrev pub with_rename : Renamed → List Renamed → List Renamed
with_rename r [] = r ∷ []
with_rename r (x ∷ xs) =
    cond (ltb r.file x.file) (r ∷ x ∷ xs) (cond (eqb r.file x.file) (r ∷ xs) (x ∷ with_rename r xs))

-- an absolute name is read alone, any other after the save path and the set's name
abbrev pub mode_for : List ℕ → RenameMode
mode_for name = cond (is_complete name) AbsolutePath FullPath

abbrev pub renamed_to : ℤ → List ℕ → List Renamed → List Renamed
renamed_to z name rs = with_rename (record { file = clamped_of z; mode = mode_for name; name = name }) rs

-- refusal 10: more entries or more bytes of text than the tables have room for
abbrev pub lacks_room : List Renamed → List ℕ → List ℕ → Bool
lacks_room rs entries text = ltb (length entries / 4) (length rs) || ltb (length text) (length (texts_of rs))

-- the answer, and each table after it
pub record RenamesChanged : Type 0 where
  pub says : Outcome RenamedFiles
  pub entries : List ℕ
  pub text : List ℕ

abbrev pub renames_changed_of : Outcome RenamedFiles → List ℕ → List ℕ → RenamesChanged
renames_changed_of says entries text = record { says = says; entries = entries; text = text }

-- the renames rs in both tables, or refusal k, which leaves them as they were
abbrev pub renames_changed_if : ℕ → List Renamed → List ℕ → List ℕ → RenamesChanged
renames_changed_if k rs entries text =
    cond (eqb k 0)
    (renames_changed_of (value (state_of rs)) (sets entries 0 (words_of rs)) (sets text 0 (texts_of rs)))
    (renames_changed_of (refused k) entries text)

-- `rename_file`: refusals 1, 11, 10
abbrev pub rename_file_answer : FileStorage → RenamedFiles → List ℕ → List ℕ → ℤ → List ℕ → RenamesChanged
rename_file_answer fs rf entries text z name =
    renames_changed_if
    (first_of
    (bad_piece_length fs ∷
    no_file fs z ∷
    short (few_entries fs) ∷
    short (in_order rf entries text) ∷
    when (lacks_room (renamed_to z name (renames_of rf entries text)) entries text) 10 ∷
    []))
    (renamed_to z name (renames_of rf entries text))
    entries
    text
