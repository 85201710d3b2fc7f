-- A set's record as twelve words, an array of that size, for programs in other languages: piece length, v2 (0 or 1),
-- files, directories, link texts, indexed (0 or 1), the name's position and length, text held, total, size on disk,
-- trimmed (0 or 1). It relies on the record of `tables` and on what a change of `change` leaves.
use Rattle.std.specs.Prelude.{ℕ, Bool, true, false, cond, not, List, [], ◌∷◌, eqb, get_or}
use Rattle.types.specs.Refusals.{Outcome, value, refused}
use Rattle.tables.specs.declared.storage.FileStorage.{FileStorage}
use Rattle.tables.specs.declared.rows.Presence.{Presence}
use Rattle.tables.specs.declared.rows.Presence.TheVariants.{Absent, Present}
use Rattle.tables.specs.Model.{Store, store_of}
use Rattle.change.specs.Changes.{Changed}

-- the set that the words hold
abbrev pub storage_of : List ℕ → FileStorage
storage_of w =
    record {
      piece_length = get_or w 0 0;
      v2 = not (eqb (get_or w 1 0) 0);
      num_files = get_or w 2 0;
      num_paths = get_or w 3 0;
      num_symlinks = get_or w 4 0;
      name = record { at = get_or w 6 0; len = get_or w 7 0 };
      text_len = get_or w 8 0;
      total_size = get_or w 9 0;
      size_on_disk = get_or w 10 0;
      trimmed = not (eqb (get_or w 11 0) 0);
      indexed = not (eqb (get_or w 5 0) 0);
    }

-- 1 for true, 0 for false
abbrev pub bit : Bool → ℕ
bit true = 1
bit false = 0

-- the words of a set's record
abbrev pub words_of : FileStorage → List ℕ
words_of fs =
    fs.piece_length ∷
    bit fs.v2 ∷
    fs.num_files ∷
    fs.num_paths ∷
    fs.num_symlinks ∷
    bit fs.indexed ∷
    fs.name.at ∷
    fs.name.len ∷
    fs.text_len ∷
    fs.total_size ∷
    fs.size_on_disk ∷
    bit fs.trimmed ∷
    []

-- the set that a record's words and the tables hold
abbrev pub store_at : List ℕ → List ℕ → List ℕ → List ℕ → List ℕ → List ℕ → Store
store_at state rows roots firsts dirs text = store_of (storage_of state) rows roots firsts dirs text

-- 0 is absent, any other number present
abbrev pub presence_of : ℕ → Presence
presence_of n = cond (eqb n 0) Absent Present

-- what a change returns and leaves: the refusal's number, 0 for none; the record's words; each table
pub record Exported : Type 0 where
  pub number : ℕ
  pub state : List ℕ
  pub rows : List ℕ
  pub roots : List ℕ
  pub firsts : List ℕ
  pub dirs : List ℕ
  pub text : List ℕ

abbrev pub number_returned : {A : Type 0} → Outcome A → ℕ
number_returned (value v) = 0
number_returned (refused k) = k

abbrev pub state_after : Outcome FileStorage → List ℕ → List ℕ
state_after (value fs) state = words_of fs
state_after (refused k) state = state

abbrev pub exported : List ℕ → Changed → Exported
exported state c =
    record {
      number = number_returned c.says;
      state = state_after c.says state;
      rows = c.rows;
      roots = c.roots;
      firsts = c.firsts;
      dirs = c.dirs;
      text = c.text;
    }
