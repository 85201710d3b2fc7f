-- What the calls on names and paths by the interface return and leave, and the record of a set's renames as two words:
-- how many there are, and the bytes of their texts. It relies on the answers of `imports`, `hashes` and `renamed`, and
-- on the numbers returned in State.antt and Layout.antt.
use Rattle.std.specs.Prelude.{ℕ, List, [], ◌∷◌, ℤ, get_or}
use Rattle.types.specs.Refusals.{Outcome, value, refused}
use Rattle.path.specs.Join.{Joined}
use Rattle.hashes.specs.Hashes.{HashesListed}
use Rattle.renames.specs.declared.rename.RenamedFiles.{RenamedFiles}
use Rattle.renames.specs.Renames.{RenamesChanged}
use Rattle.exports.specs.State.{number_returned}
use Rattle.exports.specs.Layout.{count_returned}

-- the record that the words hold
abbrev pub renamed_files_of : List ℕ → RenamedFiles
renamed_files_of w = record { num_renames = get_or w 0 0; text_len = get_or w 1 0 }

-- the words after an import
abbrev pub rename_state_after : Outcome RenamedFiles → List ℕ → List ℕ
rename_state_after (value rf) words = rf.num_renames ∷ rf.text_len ∷ []
rename_state_after (refused k) words = words

-- the refusal's number, 0 for none; the record's words; both tables of the renames
pub record ImportReturned : Type 0 where
  pub number : ℕ
  pub renames : List ℕ
  pub entries : List ℕ
  pub text : List ℕ

abbrev pub import_returned : List ℕ → RenamesChanged → ImportReturned
import_returned words c =
    record {
      number = number_returned c.says;
      renames = rename_state_after c.says words;
      entries = c.entries;
      text = c.text;
    }

-- the answer, and what the table of hashes holds after it
pub record HashesReturned : Type 0 where
  pub answer : ℤ
  pub table : List ℕ

abbrev pub hashes_returned : HashesListed → HashesReturned
hashes_returned h = record { answer = count_returned h.says; table = h.table }

-- the answer, and what the buffer holds after it
pub record PathReturned : Type 0 where
  pub answer : ℤ
  pub buf : List ℕ

abbrev pub path_returned : Joined → PathReturned
path_returned j = record { answer = count_returned j.says; buf = j.buf }
