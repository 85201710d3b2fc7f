-- What the steps of a run answer: opening by the first line, a file line obeyed, and the run as a whole. Run.antt says
-- the same on the model; here it stands on the lent tables, with the answers of `storage`.
use Rattle.std.specs.Prelude.{ℕ, false, cond, List, [], ◌≡◌, ltb, pos, length, Err, Ok, Result, Option, Some, None}
use Rattle.types.specs.declared.refusal.Refusal.{Refusal}
use Rattle.lists.specs.Lists.{ceiling}
use Rattle.types.specs.declared.refusal.Refusal.TheVariants.{TooManyPieces, ParseFailed}
use Rattle.types.specs.Refusals.{number_of, Outcome, refused}
use Rattle.tables.specs.declared.storage.FileStorage.{FileStorage}
use Rattle.tables.specs.Model.{Store, view_of, store_of}
use Rattle.change.specs.Changes.{Changed}
use Rattle.plan.specs.Outcomes.{add_stored}
use Rattle.storage.specs.Opening.{opened}
use Rattle.listing_input.specs.Form.{FileEntry}
use Rattle.listing_output.specs.Output.{Run, listed, stopped}
use Rattle.listing.specs.Run.{addition_of}
use Rattle.listing.specs.declared.run.Stop.{Stop}
use Rattle.listing.specs.declared.run.Tables.{Tables}

abbrev pub opened_by : Option ℕ → Outcome FileStorage
opened_by None = refused 17
opened_by (Some n) = opened (pos n) false

-- a line out of form is 17, and leaves the tables as they were
abbrev pub obeyed : Option FileEntry → Store → Changed
obeyed None s =
    record { says = refused 17; rows = s.rows; roots = s.roots; firsts = s.firsts; dirs = s.dirs; text = s.text }
obeyed (Some e) s = add_stored s (addition_of e)

-- the answer to a line, whose refusal carries the line
abbrev pub stopped_by : Result FileStorage Refusal → ℕ → Result FileStorage Stop
stopped_by (Ok fs) line = Err (record { refusal = ParseFailed; line = line })
stopped_by (Err e) line = Err (record { refusal = e; line = line })

-- the run that ends after the last line
abbrev pub counted_by : FileStorage → ℕ → Result FileStorage Stop
counted_by fs line =
    cond (ltb 2147483647 (ceiling fs.total_size fs.piece_length))
    (Err (record { refusal = TooManyPieces; line = line })) (Ok fs)

-- the set in the tables of a run, and what a change to them says; the set keeps no table of first files
abbrev pub store_in : FileStorage → Tables → Store
store_in fs t = store_of fs t.rows t.roots [] t.dirs t.text

abbrev pub changed_in : Outcome FileStorage → Tables → Changed
changed_in says t =
    record {
      says = says;
      rows = t.rows;
      roots = t.roots;
      firsts = [];
      dirs = t.dirs;
      text = t.text;
    }

-- how a run ends, by its answer and what the tables then hold
abbrev pub run_in : Result FileStorage Stop → Tables → Run
run_in (Ok fs) t = listed (view_of (store_in fs t))
run_in (Err e) t = stopped (number_of e.refusal) e.line

-- the lengths of tables with the places of `places`: 8 words and 32 bytes a file, 2 words a directory
pub record Placed (rows roots dirs text : List ℕ) : Type 0 where
  pub rows_are : length rows ≡ 3200
  pub roots-are : length roots ≡ 12800
  pub dirs-are : length dirs ≡ 800
  pub text-is : length text ≡ 65536

abbrev pub PlacedIn : Tables → Type 0
PlacedIn t = Placed t.rows t.roots t.dirs t.text
