-- What a cleaning by the interface returns and leaves. It relies on what `cleaning` says of a cleaning, and on the
-- record's words in State.antt.
use Rattle.std.specs.Prelude.{ℕ, List}
use Rattle.cleaning.specs.Cleaning.{Cleaned}
use Rattle.exports.specs.State.{number_returned, state_after}

-- the refusal's number, 0 for none; the record's words; each table; the work space
pub record CleaningReturned : Type 0 where
  pub number : ℕ
  pub state : List ℕ
  pub rows : List ℕ
  pub dirs : List ℕ
  pub text : List ℕ
  pub marks : List ℕ
  pub scratch : List ℕ
  pub walk_path : List ℕ

abbrev pub cleaning_returned : List ℕ → Cleaned → CleaningReturned
cleaning_returned state c =
    record {
      number = number_returned c.says;
      state = state_after c.says state;
      rows = c.rows;
      dirs = c.dirs;
      text = c.text;
      marks = c.marks;
      scratch = c.scratch;
      walk_path = c.walk_path;
    }
