-- Document 01, opening: refusal 1 for a piece length below 1, else a set without files, as its record and as a model.
-- It relies on the record and the model of `tables`.
use Rattle.std.specs.Prelude.{ℕ, Bool, false, cond, [], eqb, ℤ, pos, negsuc}
use Rattle.types.specs.Refusals.{Outcome, value, refused}
use Rattle.tables.specs.declared.storage.FileStorage.{FileStorage}
use Rattle.tables.specs.Model.{Model}

-- the largest piece length, as an i32 holds it
abbrev pub max_piece_length : ℕ
max_piece_length = 2147483647

-- the record of a newly opened set, which keeps the first file of each piece in a table or not
abbrev pub new_storage : ℕ → Bool → FileStorage
new_storage n indexed =
    record {
      piece_length = n;
      v2 = false;
      num_files = 0;
      num_paths = 0;
      num_symlinks = 0;
      name = record { at = 0; len = 0 };
      text_len = 0;
      total_size = 0;
      size_on_disk = 0;
      trimmed = false;
      indexed = indexed;
    }

-- the model of a newly opened set
abbrev pub new_model : ℕ → Model
new_model n =
    record {
      piece_length = n;
      v2 = false;
      name = [];
      files = [];
      directories = [];
      links = 0;
      total = 0;
      on_disk = 0;
      trimmed = false;
    }

abbrev pub opened : ℤ → Bool → Outcome FileStorage
opened (pos n) indexed = cond (eqb n 0) (refused 1) (value (new_storage n indexed))
opened (negsuc n) indexed = refused 1
