-- Document 01, 'Layout answers': `map_block`, with its refusals and the tables that it fills: 'The slices are put into
-- a table lent by the caller'. Here the table is three columns of numbers.
use Rattle.std.specs.Prelude.{ℕ, min, Bool, cond, List, [], ◌∷◌, eqb, leb, ℤ, length}
use Rattle.std.proofs.lemmas.List.Edits.{sets}
use Rattle.types.specs.Refusals.{Outcome, value, refused}
use Rattle.tables.specs.declared.storage.FileStorage.{FileStorage}
use Rattle.rules.specs.Rules.{first_of}
use Rattle.rules.specs.Questions.{short}
use Rattle.layout.specs.declared.window.Window.{Window}
use Rattle.layout.specs.declared.slices.Slice.{Slice}
use Rattle.layout.specs.Mapping.{files_of, offsets_of, sizes_of, block_of, block_rules}

-- the answer, and what the three columns hold after it
pub record Mapped : Type 0 where
  pub says : Outcome ℕ
  pub file : List ℕ
  pub offset : List ℕ
  pub size : List ℕ

-- a refusal and the columns untouched, or for 0 the number of slices and the slices in the columns' first places
abbrev pub mapped : ℕ → List Slice → List ℕ → List ℕ → List ℕ → Mapped
mapped k ss f o s =
    cond (eqb k 0)
    (record {
      says = value (length ss);
      file = sets f 0 (files_of ss);
      offset = sets o 0 (offsets_of ss);
      size = sets s 0 (sizes_of ss);
    })
    (record { says = refused k; file = f; offset = o; size = s })

-- each column has a place for each slice
abbrev pub has_places : List Slice → List ℕ → List ℕ → List ℕ → Bool
has_places ss f o s = leb (length ss) (min (length f) (min (length o) (length s)))

-- w is the window with which the search for the first slice's file begins
abbrev pub map_block : FileStorage → List ℕ → Window → ℤ → ℤ → ℤ → List ℕ → List ℕ → List ℕ → Mapped
map_block fs rows w z offset size f o s =
    mapped
    (first_of (block_rules fs rows z offset size (short (has_places (block_of fs rows w z offset size) f o s) ∷ [])))
    (block_of fs rows w z offset size)
    f
    o
    s
