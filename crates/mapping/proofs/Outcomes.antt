-- The outcome of `map_block` by the block's start: refused, without room, or with the block's slices in the table. It
-- relies on the start of `layout`.
use mathlib.Core.Path.{◌≡◌, ◌∙◌}
use mathlib.Core.Bool.{Bool, true, false}
use mathlib.Core.List.{List, [], ◌∷◌, map}
use lib.Dec.{leb}
use lib.IntN.{ℤ}
use mir.Facts.{to_z-of_z}
use lib.ListN.{length}
use lib.Seq.{sets}
use Prim.Native.Nat.{ℕ}
use Rattle.types.specs.Refusals.{number_of, value, refused}
use Rattle.types.specs.declared.index.FileSlice.{FileSlice}
use Rattle.types.specs.declared.refusal.Refusal.{Refusal}
use Rattle.types.proofs.Refusals.{numbered, exit}
use Rattle.tables.specs.declared.storage.FileStorage.{FileStorage}
use Rattle.rules.specs.Questions.{short}
use Rattle.layout.specs.declared.start.Cursor.{Cursor}
use Rattle.layout.specs.declared.window.Window.{Window}
use Rattle.layout.specs.declared.slices.Slice.{Slice}
use Rattle.layout.specs.Mapping.{block_of}
use Rattle.layout.specs.Start.{slices_from, block_start}
use Rattle.layout.proofs.Starts.{block_stopped, block_open, from_block}
use Rattle.mapping.specs.Table.{Filled, record_of, block_mapped}

module _ (fs : FileStorage) (rows : List ℕ) (w : Window) (z offset size : ℤ) (ys : List FileSlice) where
  abbrev block : List Slice
  block = block_of fs rows w z offset size

  pub stopped : (e : Refusal) → refused (number_of e) ≡ block_start fs rows w z offset size
      → ◌≡◌ {A = Filled} (record { says = refused (number_of e); table = ys }) (block_mapped fs rows w z offset size ys)
  stopped e h = rw (block_stopped fs rows w z offset size e (short (leb (length block) (length ys)) ∷ []) h, numbered e)

  -- whether there is room, as the code asks it
  module _ {from : Cursor} (h : value from ≡ block_start fs rows w z offset size) {held : Bool}
      (eh : held ≡ leb (length (slices_from rows from)) (length ys)) where
    places : held ≡ leb (length block) (length ys)
    places = eh ∙ rw (from_block fs rows w z offset size h)

    pub lacking : held ≡ false
        → ◌≡◌ {A = Filled} (record { says = refused 10; table = ys }) (block_mapped fs rows w z offset size ys)
    lacking n = rw (block_open fs rows w z offset size h (short (leb (length block) (length ys)) ∷ []), ← places, n)

    pub written : held ≡ true → {n : ℕ} {l : List FileSlice} → n ≡ length (slices_from rows from) → l ≡ sets ys 0 (map record_of (slices_from rows from))
        → ◌≡◌ {A = Filled} (record { says = value n; table = l }) (block_mapped fs rows w z offset size ys)
    written y en el =
        rw (block_open fs rows w z offset size h (short (leb (length block) (length ys)) ∷ []), ← places, y, en, el, from_block fs rows w z offset size h)

-- what a refusal needs, with signed numbers as the code passes them on
pub ruleset stopping = (stopped, lacking, exit, to_z-of_z)
