-- Laws of the columns of slices: the outcome of a block by its start: refused, without room, or with its slices in all
-- three. They rely on the start of `layout`.
use mathlib.Core.Path.{◌≡◌, ◌∙◌}
use mathlib.Core.Bool.{Bool, true, false}
use mathlib.Core.List.{List, [], ◌∷◌}
use Prim.Native.Nat.{ℕ, min}
use lib.Dec.{leb}
use lib.IntN.{ℤ}
use mir.Facts.{to_z-of_z}
use lib.ListN.{length}
use lib.Seq.{sets}
use Rattle.types.specs.Refusals.{number_of, value, refused}
use Rattle.types.specs.declared.refusal.Refusal.{Refusal}
use Rattle.types.proofs.Refusals.{numbered, exit}
use Rattle.tables.specs.declared.storage.FileStorage.{FileStorage}
use Rattle.rules.specs.Questions.{short}
use Rattle.layout.specs.declared.start.Cursor.{Cursor}
use Rattle.layout.specs.declared.window.Window.{Window}
use Rattle.layout.specs.declared.slices.Slice.{Slice}
use Rattle.layout.specs.Mapping.{files_of, offsets_of, sizes_of, block_of}
use Rattle.layout.specs.Start.{slices_from, block_start}
use Rattle.layout.proofs.Starts.{block_stopped, block_open, from_block}
use Rattle.blocks.specs.Block.{Mapped, has_places, map_block}

-- a block by its start, for columns f, o and s
module _ (fs : FileStorage) (rows : List ℕ) (w : Window) (z offset size : ℤ) (f o s : List ℕ) where
  abbrev block : List Slice
  block = block_of fs rows w z offset size

  pub block_refused : (e : Refusal) → refused (number_of e) ≡ block_start fs rows w z offset size
      → ◌≡◌ {A = Mapped} (record { says = refused (number_of e); file = f; offset = o; size = s }) (map_block fs rows w z offset size f o s)
  block_refused e h = rw (block_stopped fs rows w z offset size e (short (has_places block f o s) ∷ []) h, numbered e)

  -- whether there is room, as the code asks it
  module _ {from : Cursor} (h : value from ≡ block_start fs rows w z offset size) {room : ℕ} {held : Bool}
      (er : room ≡ min (length f) (min (length o) (length s))) (eh : held ≡ leb (length (slices_from rows from)) room) where
    places : held ≡ has_places block f o s
    places = eh ∙ rw (er, from_block fs rows w z offset size h)

    pub block-short : held ≡ false
        → ◌≡◌ {A = Mapped} (record { says = refused 10; file = f; offset = o; size = s }) (map_block fs rows w z offset size f o s)
    block-short n = rw (block_open fs rows w z offset size h (short (has_places block f o s) ∷ []), ← places, n)

    pub block_written : held ≡ true → {n : ℕ} {f' o' s' : List ℕ} → n ≡ length (slices_from rows from)
        → f' ≡ sets f 0 (files_of (slices_from rows from)) → o' ≡ sets o 0 (offsets_of (slices_from rows from)) → s' ≡ sets s 0 (sizes_of (slices_from rows from))
        → ◌≡◌ {A = Mapped} (record { says = value n; file = f'; offset = o'; size = s' }) (map_block fs rows w z offset size f o s)
    block_written y en ef eo es =
        rw (block_open fs rows w z offset size h (short (has_places block f o s) ∷ []), ← places, y, en, ef, eo, es, from_block fs rows w z offset size h)

-- what a refusal needs, with signed numbers as the code passes them on
pub ruleset stopping = (block_refused, block-short, exit, to_z-of_z)
