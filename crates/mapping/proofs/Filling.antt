-- Laws of a table that a block's slices fill from its front, as the loop of `map_block` uses them. They rely on the laws
-- of `layout`.
--     Inv       what holds between two stores: n slices are in the table, and the rest are to come
--     begin     before the first store
use mathlib.Core.Path.{◌≡◌, refl}
use mathlib.Core.List.{List, map}
use Prim.Native.Nat.{ℕ, ◌+◌, ◌≤◌}
use native.Mathlib.Omega.{arith}
use lib.ListN.{length}
use lib.Seq.{sets}
use Rattle.types.specs.declared.index.FileSlice.{FileSlice}
use Rattle.layout.specs.declared.slices.Slice.{Slice}
use Rattle.layout.specs.declared.start.Cursor.{Cursor}
use Rattle.layout.specs.Start.{slices_from}
use Rattle.layout.proofs.Walk.{Low, walk_low}
use Rattle.mapping.specs.Table.{record_of}

-- `ys` is the table at entry and `all` the slices to put into it; `l` is the table with n of them, and `rest` the others
pub record Inv (ys : List FileSlice) (all : List Slice) (n : ℕ) (l : List FileSlice) (rest : List Slice) : Type 0 where
  pub sum : n + length rest ≡ length all
  pub room : length all ≤ length l
  pub low : Low rest
  pub whole : sets l n (map record_of rest) ≡ sets ys 0 (map record_of all)

pub begin : (rows : List ℕ) (ys : List FileSlice) (c : Cursor) {m : ℕ} {rest : List Slice} → m ≡ 0 → rest ≡ slices_from rows c
    → length (slices_from rows c) ≤ length ys → Inv ys (slices_from rows c) m ys rest
begin rows ys c z e h = rw (z, e) (record { sum = omega arith; room = h; low = walk_low rows _ _ _ _; whole = refl })
