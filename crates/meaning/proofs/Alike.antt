-- Document 02 (v), after every list of calls on a set that keeps the first file of each piece: with the window of that
-- table 'the search, given its start, answers the same whatever the rows before it hold', and no question searches
-- elsewhere. It relies on the table being true (book, proofs/Firsts.antt) and on the laws of `layout`, `blocks` and
-- `mapping` on rows that agree from a window on.
--     starts-there                         the file found is the one that the search within the window finds
--     block-alike, slices-alike            `map_block_core` and `map_block`, their whole outcome
--     offset-alike                         `file_index_at_offset`
--     piece-alike, last-piece-alike        `file_index_at_piece`, `last_file_index_at_piece`
--     size2-alike, blocks2-alike           `piece_size2`, `blocks_in_piece2`
use Prim.Native.Nat.{ℕ, ◌*◌, ◌≤◌, ◌<◌}
use mathlib.Core.Path.{◌≡◌, ap}
use mathlib.Core.Bool.{Bool, true, cond}
use mathlib.Core.List.{List}
use native.Mathlib.Omega.{arith}
use lib.IntN.{ℤ, pos}
use lib.ListN.{length, drop}
use Rattle.types.specs.declared.index.FileSlice.{FileSlice}
use Rattle.tables.specs.Rows.{row_width}
use Rattle.tables.specs.Model.{Store}
use Rattle.rules.specs.Questions.{num_pieces}
use Rattle.layout.specs.declared.window.Window.{Window}
use Rattle.layout.specs.Window.{window_for}
use Rattle.layout.specs.Search.{file_found, found_from, found_within}
use Rattle.layout.specs.Mapping.{target_of}
use Rattle.layout.specs.Given.{piece_size2_given, blocks_in_piece2_given, file_at_offset_given, file_at_piece_given, last_file_at_piece_given}
use Rattle.layout.proofs.Alike.{told-window, file_at_offset-alike, file_at_piece-alike, last_file_at_piece-alike, piece_size2-alike, blocks_in_piece2-alike}
use Rattle.blocks.specs.Block.{map_block}
use Rattle.blocks.proofs.Alike.{map-block-alike}
use Rattle.mapping.specs.Table.{block_mapped}
use Rattle.mapping.proofs.Alike.{block-mapped-alike}
use Rattle.book.specs.Book.{Made}
use Rattle.book.specs.Calls.{Renames, Leads}
use Rattle.book.proofs.Agree.{agrees}
use Rattle.book.proofs.Firsts.{table-true, room-kept}

-- the calls `made`, refused ones included, led to the tables s
module _ {n : ℕ} {made : List Made} {s : Store} {r : Renames} (l : Leads n made s r) (i : s.fs.indexed ≡ true) where
  -- the window of the set's table for the byte at an offset from the start of a piece
  abbrev pub window : ℤ → ℤ → Window
  window z offset = window_for s.fs s.firsts z offset

  -- 'start the search there': where a piece can be numbered, a byte of the set is searched within its piece's window alone
  pub starts-there : num_pieces s.fs ≤ 2147483647 → (z offset : ℤ) → target_of s.fs z offset < s.fs.total_size
      → found_within s.rows s.fs.num_files (window z offset) (target_of s.fs z offset) ≡ found_from s.rows (window z offset) (target_of s.fs z offset)
  starts-there few z offset c =
      let g = agrees l in
      let sure = told-window s.fs s.rows s.firsts (table-true l i) (omega (arith, g.some, g.lengths)) (omega (arith, g.short, g.lengths)) few (room-kept l i) i z offset c in
      ap (λ (b : Bool). cond b (found_from s.rows (window z offset) (target_of s.fs z offset)) (file_found s.rows s.fs.num_files (target_of s.fs z offset))) sure

  -- other rows, as many, that hold the same from the window's first file on
  module _ (others : List ℕ) (long : length s.rows ≡ length others) where
    abbrev pub Alike : ℤ → ℤ → Type 0
    Alike z offset = drop ((window z offset).low * row_width) s.rows ≡ drop ((window z offset).low * row_width) others

    -- the answer and the three columns
    pub block-alike : (z offset size : ℤ) → Alike z offset → (f o c : List ℕ)
        → map_block s.fs s.rows (window z offset) z offset size f o c ≡ map_block s.fs others (window z offset) z offset size f o c
    block-alike z offset size e f o c = map-block-alike s.fs s.rows others s.firsts (table-true l i) long z offset size e f o c

    -- the answer and the table of slices
    pub slices-alike : (z offset size : ℤ) → Alike z offset → (out : List FileSlice)
        → block_mapped s.fs s.rows (window z offset) z offset size out ≡ block_mapped s.fs others (window z offset) z offset size out
    slices-alike z offset size e out = block-mapped-alike s.fs s.rows others s.firsts (table-true l i) long z offset size e out

    pub offset-alike : (offset : ℤ) → Alike (pos 0) offset
        → file_at_offset_given s.fs s.rows (window (pos 0) offset) offset ≡ file_at_offset_given s.fs others (window (pos 0) offset) offset
    offset-alike = file_at_offset-alike s.fs s.rows others s.firsts (table-true l i) long

    -- a question about a piece has the window of its start
    module _ (z : ℤ) (e : Alike z (pos 0)) where
      pub piece-alike : file_at_piece_given s.fs s.rows (window z (pos 0)) z ≡ file_at_piece_given s.fs others (window z (pos 0)) z
      piece-alike = file_at_piece-alike s.fs s.rows others s.firsts (table-true l i) long z e

      pub last-piece-alike : last_file_at_piece_given s.fs s.rows (window z (pos 0)) z ≡ last_file_at_piece_given s.fs others (window z (pos 0)) z
      last-piece-alike = last_file_at_piece-alike s.fs s.rows others s.firsts (table-true l i) long z e

      pub size2-alike : piece_size2_given s.fs s.rows (window z (pos 0)) z ≡ piece_size2_given s.fs others (window z (pos 0)) z
      size2-alike = piece_size2-alike s.fs s.rows others s.firsts (table-true l i) long z e

      pub blocks2-alike : blocks_in_piece2_given s.fs s.rows (window z (pos 0)) z ≡ blocks_in_piece2_given s.fs others (window z (pos 0)) z
      blocks2-alike = blocks_in_piece2-alike s.fs s.rows others s.firsts (table-true l i) long z e
