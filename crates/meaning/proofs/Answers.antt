-- The layout answers for every list of calls: each as Layout.antt says, over the book's sizes. Relies on the book's agreement with
-- the set (book, proofs/Theorem.antt, `holds`) and on Tables.antt.
--     file-range-is, num-pieces-is, last-piece-is, piece-range-is     `file_range`, `num_pieces`, `last_piece`, `piece_range`
--     map-file-is                                 `map_file`
--     file-at-offset, no-file-at-offset           `file_index_at_offset`
--     file-at-piece, last-file-at-piece           `file_index_at_piece`, `last_file_index_at_piece`
--     piece-at-file, last-piece-at-file           `piece_index_at_file`, `last_piece_index_at_file`
--     piece-size-is, piece-size2-is               `piece_size`, `piece_size2`
--     inclusive-pieces, exclusive-pieces          `file_piece_range_inclusive`, `file_piece_range_exclusive`
--     last-piece-number, inclusive-numbers        the same of empty files
--     tree-pieces-number, tree-pieces-range       `file_num_pieces`, `file_piece_range`
--     first-file-given                            the table of first files
use Prim.Native.Nat.{ℕ, ◌+◌, ◌-◌, ◌*◌, ◌/◌, ◌%◌, ◌≤◌, ◌<◌}
use mathlib.Core.Path.{◌≡◌, sym, ap, ◌∙◌}
use mathlib.Core.Bool.{Bool, true, false}
use mathlib.Core.List.{List, map, map-map}
use native.Mathlib.Omega.{arith}
use lib.Dec.{eqb}
use lib.IntN.{pos}
use lib.ListN.{length, get_or}
use Rattle.lists.specs.Lists.{sum}
use Rattle.lists.proofs.Quotients.{ceiling-below}
use Rattle.types.specs.Refusals.{value, refused}
use Rattle.tables.specs.Rows.{row_at, has, pad_bit}
use Rattle.tables.specs.Model.{File, Store, tabled, file_of, view_of}
use Rattle.tables.proofs.Tabled.{get_or-tabled}
use Rattle.sound.proofs.Files.{map-tabled}
use Rattle.rules.specs.Bounds.{limit}
use Rattle.layout.specs.declared.window.Window.{Window}
use Rattle.layout.specs.Given.{num_pieces_given, last_piece_given, piece_range_given, file_range_given, file_at_offset_given, file_at_piece_given, last_file_at_piece_given, piece_size_given, piece_size2_given}
use Rattle.files.specs.Given.{piece_at_file_given, last_piece_at_file_given, exclusive_given, inclusive_given, file_num_pieces_given, file_piece_range_given, file_mapped}
use Rattle.book.specs.Book.{Made, Row, Book, sizes_of, bytes_of, book}
use Rattle.book.specs.Calls.{Renames, Leads}
use Rattle.book.proofs.Entries.{row_of}
use Rattle.book.proofs.Agree.{agrees}
use Rattle.book.proofs.Firsts.{firsts-kept}
use Rattle.book.proofs.Theorem.{holds}
use Rattle.meaning.specs.Layout.{begin_of, end_of, InFile, pieces_of, bytes_of_piece, last_of, FileAt, last_byte, PieceAt, last_piece, PieceSize2, range, Inclusive}
use Rattle.meaning.specs.Layout.{inclusive_begin, inclusive_end, exclusive_begin, exclusive_end, request_at, is_tree, tree_answer, tree_pieces}
use Rattle.meaning.proofs.Numbers.{end_is}
use Rattle.meaning.proofs.Tables.{all-files, count-of-pieces, last-of-pieces, all-pieces, file-mapped, offset-file, offset-past, piece-file, piece-last-file, piece-size, piece-size2, file-piece, file-last-piece, last-piece-plain, file-exclusive, file-inclusive, inclusive-plain, tree-pieces, tree-range}

-- the calls `made`, refused ones included, led to the tables s; the sizes are those of the book
module _ {n : ℕ} {made : List Made} {s : Store} {r : Renames} (l : Leads n made s r) where
  abbrev pub sizes : List ℕ
  sizes = sizes_of (book n made).rows

  -- whether file k is marked as a pad
  abbrev pub marked : ℕ → Bool
  marked k = get_or (map (λ (r : Row). r.marked) (book n made).rows) k false

  marked-is : (k : ℕ) → k < length sizes → has (row_at s.rows k).flags pad_bit ≡ marked k
  marked-is k h =
      let c : length sizes ≡ s.fs.num_files = sym (holds l).count in
      let e : map (λ (r : Row). r.marked) (book n made).rows ≡ tabled s.fs.num_files (λ j. eqb ((row_at s.rows j).flags % 16 % 2) 1) =
      ap (λ (b : Book). map (λ (r : Row). r.marked) b.rows) (sym (agrees l).books)
      ∙ map-map (λ (r : Row). r.marked) row_of (view_of s).files
      ∙ map-tabled (λ (f : File). eqb (f.flags % 2) 1) s.fs.num_files (file_of s) in
      sym (ap (λ (bs : List Bool). get_or bs k false) e ∙ get_or-tabled s.fs.num_files (λ j. eqb ((row_at s.rows j).flags % 16 % 2) 1) k false (omega (arith, c)) ∙ bit (row_at s.rows k).flags)
    where
      bit : (f : ℕ) → eqb (f % 16 % 2) 1 ≡ has f pad_bit
      bit f = let d : f % 16 % 2 ≡ f / 1 % 2 = omega arith in rw d

  -- the file that has the byte, whatever window is asked with, here and below
  pub file-at-offset : (w : Window) (t : ℕ) → t < bytes_of (book n made).rows → FileAt sizes t (file_at_offset_given s.fs s.rows w (pos t))
  file-at-offset = offset-file (holds l)

  -- 14: 'not below the total'
  pub no-file-at-offset : (w : Window) (t : ℕ) → bytes_of (book n made).rows ≤ t → file_at_offset_given s.fs s.rows w (pos t) ≡ refused 14
  no-file-at-offset = offset-past (holds l)

  pub file-range-is : file_range_given s.fs ≡ value (range 0 (length sizes))
  file-range-is = all-files (holds l)

  -- document 02 (v): 'the file in which each piece begins', of a set that keeps it: the file with the piece's first byte
  pub first-file-given : s.fs.indexed ≡ true → (p : ℕ) → p < pieces_of n sizes → InFile sizes (get_or s.firsts p 0) (p * n)
  first-file-given i p h =
      let g = agrees l in
      let w = (firsts-kept l i).each p (ceiling-below (sum sizes) n g.some p h) in
      record { from = w.low; below = omega (arith, w.high, end_is sizes (get_or s.firsts p 0)) }

  -- 13 does not apply
  module _ (few : pieces_of n sizes ≤ 2147483647) where
    pub num-pieces-is : num_pieces_given s.fs ≡ value (pos (pieces_of n sizes))
    num-pieces-is = count-of-pieces (holds l) few

    pub last-piece-is : last_piece_given s.fs ≡ value (last_of (pieces_of n sizes))
    last-piece-is = last-of-pieces (holds l) few

    pub piece-range-is : piece_range_given s.fs ≡ value (range 0 (pieces_of n sizes))
    piece-range-is = all-pieces (holds l) few

    module _ (p : ℕ) (there : p < pieces_of n sizes) where
      pub file-at-piece : (w : Window) → FileAt sizes (p * n) (file_at_piece_given s.fs s.rows w (pos p))
      file-at-piece w = piece-file (holds l) few w p there

      pub last-file-at-piece : (w : Window) → FileAt sizes (last_byte n sizes p) (last_file_at_piece_given s.fs s.rows w (pos p))
      last-file-at-piece w = piece-last-file (holds l) few w p there

      pub piece-size-is : piece_size_given s.fs (pos p) ≡ value (pos (bytes_of_piece n sizes p))
      piece-size-is = piece-size (holds l) few p there

      pub piece-size2-is : (w : Window) → PieceSize2 n sizes p (piece_size2_given s.fs s.rows w (pos p))
      piece-size2-is w = piece-size2 (holds l) few w p there

    module _ (k : ℕ) (there : k < length sizes) where
      -- the piece of its first byte; of an empty file, the piece of the byte that it begins at
      pub piece-at-file : PieceAt n (begin_of sizes k) (piece_at_file_given s.fs s.rows (pos k))
      piece-at-file = file-piece (holds l) few k there

      -- the piece of its last byte, where it has one
      pub last-piece-at-file : 0 < get_or sizes k 0 → PieceAt n (end_of sizes k - 1) (last_piece_at_file_given s.fs s.rows (pos k))
      last-piece-at-file = file-last-piece (holds l) few k there

      pub inclusive-pieces : 0 < get_or sizes k 0 → Inclusive n sizes k (inclusive_given s.fs s.rows (pos k))
      inclusive-pieces = file-inclusive (holds l) few k there

      pub exclusive-pieces : exclusive_given s.fs s.rows (pos k) ≡ value (range (exclusive_begin n sizes k) (exclusive_end n sizes k))
      exclusive-pieces = file-exclusive (holds l) few k there

      -- of any file, so `% 2 ^ 31` changes no number
      pub last-piece-number : last_piece_at_file_given s.fs s.rows (pos k) ≡ value (last_piece n (end_of sizes k))
      last-piece-number = last-piece-plain (holds l) few k there

      pub inclusive-numbers : inclusive_given s.fs s.rows (pos k) ≡ value (range (inclusive_begin n sizes k) (inclusive_end n sizes k))
      inclusive-numbers = inclusive-plain (holds l) few k there

      -- bytes from place o of the file on
      pub map-file-is : (o m : ℕ) → o ≤ limit → file_mapped s.fs s.rows (pos k) (pos o) (pos m) ≡ value (request_at n sizes (begin_of sizes k + o) m)
      map-file-is = file-mapped (holds l) few k there

      -- the pieces of its tree
      pub tree-pieces-number : file_num_pieces_given s.fs s.rows (pos k) ≡ tree_answer (is_tree n sizes k (marked k)) (pos (tree_pieces n sizes k))
      tree-pieces-number = rw (← marked-is k there) (tree-pieces (holds l) few k there)

      pub tree-pieces-range : file_piece_range_given s.fs s.rows (pos k) ≡ tree_answer (is_tree n sizes k (marked k)) (range 0 (tree_pieces n sizes k))
      tree-pieces-range = rw (← marked-is k there) (tree-range (holds l) few k there)
