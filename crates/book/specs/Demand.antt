-- Demand 3: what is asked of the set that a list of calls led to, and what must hold of the answers. The premises are
-- the port's promises: `ValidCall.call` is what `map_block` ensures (`block_mapped` of `mapping`), and `Right.back`
-- asks of whatever `map_file` ensures (`file_mapped` of `files`). What must hold is said by Slices.antt and by the
-- records of the answers: `FileSlice` and `Outcome` of `types`, `SignedRequest` of `rules`.
--
-- Names from elsewhere: `pos n` is the integer n, and `natural` reads it back (Book.antt). `take n` and `drop n` are
-- the first n elements and the rest; `part_of xs at n` is the n elements from position `at` on; `value a` is an answer,
-- `refused k` a refusal by number k.
use Rattle.std.specs.Prelude.{ℕ, ◌+◌, ◌*◌, ◌≤◌, ◌<◌, ◌≡◌, List, [], ◌∷◌, ◌++◌, map, pos, length, take}
use Rattle.lists.specs.Lists.{sum, part_of}
use Rattle.types.specs.Refusals.{Outcome, value, refused}
use Rattle.types.specs.declared.index.FileSlice.{FileSlice}
use Rattle.tables.specs.Model.{Store}
use Rattle.rules.specs.Results.{SignedRequest}
use Rattle.layout.specs.declared.window.Window.{Window}
use Rattle.files.specs.Given.{file_mapped}
use Rattle.mapping.specs.Table.{Filled, block_mapped}
use Rattle.book.specs.Book.{natural}
use Rattle.book.specs.Slices.{Slice, slice, joined, whole_files, bytes_in, AscendingFrom, meets, end_to_end}
use Rattle.book.specs.Slices.{content_of}

-- a call of `map_block`: its arguments, the table lent to it, its answer, and the table that it left. Any window is
-- asked with: that of the set's table of first files, of another, or none
pub record MapCall : Type 0 where
  pub window : Window
  pub piece : ℕ
  pub offset : ℕ
  pub size : ℕ
  pub lent : List FileSlice
  pub says : Outcome ℕ
  pub left : List FileSlice

-- the number of slices in an answer
abbrev pub counted : Outcome ℕ → ℕ
counted (value n) = n
counted (refused k) = 0

-- the slice that a record of the table says, and the record of a slice
abbrev pub slice_of : FileSlice → Slice
slice_of p = slice (natural p.file_index.0) (natural p.offset) (natural p.size)

abbrev pub record_of : Slice → FileSlice
record_of p = record { file_index = record { 0 = pos p.file }; offset = pos p.offset; size = pos p.size }

-- the slices that a call returned: the first `counted` records of the table
abbrev pub slices_given : MapCall → List Slice
slices_given q = map slice_of (take (counted q.says) q.left)

-- the call q asks for the block at byte t: 'A block here has any size above 0, asked from any piece starting at or
-- before it', with a table that has a record for each file that the block meets
pub record ValidCall (piece_length : ℕ) (sizes : List ℕ) (s : Store) (t : ℕ) (q : MapCall) : Type 0 where
  pub place : q.piece * piece_length + q.offset ≡ t
  pub nonempty : 0 < q.size
  pub room : meets sizes t q.size ≤ length q.lent
  pub call : ◌≡◌ {A = Filled} (record { says = q.says; table = q.left })
      (block_mapped s.fs s.rows q.window (pos q.piece) (pos q.offset) (pos q.size) q.lent)

-- the calls ask for consecutive blocks from byte t to byte e
abbrev pub Cut : ℕ → List ℕ → Store → ℕ → ℕ → List MapCall → Type 0
Cut n sizes s t e [] = t ≡ e
Cut n sizes s t e (q ∷ qs) = ValidCall n sizes s t q × Cut n sizes s (t + q.size) e qs

-- the answer r of `map_file` is the piece that holds a byte of the set, and the byte's offset in it
pub record Back (piece_length byte : ℕ) (r : Outcome SignedRequest) : Type 0 where
  pub piece : ℕ
  pub start : ℕ
  pub length : ℕ
  pub answer : r ≡ value (record { piece = pos piece; start = pos start; length = pos length })
  pub holds : piece * piece_length + start ≡ byte
  pub inside : start < piece_length

-- the slice p is nonempty, its first byte is the byte `byte` of the set, and it maps back to it: 'Mapping back is
-- `map_file` at the slice's file and offset, any size from 0'
pub record Right (piece_length : ℕ) (sizes : List ℕ) (s : Store) (byte : ℕ) (p : Slice) : Type 0 where
  pub nonempty : 0 < p.size
  pub first : sum (take p.file sizes) + p.offset ≡ byte
  pub back : (n : ℕ) (r : Outcome SignedRequest)
      → r ≡ file_mapped s.fs s.rows (pos p.file) (pos p.offset) (pos n)
      → Back piece_length byte r

-- what must hold of the call q for the block at byte t
pub record Block (piece_length : ℕ) (sizes : List ℕ) (s : Store) (t : ℕ) (q : MapCall) : Type 0 where
  pub answered : q.says ≡ value (meets sizes t q.size)
  -- the table's records are those of the slices, so no number in them is negative
  pub plain : take (counted q.says) q.left ≡ map record_of (slices_given q)
  pub ascending : AscendingFrom 0 (slices_given q)
  pub all : bytes_in (slices_given q) ≡ q.size
  pub each : (a : List Slice) (p : Slice) (b : List Slice)
      → slices_given q ≡ a ++ p ∷ b
      → Right piece_length sizes s (t + bytes_in a) p
  -- whatever the files hold, the slices stand for the block's bytes
  pub content : (cs : List (List ℕ))
      → map length cs ≡ sizes
      → content_of cs (slices_given q) ≡ part_of (end_to_end cs) t q.size

abbrev pub Blocks : ℕ → List ℕ → Store → ℕ → List MapCall → Type 0
Blocks n sizes s t [] = Unit {0}
Blocks n sizes s t (q ∷ qs) = Block n sizes s t q × Blocks n sizes s (t + q.size) qs

abbrev pub all_slices_given : List MapCall → List Slice
all_slices_given [] = []
all_slices_given (q ∷ qs) = slices_given q ++ all_slices_given qs

-- the blocks' slices, joined, are each nonempty file once and whole; and each block is right
pub record Demand3 (piece_length : ℕ) (sizes : List ℕ) (s : Store) (qs : List MapCall) : Type 0 where
  pub whole : joined (all_slices_given qs) ≡ whole_files sizes
  pub blocks : Blocks piece_length sizes s 0 qs
