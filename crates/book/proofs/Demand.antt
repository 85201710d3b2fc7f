-- Demand 3 of the questions: on tables that hold files of these sizes, each block of a cut is answered, its slices stand
-- for its bytes and map back, and the slices of all blocks join to each file once, whole. It relies on the laws of one
-- block (proofs/Blocks.antt) and on what the tables hold (proofs/Tables.antt).
--     many-blocks, many-files           both questions refused, where there are too many pieces
--     block-answered, back-answered     else what they answer
--     block-is, demand-of               one block, and demand 3
use mathlib.Core.Path.{◌≡◌, refl, sym, ap, ap₂, ◌∙◌, subst}
use mathlib.Core.Bool.{true, false, ◌&&◌}
use mathlib.Core.List.{List, [], ◌∷◌, ◌++◌, map}
use Prim.Native.Nat.{ℕ, ◌+◌, ◌-◌, ◌*◌, ◌/◌, ◌%◌, ◌≤◌, ◌<◌, min}
use native.Mathlib.Nat.{div-add-mod', mod-lt}
use native.Mathlib.Omega.{arith}
use lib.Dec.{leb}
use lib.IntN.{ℤ, pos}
use lib.ListN.{length, take, length-map}
use lib.Seq.{sets}
use borrow.Author.Tests.{lt-ltb, le-ltb, le-leb, lt-leb}
use Rattle.lists.specs.Lists.{sum, ceiling}
use Rattle.lists.proofs.Quotients.{ceiling-above}
use Rattle.lists.proofs.Runs.{part-sets}
use Rattle.lists.proofs.Sums.{sum-take-more, sum-take-le}
use Rattle.types.specs.Refusals.{Outcome, value, refused}
use Rattle.types.specs.declared.index.FileSlice.{FileSlice}
use Rattle.tables.specs.declared.storage.FileStorage.{FileStorage}
use Rattle.tables.specs.Rows.{row_at}
use Rattle.tables.specs.Model.{File, Store, view_of}
use Rattle.rules.specs.Rules.{Rule, first_of}
use Rattle.rules.specs.Bounds.{bad_length, limit}
use Rattle.rules.specs.Questions.{rows_are_held, bad_piece_length, many_pieces, no_piece, no_file, bad_range, short, few_entries}
use Rattle.sound.specs.Sound.{Sound}
use Rattle.rules.specs.Results.{SignedRequest}
use Rattle.layout.specs.declared.window.Window.{Window}
use Rattle.layout.specs.Mapping.{block_of}
use Rattle.layout.specs.declared.slices.Slice as layout_slices
use Rattle.mapping.specs.Table.{Filled, filled, block_mapped}
use Rattle.mapping.specs.Table as mapping
use Rattle.files.specs.Given.{file_mapped}
use Rattle.rules.proofs.Rules.{Passed}
use Rattle.book.specs.Slices.{Slice, joined, bytes_in, meets}
use Rattle.book.specs.Demand.{MapCall, counted, slice_of, record_of, slices_given, ValidCall, Cut, Back, Block, Blocks, all_slices_given, Demand3}
use Rattle.book.proofs.Walks.{walk, walk-ascends, cut, join-blocks}
use Rattle.book.proofs.Blocks.{walk-bytes, walk_meets, Lies, Lie, lies_at, walk-lie, walk-content}
use Rattle.book.proofs.Tables.{Holds, held-in-order, as_slice, slices-are, records-are, slices-back}

-- ---- refusals that do not apply

pub first-none : (rs : List Rule) → Passed rs → first_of rs ≡ 0
first-none [] p = refl
first-none (r ∷ rs) (e, p) = rw e (first-none rs p)

length-good : (n : ℕ) → 0 < n → n ≤ 2147483647 → bad_length n ≡ false
length-good n h k = rw (le-ltb n 1 h, le-ltb 2147483647 n k)

module _ {n : ℕ} {xs : List ℕ} {fs : FileStorage} {rows : List ℕ} (h : Holds n xs fs rows) where
  pub is_open : (bad_piece_length fs).test ≡ false
  is_open = rw h.long (length-good n h.some h.signed)

  pub all_held : (short (rows_are_held fs rows && few_entries fs)).test ≡ false
  all_held =
      let e : leb (length xs) (length rows / 8) ≡ true = le-leb (length xs) (length rows / 8) (omega (arith, h.held)) in
      let f : leb (length xs) 65535 ≡ true = le-leb (length xs) 65535 h.few in
      let p : leb fs.num_paths 65535 ≡ true = le-leb fs.num_paths 65535 h.few-paths in
      rw (h.count, e, f, p)

  low-place : (o : ℕ) → o ≤ limit → (m : ℕ) → (bad_range (pos o) (pos m)).test ≡ false
  low-place o k m = le-ltb limit o k

  -- a file that is there
  pub file-there : (k : ℕ) → k < length xs → (no_file fs (pos k)).test ≡ false
  file-there k l = rw (h.count, lt-ltb k (length xs) l)

  -- ---- too many pieces

  module _ (many : 2147483647 < ceiling (sum xs) n) where
    too_many : (many_pieces fs).test ≡ true
    too_many = rw (h.long, h.total) (lt-ltb 2147483647 (ceiling (sum xs) n) many)

    pub many-blocks : (w : Window) (z offset size : ℤ) (out : List FileSlice) → ◌≡◌ {A = Filled} (block_mapped fs rows w z offset size out) (record { says = refused 13; table = out })
    many-blocks w z offset size out = rw (is_open, too_many)

    pub many-files : (k : ℕ) → k < length xs → (offset size : ℤ) → file_mapped fs rows (pos k) offset size ≡ refused 13
    many-files k l offset size = rw (is_open, file-there k l, too_many)

  -- ---- as many pieces as can be numbered

  module _ (few : ceiling (sum xs) n ≤ 2147483647) where
    pub not-many : (many_pieces fs).test ≡ false
    not-many = rw (h.long, h.total) (le-ltb 2147483647 (ceiling (sum xs) n) few)

    pub piece-there : (p o : ℕ) → p * n + o < sum xs → (no_piece fs (pos p)).test ≡ false
    piece-there p o l = rw (h.long, h.total, lt-ltb p (ceiling (sum xs) n) (ceiling-above (sum xs) n h.some p (omega arith)))

    -- a block with a place for each of its slices
    block-answered : (w : Window) (p o m : ℕ) (out : List FileSlice) → p * n + o < sum xs → meets xs (p * n + o) m ≤ length out
        → ◌≡◌ {A = Filled} (block_mapped fs rows w (pos p) (pos o) (pos m) out)
        (record { says = value (meets xs (p * n + o) m); table = sets out 0 (map record_of (walk 0 xs (p * n + o) m)) })
    block-answered w p o m out l room =
        let b : List layout_slices.Slice = block_of fs rows w (pos p) (pos o) (pos m) in
        let e : map as_slice b ≡ walk 0 xs (p * n + o) m = rw h.long (slices-are h w (p * n + o) m) in
        let d : length b ≡ meets xs (p * n + o) m = sym (length-map b as_slice) ∙ ap length e ∙ walk_meets xs (p * n + o) m in
        let recorded : map mapping.record_of b ≡ map record_of (walk 0 xs (p * n + o) m) =
        records-are xs (p * n + o) b h.few (subst (Lie xs (p * n + o)) (sym e) (walk-lie xs (p * n + o) m)) ∙ ap (map record_of) e in
        let places : (short (leb (length b) (length out))).test ≡ false = rw (d, le-leb (meets xs (p * n + o) m) (length out) room) in
        let none =
        first-none
        (bad_piece_length fs ∷ many_pieces fs ∷ no_piece fs (pos p) ∷ bad_range (pos o) (pos m) ∷ short (rows_are_held fs rows && few_entries fs) ∷
        short (leb (length b) (length out)) ∷ [])
        (is_open, (not-many, (piece-there p o l, (low-place o (omega (arith, h.limited)) m, (all_held, (places, tt)))))) in
        ap (λ (k : ℕ). filled k b out) none ∙
        ap₂ (λ (k : ℕ) (r : List FileSlice). record { says = value k; table = sets out 0 r }) d recorded

    -- a request for a byte of the set that lies in a file that is there
    back-answered : (t : ℕ) (p : Slice) → Lies xs t p → (m : ℕ)
        → file_mapped fs rows (pos p.file) (pos p.offset) (pos m)
        ≡ value (record { piece = pos (t / n); start = pos (t % n); length = pos (min m (sum xs - t)) })
    back-answered t p w m =
        let e : (row_at rows p.file).offset + p.offset ≡ t = ap (λ (k : ℕ). k + p.offset) (h.offsets p.file w.known) ∙ w.first in
        let a = sum-take-more xs p.file in
        let b = sum-take-le xs (p.file + 1) in
        let l : t < sum xs = omega (arith, w.first, w.within, w.nonempty) in
        let c = lt-leb (sum xs) t l in
        let none =
        first-none
        (bad_piece_length fs ∷ no_file fs (pos p.file) ∷ many_pieces fs ∷ bad_range (pos p.offset) (pos m) ∷ short (rows_are_held fs rows && few_entries fs) ∷ [])
        (is_open, (file-there p.file w.known, (not-many, (low-place p.offset (omega (arith, h.limited, w.within)) m, (all_held, tt))))) in
        rw (none, e, h.total, h.long, c)

-- ---- the blocks of a set

module _ {n : ℕ} {xs : List ℕ} (s : Store) (h : Holds n xs s.fs s.rows) (few : ceiling (sum xs) n ≤ 2147483647) where
  -- what a block's call gives
  call-is : (t : ℕ) (q : MapCall) → ValidCall n xs s t q → t + q.size ≤ sum xs
      → ◌≡◌ {A = Filled} (record { says = q.says; table = q.left }) (record { says = value (meets xs t q.size); table = sets q.lent 0 (map record_of (walk 0 xs t q.size)) })
  call-is t q a l =
      let e = block-answered h few q.window q.piece q.offset q.size q.lent (omega (arith, a.place, a.nonempty)) (rw a.place a.room) in
      a.call ∙ (rw a.place at e)

  answer-is : (t : ℕ) (q : MapCall) → ValidCall n xs s t q → t + q.size ≤ sum xs → q.says ≡ value (meets xs t q.size)
  answer-is t q a l = ap (λ (f : Filled). f.says) (call-is t q a l)

  given_is : (t : ℕ) (q : MapCall) → ValidCall n xs s t q → t + q.size ≤ sum xs → slices_given q ≡ walk 0 xs t q.size
  given_is t q a l =
      let r : List FileSlice = map record_of (walk 0 xs t q.size) in
      let d : meets xs t q.size ≡ length r = sym (length-map (walk 0 xs t q.size) record_of ∙ walk_meets xs t q.size) in
      ap (λ (f : Filled). map slice_of (take (counted f.says) f.table)) (call-is t q a l) ∙
      ap (λ (k : ℕ). map slice_of (take k (sets q.lent 0 r))) d ∙
      ap (map slice_of) (part-sets r q.lent 0 (omega (arith, d, a.room))) ∙
      slices-back (walk 0 xs t q.size)

  plain-is : (t : ℕ) (q : MapCall) → ValidCall n xs s t q → t + q.size ≤ sum xs → take (counted q.says) q.left ≡ map record_of (slices_given q)
  plain-is t q a l =
      let r : List FileSlice = map record_of (walk 0 xs t q.size) in
      let d : meets xs t q.size ≡ length r = sym (length-map (walk 0 xs t q.size) record_of ∙ walk_meets xs t q.size) in
      ap (λ (f : Filled). take (counted f.says) f.table) (call-is t q a l) ∙
      ap (λ (k : ℕ). take k (sets q.lent 0 r)) d ∙
      part-sets r q.lent 0 (omega (arith, d, a.room)) ∙
      ap (map record_of) (sym (given_is t q a l))

  back_is : (t : ℕ) (p : Slice) → Lies xs t p → (m : ℕ) (r : Outcome SignedRequest) → r ≡ file_mapped s.fs s.rows (pos p.file) (pos p.offset) (pos m) → Back n t r
  back_is t p w m r e =
      record {
        piece = t / n;
        start = t % n;
        length = min m (sum xs - t);
        answer = e ∙ back-answered h few t p w m;
        holds = div-add-mod' t n;
        inside = mod-lt t h.some;
      }

  block-is : (t : ℕ) (q : MapCall) → ValidCall n xs s t q → t + q.size ≤ sum xs → Block n xs s t q
  block-is t q a l =
      let e = given_is t q a l in
      record {
        answered = answer-is t q a l;
        plain = plain-is t q a l;
        ascending = rw e (walk-ascends 0 xs t q.size);
        all = rw e (walk-bytes 0 xs t q.size l);
        each =
            λ (b : List Slice) (p : Slice) (c : List Slice) (d : slices_given q ≡ b ++ p ∷ c).
            let w : Lies xs (t + bytes_in b) p = lies_at xs t b p c (subst (Lie xs t) (sym e ∙ d) (walk-lie xs t q.size)) in
            record { nonempty = w.nonempty; first = w.first; back = back_is (t + bytes_in b) p w };
        content = λ (cs : List (List ℕ)) (d : map length cs ≡ xs). rw e (walk-content cs xs t q.size d);
      }

  abbrev sizes_asked : List MapCall → List ℕ
  sizes_asked qs = map (λ (q : MapCall). q.size) qs

  -- blocks in a row from byte t to byte e: each as above, together the walks over them, and all the bytes between
  record InRow (t e : ℕ) (qs : List MapCall) : Type 0 where
    blocks : Blocks n xs s t qs
    slices : all_slices_given qs ≡ cut xs t (sizes_asked qs)
    bytes : t + sum (sizes_asked qs) ≡ e

  row_is : (t e : ℕ) (qs : List MapCall) → Cut n xs s t e qs → e ≤ sum xs → InRow t e qs
  row_is t e [] a l = record { blocks = tt; slices = refl; bytes = omega arith }
  row_is t e (q ∷ qs) (a, bs) l =
      let r = row_is (t + q.size) e qs bs l in
      let m : t + q.size ≤ sum xs = omega (arith, r.bytes) in
      record {
        blocks = (block-is t q a m, r.blocks);
        slices = ap₂ ◌++◌ (given_is t q a m) r.slices;
        bytes = omega (arith, r.bytes);
      }

  pub demand-met : (qs : List MapCall) → Cut n xs s 0 (sum xs) qs → Demand3 n xs s qs
  demand-met qs a =
      let r = row_is 0 (sum xs) qs a (omega arith) in
      record {
        whole = ap joined r.slices ∙ join-blocks xs (sizes_asked qs) (omega (arith, r.bytes));
        blocks = r.blocks;
      }

-- demand 3 on a set in order whose files have these sizes
pub demand-of : (n : ℕ) (sizes : List ℕ) (s : Store) (qs : List MapCall) → Sound s → s.fs.piece_length ≡ n → 0 < n → n ≤ 2147483647
    → map (λ (f : File). f.size) (view_of s).files ≡ sizes → ceiling (sum sizes) n ≤ 2147483647
    → Cut n sizes s 0 (sum sizes) qs → Demand3 n sizes s qs
demand-of n sizes s qs w e p q d few a = demand-met s (held-in-order n sizes s w e p q d) few qs a
