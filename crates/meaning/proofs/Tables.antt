-- The layout answers on tables that hold files of given sizes, end to end; those that search are the same for every
-- window. They rely on the law of the search that begins with a window in `layout`, on what tables hold in `book`, and on
-- Numbers.antt.
--     all-files, count-of-pieces, last-of-pieces, all-pieces     the set
--     file-mapped                       `map_file`
--     offset-file, offset-past          the file at an offset
--     piece-file, piece-last-file       the file at a piece's first byte and at its last
--     file-piece, file-last-piece       the first and the last piece of a file
--     piece-size, piece-size2           the size of a piece
--     file-exclusive, file-inclusive    the pieces of a file
--     last-piece-plain, inclusive-plain, tree-pieces, tree-range    numbers that no rest by 2 ^ 31 changes
use Prim.Native.Nat.{ℕ, zero, suc, ◌+◌, ◌-◌, ◌*◌, ◌/◌, ◌%◌, ◌^◌, ◌≤◌, ◌<◌, min, max}
use mathlib.Core.Path.{◌≡◌, refl, sym, ap, ap₂, ◌∙◌}
use mathlib.Core.Logic.{◌⊎◌, inl, inr}
use mathlib.Core.Bool.{Bool, true, false, cond, not, ◌&&◌, ◌||◌}
use mathlib.Core.List.{List, [], ◌∷◌}
use native.Mathlib.Nat.{le-div_iff_mul-le, div-lt_iff_lt-mul, div-add-mod', mul-div_cancel, add-zero}
use native.Mathlib.Omega.{arith}
use borrow.Author.Tests.{eqb-false, ne_eqb, ltb-true, ltb-false, lt-ltb, le-ltb, le-leb, lt-leb}
use lib.Dec.{eqb, ltb, leb}
use lib.IntN.{ℤ, pos, negsuc}
use lib.ListN.{length, get_or}
use lib.Seq.{take_all}
use Rattle.lists.specs.Lists.{sum, ceiling}
use Rattle.lists.proofs.Orders.{le-or-lt}
use Rattle.lists.proofs.Sums.{sum-take-le}
use Rattle.lists.proofs.Quotients.{ceiling-below, ceiling-covers, ceiling-is, ceiling-le, ceiling-mono}
use Rattle.types.specs.Refusals.{Outcome, value, refused}
use Rattle.tables.specs.declared.storage.FileStorage.{FileStorage}
use Rattle.tables.specs.Rows.{row_at, has, pad_bit}
use Rattle.rules.specs.Rules.{Rule, when}
use Rattle.rules.specs.Bounds.{limit}
use Rattle.rules.specs.Results.{Range, SignedRequest}
use Rattle.rules.specs.Questions.{answered, num_pieces, rows_are_held, bad_piece_length, many_pieces, no_piece, no_file, bad_range, bad_offset, no_tree, short, few_entries}
use Rattle.rules.specs.Questions.{piece_answer, file_pieces_answer}
use Rattle.rules.proofs.Rules.{Passed, either-false}
use Rattle.layout.specs.declared.window.Window.{Window}
use Rattle.layout.specs.Search.{found_within, partition_point, offset_at}
use Rattle.layout.specs.Pieces as pieces
use Rattle.layout.specs.Given.{num_pieces_given, last_piece_given, piece_range_given, file_range_given, file_at_offset_given, file_at_piece_given, last_file_at_piece_given, piece_size_given, piece_size2_given}
use Rattle.layout.proofs.Halving.{Last}
use Rattle.layout.proofs.Starting.{found_within_lem}
use Rattle.files.specs.Request.{Request, file_start, map_file, as_signed}
use Rattle.files.specs.Files as files
use Rattle.files.specs.Given.{piece_at_file_given, last_piece_at_file_given, exclusive_given, inclusive_given, file_num_pieces_given, file_piece_range_given, file_mapped}
use Rattle.book.proofs.Tables.{Holds, laid}
use Rattle.book.proofs.Demand.{first-none, is_open, all_held, file-there, not-many, piece-there}
use Rattle.meaning.specs.Layout.{begin_of, end_of, InFile, pieces_of, bytes_of_piece, last_of, FileAt, last_byte, PieceAt, last_piece, PieceSize2, range, Shares, Inclusive}
use Rattle.meaning.specs.Layout.{mapped_start, inclusive_begin, piece_after, inclusive_end, exclusive_begin, end_or_begin, exclusive_end, request_at, is_tree, tree_answer, tree_pieces}
use Rattle.meaning.proofs.Numbers.{end_is, end_low, some-file, next, piece_of, quotient-low, round_up, size_of}

-- no rule holds
pub given : {A : Type 0} (rs : List Rule) → Passed rs → (a : A) → answered rs a ≡ value a
given rs p a = rw (first-none rs p)

-- a number that 31 bits hold
low : (k : ℕ) → k ≤ 2147483647 → k % 2 ^ 31 ≡ k
low k h = omega arith

-- the request for a file's first byte, which is byte b, by whether that is below the total
abbrev request_by : ℕ → List ℕ → ℕ → Bool → Request
request_by n xs b true = record { piece = b / n; start = b % n; length = min 1 (sum xs - b) }
request_by n xs b false = record { piece = pieces_of n xs; start = 0; length = 0 }

abbrev request_in : ℕ → ℕ → ℕ → Request
request_in total m b =
    cond (leb total b) (record { piece = ceiling total m; start = 0; length = 0 })
    (record { piece = b / m; start = b % m; length = min 1 (total - b) })

-- a range by what it is computed from
abbrev exclusive_in : ℕ → ℕ → ℕ → ℕ → ℕ → ℕ → ℕ → Range
exclusive_in k files m count begin position size =
    record { begin = pos begin; end = pos (cond (eqb (k + 1) files) count (end_or_begin begin ((position + size + 1) / m)) % 2 ^ 31) }

same-exclusive : (k : ℕ) {f f' m m' c c' g g' p p' s s' : ℕ} → f ≡ f' → m ≡ m' → c ≡ c' → g ≡ g' → p ≡ p' → s ≡ s' → exclusive_in k f m c g p s ≡ exclusive_in k f' m' c' g' p' s'
same-exclusive k ef em ec eg ep es = cc

abbrev inclusive_in : ℕ → ℕ → ℕ → ℕ → Range
inclusive_in m begin position size = record { begin = pos begin; end = pos (piece_after m (position + size) % 2 ^ 31) }

same-inclusive : {m m' g g' p p' s s' : ℕ} → m ≡ m' → g ≡ g' → p ≡ p' → s ≡ s' → inclusive_in m g p s ≡ inclusive_in m' g' p' s'
same-inclusive em eg ep es = cc

module _ {n : ℕ} {xs : List ℕ} {fs : FileStorage} {rows : List ℕ} (h : Holds n xs fs rows) where
  -- ---- the file at a byte

  -- whatever window the search begins with
  found : (w : Window) (t : ℕ) → t < sum xs → Last rows (length xs) t (found_within rows (length xs) w t)
  found w t l =
      let p = some-file xs t l in
      found_within_lem rows (length xs) t (laid h) w p (omega (arith, h.offsets 0 p))

  has-byte : (t k : ℕ) → t < sum xs → Last rows (length xs) t k → InFile xs k t
  has-byte t k l w = record { from = rw (h.offsets k w.among) at w.low; below = at (le-or-lt (length xs) (k + 1)) }
    where
      at : (length xs ≤ k + 1) ⊎ (k + 1 < length xs) → t < end_of xs k
      at (inl e) = rw (take_all (k + 1) xs e) l
      at (inr e) = rw (h.offsets (k + 1) e) at (w.high (k + 1) (omega arith) e)

  file-at : (w : Window) (t : ℕ) → t < sum xs → (r : Outcome ℤ) → r ≡ value (pos (found_within rows (length xs) w t)) → FileAt xs t r
  file-at w t l r e =
      let f = found w t l in
      record {
        file = found_within rows (length xs) w t;
        answer = e;
        among = f.among;
        holds = has-byte t (found_within rows (length xs) w t) l f;
        last = λ k a b. rw (h.offsets k b) at (f.high k a b);
      }

  pub offset-file : (w : Window) (t : ℕ) → t < sum xs → FileAt xs t (file_at_offset_given fs rows w (pos t))
  offset-file w t l =
      let below : (bad_offset fs (pos t)).test ≡ false = rw (le-ltb limit t (omega (arith, h.limited)), h.total, lt-leb (sum xs) t l) in
      let e = given (bad_piece_length fs ∷ bad_offset fs (pos t) ∷ short (rows_are_held fs rows && few_entries fs) ∷ []) (is_open h, (below, (all_held h, tt))) (pos (found_within rows fs.num_files w t)) in
      file-at w t l (file_at_offset_given fs rows w (pos t)) (e ∙ ap (λ (c : ℕ). value (pos (found_within rows c w t))) h.count)

  pub offset-past : (w : Window) (t : ℕ) → sum xs ≤ t → file_at_offset_given fs rows w (pos t) ≡ refused 14
  offset-past w t l =
      let past : (bad_offset fs (pos t)).test ≡ true = rw (h.total, le-leb (sum xs) t l) (either (ltb limit t)) in
      rw (is_open h, past)
    where
      either : (b : Bool) → (b || true) ≡ true
      either true = refl
      either false = refl

  counted : (short (few_entries fs)).test ≡ false
  counted =
      let f : leb (length xs) 65535 ≡ true = le-leb (length xs) 65535 h.few in
      let p : leb fs.num_paths 65535 ≡ true = le-leb fs.num_paths 65535 h.few-paths in
      rw (h.count, f, p)

  pub all-files : file_range_given fs ≡ value (range 0 (length xs))
  all-files =
      given (bad_piece_length fs ∷ short (few_entries fs) ∷ []) (is_open h, (counted, tt)) (range 0 fs.num_files)
      ∙ ap (λ (c : ℕ). value (range 0 c)) h.count

  -- ---- as many pieces as can be numbered

  module _ (few : pieces_of n xs ≤ 2147483647) where
    piece-begins : (q : ℕ) → q < pieces_of n xs → q * n < sum xs
    piece-begins q l = ceiling-below (sum xs) n h.some q l

    there : (q : ℕ) → q < pieces_of n xs → (no_piece fs (pos q)).test ≡ false
    there q l = piece-there h few q 0 (omega (arith, piece-begins q l))

    piece-answer : {A : Type 0} (a : ℕ → A) (q : ℕ) → q < pieces_of n xs → piece_answer fs (pos q) (rows_are_held fs rows) a ≡ value (a q)
    piece-answer a q l =
        given (bad_piece_length fs ∷ many_pieces fs ∷ no_piece fs (pos q) ∷ short (rows_are_held fs rows && few_entries fs) ∷ [])
        (is_open h, (not-many h few, (there q l, (all_held h, tt))))
        (a q)

    file-answer : {A : Type 0} (a : ℕ → A) (k : ℕ) → k < length xs → file_pieces_answer fs (pos k) (rows_are_held fs rows) a ≡ value (a k)
    file-answer a k l =
        given (bad_piece_length fs ∷ no_file fs (pos k) ∷ many_pieces fs ∷ short (rows_are_held fs rows && few_entries fs) ∷ [])
        (is_open h, (file-there h k l, (not-many h few, (all_held h, tt))))
        (a k)

    -- ---- the set

    count-is : num_pieces fs ≡ pieces_of n xs
    count-is = ap₂ ceiling h.total h.long

    set-answer : {A : Type 0} (a : A) → answered (bad_piece_length fs ∷ many_pieces fs ∷ short (few_entries fs) ∷ []) a ≡ value a
    set-answer a = given (bad_piece_length fs ∷ many_pieces fs ∷ short (few_entries fs) ∷ []) (is_open h, (not-many h few, (counted, tt))) a

    pub count-of-pieces : num_pieces_given fs ≡ value (pos (pieces_of n xs))
    count-of-pieces = set-answer (pos (num_pieces fs)) ∙ ap (λ (c : ℕ). value (pos c)) count-is

    pub last-of-pieces : last_piece_given fs ≡ value (last_of (pieces_of n xs))
    last-of-pieces = set-answer (pieces.less_one (num_pieces fs)) ∙ ap (λ (c : ℕ). value (last_of c)) count-is

    pub all-pieces : piece_range_given fs ≡ value (range 0 (pieces_of n xs))
    all-pieces = set-answer (range 0 (num_pieces fs)) ∙ ap (λ (c : ℕ). value (range 0 c)) count-is

    -- ---- pieces

    size_is : (q : ℕ) → q < pieces_of n xs → pieces.piece_size fs q ≡ bytes_of_piece n xs q
    size_is q l = rw (h.long, h.total) (size_of n (sum xs) q h.some l)

    pub piece-size : (q : ℕ) → q < pieces_of n xs → piece_size_given fs (pos q) ≡ value (pos (bytes_of_piece n xs q))
    piece-size q l =
        given (bad_piece_length fs ∷ many_pieces fs ∷ no_piece fs (pos q) ∷ short (few_entries fs) ∷ []) (is_open h, (not-many h few, (there q l, (counted, tt)))) (pos (pieces.piece_size fs q))
        ∙ ap (λ (k : ℕ). value (pos k)) (size_is q l)

    pub piece-file : (w : Window) (q : ℕ) → q < pieces_of n xs → FileAt xs (q * n) (file_at_piece_given fs rows w (pos q))
    piece-file w q l =
        let b = piece-begins q l in
        file-at w (q * n) b (file_at_piece_given fs rows w (pos q))
        (piece-answer (λ p. pos (pieces.file_at_piece fs rows w p)) q l
        ∙ ap₂ (λ (c m : ℕ). value (pos (found_within rows c w (q * m)))) h.count h.long)

    pub piece-last-file : (w : Window) (q : ℕ) → q < pieces_of n xs → FileAt xs (last_byte n xs q) (last_file_at_piece_given fs rows w (pos q))
    piece-last-file w q l =
        let b : last_byte n xs q < sum xs = omega (arith, piece-begins q l) in
        file-at w (last_byte n xs q) b (last_file_at_piece_given fs rows w (pos q))
        (piece-answer (λ p. pos (pieces.last_file_at_piece fs rows w p)) q l
        ∙ ap₂ (λ (c m : ℕ). value (pos (found_within rows c w (m - 1)))) h.count (ap₂ (λ (m k : ℕ). q * m + k) h.long (size_is q l)))

    -- the file found at a piece's first byte ends where the next begins, or with the set
    pub piece-size2 : (w : Window) (q : ℕ) → q < pieces_of n xs → PieceSize2 n xs q (piece_size2_given fs rows w (pos q))
    piece-size2 w q l =
        record {
          file = f;
          holds = has-byte t f b last;
          answer =
              piece-answer (λ p. pos (pieces.piece_size2 fs rows w p)) q l
              ∙ ap (λ (k : ℕ). value (pos k)) (ap (λ (k : ℕ). cond (leb fs.num_files k) (pieces.piece_size fs q) (min (offset_at rows k - q * fs.piece_length) fs.piece_length)) after
              ∙ ap₂ (λ (c m : ℕ). cond (leb c (f + 1)) (pieces.piece_size fs q) (min (offset_at rows (f + 1) - q * m) m)) h.count h.long
              ∙ at (le-or-lt (length xs) (f + 1)));
        }
      where
        t : ℕ
        t = q * n

        b : t < sum xs
        b = piece-begins q l

        f : ℕ
        f = found_within rows (length xs) w t

        last : Last rows (length xs) t f
        last = found w t b

        after : partition_point rows fs.num_files w (q * fs.piece_length) ≡ f + 1
        after =
            let e : eqb (length xs) 0 ≡ false = ne_eqb (length xs) 0 (λ z. omega (arith, last.among)) in
            let d : leb (offset_at rows f) t ≡ true = le-leb (offset_at rows f) t last.low in
            rw (h.count, h.long, e, d)

        at : (length xs ≤ f + 1) ⊎ (f + 1 < length xs)
            → cond (leb (length xs) (f + 1)) (pieces.piece_size fs q) (min (offset_at rows (f + 1) - t) n) ≡ min n (end_of xs f - t)
        at (inl e) = rw (le-leb (length xs) (f + 1) e, take_all (f + 1) xs e) (size_is q l)
        at (inr e) = rw (lt-leb (length xs) (f + 1) e, h.offsets (f + 1) e) (omega arith)

    -- ---- the pieces of a file

    -- a file begins and ends before the last piece does
    module _ (k : ℕ) (there : k < length xs) where
      offset-is : (row_at rows k).offset ≡ begin_of xs k
      offset-is = h.offsets k there

      end-at : (row_at rows k).offset + (row_at rows k).size ≡ end_of xs k
      end-at = omega (arith, offset-is, h.sizes k there, end_is xs k)

      begin-low : begin_of xs k ≤ sum xs
      begin-low = sum-take-le xs k

      numbered : (t : ℕ) → t ≤ sum xs → t / n % 2 ^ 31 ≡ t / n
      numbered t e = low (t / n) (omega (arith, few, quotient-low n (sum xs) t h.some e))

      -- the first piece, of an empty file too
      pub file-piece : PieceAt n (begin_of xs k) (piece_at_file_given fs rows (pos k))
      file-piece =
          record {
            piece = begin_of xs k / n;
            answer =
                file-answer (λ j. pos (files.first_piece fs rows j % 2 ^ 31)) k there
                ∙ rw (offset-is, h.long, numbered (begin_of xs k) begin-low);
            holds = piece_of n (begin_of xs k) h.some;
          }

      pub last-piece-plain : last_piece_at_file_given fs rows (pos k) ≡ value (last_piece n (end_of xs k))
      last-piece-plain =
          file-answer (λ j. files.low31 (files.last_piece fs rows j)) k there
          ∙ rw (end-at, h.long) (ap value (at (eqb (end_of xs k) 0) (eqb n 1)))
        where
          at : (a b : Bool) → files.low31 (cond a (cond b (negsuc 0) (pos 0)) (pos ((end_of xs k - 1) / n))) ≡ cond a (cond b (negsuc 0) (pos 0)) (pos ((end_of xs k - 1) / n))
          at true true = refl
          at true false = refl
          at false b = ap pos (numbered (end_of xs k - 1) (omega (arith, end_low xs k)))

      pub file-last-piece : 0 < get_or xs k 0 → PieceAt n (end_of xs k - 1) (last_piece_at_file_given fs rows (pos k))
      file-last-piece some =
          let e : eqb (end_of xs k) 0 ≡ false = ne_eqb (end_of xs k) 0 (λ z. omega (arith, end_is xs k)) in
          record {
            piece = (end_of xs k - 1) / n;
            answer = last-piece-plain ∙ rw e;
            holds = piece_of n (end_of xs k - 1) h.some;
          }

      -- ---- both ranges

      abbrev b : ℕ
      b = begin_of xs k

      abbrev count : ℕ
      count = pieces_of n xs

      abbrev request : Request
      request = request_by n xs b (ltb b (sum xs))

      start_is : file_start fs rows k ≡ request
      start_is =
          ap (request_in fs.total_size fs.piece_length) (add-zero (row_at rows k).offset ∙ offset-is)
          ∙ ap₂ (λ (t m : ℕ). request_in t m b) h.total h.long
          ∙ at (ltb b (sum xs)) refl
        where
          at : (c : Bool) → ltb b (sum xs) ≡ c → request_in (sum xs) n b ≡ request_by n xs b c
          at true e = rw (lt-leb (sum xs) b (ltb-true b (sum xs) e))
          at false e = rw (le-leb (sum xs) b (ltb-false b (sum xs) e))

      -- where it begins, and the first piece from there on
      place_is : request.piece * fs.piece_length + request.start ≡ mapped_start n xs k
      place_is = ap (λ (m : ℕ). request.piece * m + request.start) h.long ∙ at (ltb b (sum xs))
        where
          at : (c : Bool) → (request_by n xs b c).piece * n + (request_by n xs b c).start ≡ cond c b (count * n)
          at true = div-add-mod' b n
          at false = add-zero (count * n)

      begin-is : files.exclusive_begin request ≡ exclusive_begin n xs k
      begin-is = at (ltb b (sum xs))
        where
          at : (c : Bool) → files.exclusive_begin (request_by n xs b c) ≡ ceiling (cond c b (count * n)) n
          at true = round_up n b h.some
          at false = sym (ceiling-is (count * n) n h.some count (omega arith) (omega (arith, h.some)))

      piece_is : request.piece ≡ inclusive_begin n xs k
      piece_is = at (ltb b (sum xs))
        where
          at : (c : Bool) → (request_by n xs b c).piece ≡ cond c b (count * n) / n
          at true = refl
          at false = sym (mul-div_cancel count h.some)

      -- it ends with the last piece, or before
      ends_low : mapped_start n xs k + get_or xs k 0 ≤ count * n
      ends_low = at (ltb b (sum xs)) refl
        where
          covers : sum xs ≤ count * n
          covers = ceiling-covers (sum xs) n h.some

          at : (c : Bool) → ltb b (sum xs) ≡ c → cond c b (count * n) + get_or xs k 0 ≤ count * n
          at true e = omega (arith, covers, end_is xs k, end_low xs k)
          at false e = omega (arith, ltb-false b (sum xs) e, end_is xs k, end_low xs k)

      begin-few : exclusive_begin n xs k ≤ count
      begin-few = ceiling-le (mapped_start n xs k) n h.some count (omega (arith, ends_low))

      end-few : (mapped_start n xs k + get_or xs k 0 + 1) / n ≤ count + 1
      end-few =
          let d = next count n in
          let e = next (count + 1) n in
          let l : mapped_start n xs k + get_or xs k 0 + 1 < (count + 1 + 1) * n = omega (arith, d, e, ends_low, h.some) in
          let c = (div-lt_iff_lt-mul {k = n} {x = mapped_start n xs k + get_or xs k 0 + 1} {y = count + 1 + 1} h.some).1 l in
          omega arith

      -- so 31 bits hold both ends
      exclusive-low : exclusive_end n xs k ≤ 2147483647
      exclusive-low = at (eqb (k + 1) (length xs)) (ltb e begin || eqb e 2147483648) refl
        where
          e : ℕ
          e = (mapped_start n xs k + get_or xs k 0 + 1) / n

          begin : ℕ
          begin = exclusive_begin n xs k

          at : (x y : Bool) → (ltb e begin || eqb e 2147483648) ≡ y → cond x count (cond y begin e) ≤ 2147483647
          at true y q = few
          at false true q = omega (arith, begin-few, few)
          at false false q =
              let z = eqb-false e 2147483648 (either-false (ltb e begin) (eqb e 2147483648) q).1 in
              omega (arith, end-few, few, z)

      after-low : (e : ℕ) → e ≤ count * n → piece_after n e ≤ 2147483647
      after-low e l = at (eqb e 0) refl (eqb n 1)
        where
          at : (x : Bool) → eqb e 0 ≡ x → (y : Bool) → cond x (cond y 0 1) ((e - 1) / n + 1) ≤ 2147483647
          at true q true = omega arith
          at true q false = omega arith
          at false q y =
              let z = eqb-false e 0 q in
              let d = (div-lt_iff_lt-mul {k = n} {x = e - 1} {y = count} h.some).1 (omega (arith, z, l)) in
              omega (arith, few, d)

      pub file-exclusive : exclusive_given fs rows (pos k) ≡ value (range (exclusive_begin n xs k) (exclusive_end n xs k))
      file-exclusive =
          file-answer (files.exclusive_range fs rows) k there
          ∙ ap value
          (ap (λ (r : Request). record { begin = pos (files.exclusive_begin r); end = pos (files.exclusive_end fs k (row_at rows k).size r % 2 ^ 31) }) start_is
          ∙ same-exclusive k h.count h.long (ap₂ ceiling h.total h.long) begin-is place_is (sym (h.sizes k there))
          ∙ ap (range (exclusive_begin n xs k)) (low (exclusive_end n xs k) exclusive-low))

      pub inclusive-plain : inclusive_given fs rows (pos k) ≡ value (range (inclusive_begin n xs k) (inclusive_end n xs k))
      inclusive-plain =
          file-answer (files.inclusive_range fs rows) k there
          ∙ ap value
          (ap (λ (r : Request). record { begin = pos r.piece; end = pos (files.inclusive_end fs (row_at rows k).size r % 2 ^ 31) }) start_is
          ∙ same-inclusive h.long piece_is place_is (sym (h.sizes k there))
          ∙ ap (range (inclusive_begin n xs k)) (low (inclusive_end n xs k) (after-low (mapped_start n xs k + get_or xs k 0) ends_low)))

      -- of a nonempty file: the pieces that have one of its bytes
      pub file-inclusive : 0 < get_or xs k 0 → Inclusive n xs k (inclusive_given fs rows (pos k))
      file-inclusive some =
          record {
            begin = b / n;
            end = (e - 1) / n + 1;
            answer =
                inclusive-plain
                ∙ ap (λ (s : ℕ). value (range (s / n) (piece_after n (s + get_or xs k 0)))) start
                ∙ ap (λ (i : ℕ). value (range (b / n) (piece_after n i))) (sym (end_is xs k))
                ∙ ap (λ (c : Bool). value (range (b / n) (cond c (cond (eqb n 1) 0 1) ((e - 1) / n + 1)))) ends;
            each = λ p l g. shared p l g;
            only = λ p w. between p w;
          }
        where
          e : ℕ
          e = end_of xs k

          below : b < e
          below = omega (arith, end_is xs k)

          start : mapped_start n xs k ≡ b
          start = rw (lt-ltb b (sum xs) (omega (arith, below, end_low xs k)))

          ends : eqb e 0 ≡ false
          ends = ne_eqb e 0 (λ z. omega (arith, below))

          shared : (p : ℕ) → b / n ≤ p → p < (e - 1) / n + 1 → Shares n xs k p
          shared p l g =
              let i = (le-div_iff_mul-le {k = n} {x = p} {y = e - 1} h.some).0 (omega arith) in
              let j = (div-lt_iff_lt-mul {k = n} {x = b} {y = p + 1} h.some).0 (omega arith) in
              record {
                byte = max b (p * n);
                file = record { from = omega arith; below = omega (arith, below) };
                piece = record { from = omega arith; below = omega (arith, next p n, h.some) };
              }

          between : (p : ℕ) → Shares n xs k p → (b / n ≤ p) × (p < (e - 1) / n + 1)
          between p w =
              let i = w.file.from in
              let j = w.file.below in
              let c = w.piece.from in
              let d = w.piece.below in
              let x = (div-lt_iff_lt-mul {k = n} {x = b} {y = p + 1} h.some).1 (omega arith) in
              let y = (le-div_iff_mul-le {k = n} {x = p} {y = e - 1} h.some).1 (omega arith) in
              (omega arith, omega arith)

      -- ---- `map_file`

      abbrev signed_in : ℕ → ℕ → ℕ → ℕ → SignedRequest
      signed_in total m at size =
          as_signed
          (cond (leb total at) (record { piece = ceiling total m; start = 0; length = 0 })
          (record { piece = at / m; start = at % m; length = min size (total - at) }))

      pub file-mapped : (o m : ℕ) → o ≤ limit → file_mapped fs rows (pos k) (pos o) (pos m) ≡ value (request_at n xs (b + o) m)
      file-mapped o m low =
          given
          (bad_piece_length fs ∷ no_file fs (pos k) ∷ many_pieces fs ∷ bad_range (pos o) (pos m) ∷ short (rows_are_held fs rows && few_entries fs) ∷ [])
          (is_open h, (file-there h k there, (not-many h few, (le-ltb limit o low, (all_held h, tt)))))
          (as_signed (map_file fs rows k o m))
          ∙ ap value
          (ap (λ (i : ℕ). signed_in fs.total_size fs.piece_length (i + o) m) offset-is
          ∙ ap₂ (λ (t l : ℕ). signed_in t l (b + o) m) h.total h.long
          ∙ at (ltb (b + o) (sum xs)) refl)
        where
          at : (c : Bool) → ltb (b + o) (sum xs) ≡ c → signed_in (sum xs) n (b + o) m ≡ request_at n xs (b + o) m
          at true e = rw (e, lt-leb (sum xs) (b + o) (ltb-true (b + o) (sum xs) e))
          at false e = rw (e, le-leb (sum xs) (b + o) (ltb-false (b + o) (sum xs) e))

      -- ---- the pieces of a file's tree

      pieces-low : tree_pieces n xs k ≤ 2147483647
      pieces-low = omega (arith, few, ceiling-mono (get_or xs k 0) (sum xs) n h.some (omega (arith, end_is xs k, end_low xs k)))

      tree_is : files.pieces_of fs rows k % 2 ^ 31 ≡ tree_pieces n xs k
      tree_is = ap₂ (λ (z m : ℕ). ceiling z m % 2 ^ 31) (sym (h.sizes k there)) h.long ∙ low (tree_pieces n xs k) pieces-low

      -- of the refusals, 16 alone is left
      tree-answer : {A : Type 0} (a : A) → answered (bad_piece_length fs ∷ no_file fs (pos k) ∷ many_pieces fs ∷ no_tree fs (row_at rows k) ∷ short (rows_are_held fs rows && few_entries fs) ∷ []) a
          ≡ tree_answer (is_tree n xs k (has (row_at rows k).flags pad_bit)) a
      tree-answer {A} a =
          rw (is_open h, file-there h k there, not-many h few, all_held h)
          (ap₂ (λ (z o : ℕ). tested (ltb 0 z) (has (row_at rows k).flags pad_bit) (eqb o 0)) (sym (h.sizes k there)) (ap₂ (λ (o m : ℕ). o % m) offset-is h.long)
          ∙ at (get_or xs k 0) (has (row_at rows k).flags pad_bit) (eqb (b % n) 0))
        where
          tested : Bool → Bool → Bool → Outcome A
          tested some pad on = answered (when (some && (pad || not on)) 16 ∷ []) a

          at : (z : ℕ) (pad on : Bool) → tested (ltb 0 z) pad on ≡ tree_answer (eqb z 0 || (not pad && on)) a
          at zero pad on = refl
          at (suc z) pad on = rw (lt-ltb 0 (suc z) (omega arith), ne_eqb (suc z) 0 (λ q. omega arith)) (by pad on)
            where
              by : (pad on : Bool) → tested true pad on ≡ tree_answer (not pad && on) a
              by true on = refl
              by false true = refl
              by false false = refl

      pub tree-pieces : file_num_pieces_given fs rows (pos k) ≡ tree_answer (is_tree n xs k (has (row_at rows k).flags pad_bit)) (pos (tree_pieces n xs k))
      tree-pieces =
          tree-answer (pos (files.pieces_of fs rows k % 2 ^ 31))
          ∙ ap (λ (i : ℕ). tree_answer (is_tree n xs k (has (row_at rows k).flags pad_bit)) (pos i)) tree_is

      pub tree-range : file_piece_range_given fs rows (pos k) ≡ tree_answer (is_tree n xs k (has (row_at rows k).flags pad_bit)) (range 0 (tree_pieces n xs k))
      tree-range =
          tree-answer (range 0 (files.pieces_of fs rows k % 2 ^ 31))
          ∙ ap (λ (i : ℕ). tree_answer (is_tree n xs k (has (row_at rows k).flags pad_bit)) (range 0 i)) tree_is
