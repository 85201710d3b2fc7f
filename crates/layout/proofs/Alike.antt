-- Document 02 (v): 'the search, given its start, answers the same whatever the rows before it hold', of every question that
-- searches, with the window of a true table of the file in which each piece begins. They rely on the laws of the search
-- that begins with a window. Of a set that keeps no table the window is empty and begins with file 0, so that the laws
-- say nothing more than that equal rows give equal answers.
--     within-alike                      where the window's file has the byte, the rows before the window are not looked at
--     told-unchecked, told-window       a true table's window is never doubted
--     slices-within                     on rows that lie end to end the slices are the same for every window
--     found-window-alike                the file found
--     block-of-alike, block-rules-alike the slices of a block, and its refusals
--     file_at_offset-alike, file_at_piece-alike, last_file_at_piece-alike, piece_size2-alike, blocks_in_piece2-alike
--                                       whole answers
use Rattle.std.proofs.Common.{◌≡◌, ℕ, zero, suc, ◌+◌, ◌-◌, ◌*◌, ◌/◌, ◌<◌, ◌≤◌, min, Bool, true, false, cond, not, ◌&&◌, ◌||◌, eqb, ltb, leb, ◌⊎◌, List, [], ◌∷◌, length, get_or, drop, ℤ, pos, sym, refl, ap, ◌∙◌, subst, inl, inr, suc-mul, add-mul, div-mul-le_self, add-one, arith, ltb-false, ltb-true, le-ltb, lt-ltb, eqb-true, le-leb, leb-false}
use native.Mathlib.Nat.{lt-div-mul-add, zero-div}
use borrow.Author.Tests.{eqb-false, not-true, not-false}
use Rattle.lists.proofs.Orders.{le-or-lt}
use Rattle.lists.proofs.Quotients.{ceiling-above, ceiling-below, ceiling-covers}
use Rattle.tables.specs.declared.rows.Row.{Row}
use Rattle.tables.specs.declared.storage.FileStorage.{FileStorage}
use Rattle.tables.specs.Rows.{row_at, row_width}
use Rattle.tables.proofs.Words.{row-above}
use Rattle.types.specs.Refusals.{value, refused}
use Rattle.rules.specs.Rules.{Rule, first_of}
use Rattle.rules.specs.Bounds.{is_negative, is_below, clamped_of, limit, max_pieces, bad_length}
use Rattle.rules.specs.Questions.{num_pieces, rows_are_held, bad_piece_length, many_pieces, no_piece, bad_range, bad_offset, short, few_entries, answered, piece_answer}
use Rattle.rules.proofs.Rules.{Numbered, Passed, passed, both_true, either-false}
use Rattle.rules.proofs.Deciding.{length-good, over-is, below-is}
use Rattle.layout.specs.declared.window.Window.{Window}
use Rattle.layout.specs.Window.{Told, no_window, high_of, window_at, window_for}
use Rattle.layout.specs.Search.{offset_at, file_found, found_from, has_byte, is_within, found_within}
use Rattle.layout.specs.Pieces.{start_of, piece_size, file_after, piece_size2, blocks_in, file_at_piece, last_file_at_piece}
use Rattle.layout.specs.Mapping.{before, walk, slices_at, slices_of, slices_within, target_of, block_of, block_rules}
use Rattle.layout.specs.Given.{piece_size2_given, blocks_in_piece2_given, file_at_offset_given, file_at_piece_given, last_file_at_piece_given}
use Rattle.layout.proofs.Halving.{Last}
use Rattle.layout.proofs.Near.{byte_above}
use Rattle.layout.proofs.Starting.{found_alike, from-least, Laid, within-as-read, EndsAt, told-within, told-found}
use Rattle.layout.proofs.Walk.{walk_none}

-- ---- one search

-- the window has files of the set, and the one found has the byte
abbrev pub Sure : List ℕ → ℕ → Window → ℕ → Type 0
Sure rows n w t = (is_within w n && has_byte rows (found_from rows w t) t) ≡ true

pub within-alike : (rows others : List ℕ) (n : ℕ) (w : Window) (t : ℕ) → drop (w.low * row_width) rows ≡ drop (w.low * row_width) others
    → Sure rows n w t → found_within rows n w t ≡ found_within others n w t
within-alike rows others n w t e h =
    ap (λ (b : Bool). cond b (found_from rows w t) (file_found rows n t)) h ∙
    found_alike rows others w t e ∙
    sym (ap (λ (b : Bool). cond b (found_from others w t) (file_found others n t)) there)
  where
    same : has_byte rows (found_from rows w t) t ≡ has_byte others (found_from others w t) t
    same =
        byte_above rows others w.low e (found_from rows w t) t (from-least rows w t) ∙
        ap (λ (k : ℕ). has_byte others k t) (found_alike rows others w t e)

    there : Sure others n w t
    there = ap (λ (b : Bool). is_within w n && b) (sym same) ∙ h

-- ---- a true table

-- rows that lie end to end and reach the total, and a table that is true of them
pub record TrueTable (fs : FileStorage) (rows firsts : List ℕ) : Type 0 where
  pub laid : Laid rows fs.num_files
  pub reaches : (k : ℕ) → k + 1 ≡ fs.num_files → fs.total_size ≤ (row_at rows k).offset + (row_at rows k).size
  pub told : Told fs rows firsts

-- the last file that begins at or before a byte of the set has that byte
last_has : (rows : List ℕ) (n t k total : ℕ) → Laid rows n → ((i : ℕ) → i + 1 ≡ n → total ≤ (row_at rows i).offset + (row_at rows i).size) → t < total → Last rows n t k → has_byte rows k t ≡ true
last_has rows n t k total laid end b l = by (le-or-lt n (k + 1))
  where
    has : t < (row_at rows k).offset + (row_at rows k).size → has_byte rows k t ≡ true
    has q = rw (le-leb (row_at rows k).offset t l.low) (lt-ltb t ((row_at rows k).offset + (row_at rows k).size) q)

    by : (n ≤ k + 1) ⊎ (k + 1 < n) → has_byte rows k t ≡ true
    by (inl p) = let e : k + 1 ≡ n = omega (arith, l.among) in has (omega (arith, end k e))
    by (inr p) = has (omega (arith, l.high (k + 1) (omega arith) p, laid k p))

-- byte t is one of piece p
abbrev Within : FileStorage → ℕ → ℕ → Type 0
Within fs p t = (p * fs.piece_length ≤ t) × (t < (p + 1) * fs.piece_length)

-- the window of a piece, where the table has a place for it
abbrev placed : FileStorage → List ℕ → ℕ → Window
placed fs firsts p = record { low = get_or firsts p 0; high = high_of fs firsts p }

ends_at : (fs : FileStorage) (firsts : List ℕ) (p : ℕ) → 0 < fs.piece_length → EndsAt fs firsts p (high_of fs firsts p)
ends_at fs firsts p some = by (ltb (p + 1) (num_pieces fs)) (over-is fs.total_size fs.piece_length (p + 1) some)
  where
    by : (b : Bool) → ltb ((p + 1) * fs.piece_length) fs.total_size ≡ b → EndsAt fs firsts p (cond b (get_or firsts (p + 1) 0 + 1) fs.num_files)
    by true e = inl (ltb-true ((p + 1) * fs.piece_length) fs.total_size e, refl)
    by false e = inr (ltb-false ((p + 1) * fs.piece_length) fs.total_size e, refl)

-- the byte at an offset from a piece's start is one of the piece that the window is of
in-piece : (fs : FileStorage) (z offset : ℤ) → 0 < fs.piece_length → Within fs (clamped_of z + clamped_of offset / fs.piece_length) (target_of fs z offset)
in-piece fs z offset some =
    let len = fs.piece_length in
    let q = clamped_of offset / len in
    let e : (clamped_of z + q) * len ≡ clamped_of z * len + q * len = add-mul (clamped_of z) q len in
    let f : (clamped_of z + q + 1) * len ≡ (clamped_of z + q) * len + len = ap (λ (k : ℕ). k * len) (add-one (clamped_of z + q)) ∙ suc-mul (clamped_of z + q) len in
    let a : q * len ≤ clamped_of offset = div-mul-le_self (clamped_of offset) len in
    let b : clamped_of offset < q * len + len = lt-div-mul-add {a = clamped_of offset} {b = len} some in
    (omega arith, omega arith)

module _ (fs : FileStorage) (rows firsts : List ℕ) (true-table : TrueTable fs rows firsts) where
  -- the file found from the piece's first one has the byte
  pub told-unchecked : (t p : ℕ) → Within fs p t → t < fs.total_size → Sure rows fs.num_files (placed fs firsts p) t
  told-unchecked t p (a, b) c =
      let some : 0 < fs.piece_length = positive fs.piece_length b in
      let h = ends_at fs firsts p some in
      let x = told-within fs rows firsts true-table.laid true-table.told p (high_of fs firsts p) (omega arith) h in
      let l = told-found fs rows firsts true-table.laid true-table.told t p a b c (high_of fs firsts p) h in
      rw (lt-ltb (get_or firsts p 0) (high_of fs firsts p) x.0, le-leb (high_of fs firsts p) fs.num_files x.1)
      (last_has rows fs.num_files t _ fs.total_size true-table.laid true-table.reaches c l)
    where
      positive : (len : ℕ) → t < (p + 1) * len → 0 < len
      positive zero h = absurd (omega arith)
      positive (suc len) h = omega arith

  -- the window of a byte: it begins with file 0, or its file has the byte
  windowed : (z offset : ℤ) (t : ℕ) → (0 < fs.piece_length → Within fs (clamped_of z + clamped_of offset / fs.piece_length) t) → t < fs.total_size
      → ((window_for fs firsts z offset).low ≡ 0) ⊎ Sure rows fs.num_files (window_for fs firsts z offset) t
  windowed z offset t inside c = by (fs.indexed && not (bad_length fs.piece_length)) refl
    where
      p : ℕ
      p = clamped_of z + clamped_of offset / fs.piece_length

      at : 0 < fs.piece_length → (x : Bool)
          → ((cond x (placed fs firsts p) no_window).low ≡ 0) ⊎ Sure rows fs.num_files (cond x (placed fs firsts p) no_window) t
      at s true = inr (told-unchecked t p (inside s) c)
      at s false = inl refl

      by : (x : Bool) → (fs.indexed && not (bad_length fs.piece_length)) ≡ x
          → ((cond x (window_at fs firsts p) no_window).low ≡ 0) ⊎ Sure rows fs.num_files (cond x (window_at fs firsts p) no_window) t
      by true e =
          let b = (both_true fs.indexed (not (bad_length fs.piece_length)) e).1 in
          at (length-good fs.piece_length (not-true (bad_length fs.piece_length) b)).0 (ltb p (min (length firsts) max_pieces))
      by false e = inl refl

  -- a true table with a place for each piece is never doubted
  pub told-window : 0 < fs.piece_length → fs.piece_length ≤ 2147483647 → num_pieces fs ≤ 2147483647 → num_pieces fs ≤ length firsts → fs.indexed ≡ true
      → (z offset : ℤ) → target_of fs z offset < fs.total_size → Sure rows fs.num_files (window_for fs firsts z offset) (target_of fs z offset)
  told-window some long few places kept z offset c =
      let len = fs.piece_length in
      let p = clamped_of z + clamped_of offset / len in
      let i = in-piece fs z offset some in
      let k : p < num_pieces fs = ceiling-above fs.total_size len some p (omega (arith, i.0)) in
      let a : ltb p (min (length firsts) 2147483647) ≡ true = lt-ltb p (min (length firsts) 2147483647) (omega arith) in
      let b : bad_length len ≡ false = rw (le-ltb len 1 some, le-ltb 2147483647 len long) in
      rw (kept, b, a) (told-unchecked (target_of fs z offset) p i c)

-- ---- two tables that hold the same from a window's first file on

module _ (rows others : List ℕ) (n : ℕ) (w : Window) (t : ℕ) (e : drop (w.low * row_width) rows ≡ drop (w.low * row_width) others) where
  same-all : w.low ≡ 0 → rows ≡ others
  same-all z = subst (λ (k : ℕ). drop (k * row_width) rows ≡ drop (k * row_width) others) z e

  same-found : (w.low ≡ 0) ⊎ Sure rows n w t → found_within rows n w t ≡ found_within others n w t
  same-found (inl z) = ap (λ (r : List ℕ). found_within r n w t) (same-all z)
  same-found (inr s) = within-alike rows others n w t e s

  not-before : (w.low ≡ 0) ⊎ Sure rows n w t → w.low ≤ found_within rows n w t
  not-before (inl z) = rw z (omega arith)
  not-before (inr s) = rw s (from-least rows w t)

offset-above : (rows others : List ℕ) (m k : ℕ) → drop (m * row_width) rows ≡ drop (m * row_width) others → m ≤ k → offset_at rows k ≡ offset_at others k
offset-above rows others m k e h = ap (λ (r : Row). r.offset) (row-above rows others m e k h)

walk-alike : (rows others : List ℕ) (m : ℕ) → drop (m * row_width) rows ≡ drop (m * row_width) others → (f k s n : ℕ) → m ≤ k → walk f rows k s n ≡ walk f others k s n
unfolding walk
walk-alike rows others m e zero k s n h = refl
walk-alike rows others m e (suc f) k s n h =
    let r : (row_at rows k).size ≡ (row_at others k).size = ap (λ (x : Row). x.size) (row-above rows others m e k h) in
    rw r
    (ap (before (record { file = k; offset = s; size = min ((row_at others k).size - s) n }))
    (walk-alike rows others m e f (k + 1) (s - (row_at others k).size) (n - ((row_at others k).size - s)) (omega arith)))

slices-at-alike : (fs : FileStorage) (rows others : List ℕ) (m k t x : ℕ) → drop (m * row_width) rows ≡ drop (m * row_width) others → m ≤ k → slices_at fs rows k t x ≡ slices_at fs others k t x
slices-at-alike fs rows others m k t x e h =
    walk-alike rows others m e (fs.num_files - k) k (t - offset_at rows k) (min x (fs.total_size - t)) h ∙
    ap (λ (o : ℕ). walk (fs.num_files - k) others k (t - o) (min x (fs.total_size - t))) (offset-above rows others m k e h)

slices-alike : (fs : FileStorage) (rows others : List ℕ) (w : Window) (t x : ℕ) → drop (w.low * row_width) rows ≡ drop (w.low * row_width) others
    → (t < fs.total_size → (w.low ≡ 0) ⊎ Sure rows fs.num_files w t) → slices_within fs rows w t x ≡ slices_within fs others w t x
slices-alike fs rows others w t x e s = by (le-or-lt fs.total_size t)
  where
    by : (fs.total_size ≤ t) ⊎ (t < fs.total_size) → slices_within fs rows w t x ≡ slices_within fs others w t x
    by (inl h) =
        let z : min x (fs.total_size - t) ≡ 0 = omega arith in
        walk_none rows _ _ _ _ z ∙ sym (walk_none others _ _ _ _ z)
    by (inr h) =
        slices-at-alike fs rows others w.low (found_within rows fs.num_files w t) t x e (not-before rows others fs.num_files w t e (s h)) ∙
        ap (λ (k : ℕ). slices_at fs others k t x) (same-found rows others fs.num_files w t e (s h))

-- on rows that lie end to end the slices are the same for every window
pub slices-within : (fs : FileStorage) (rows : List ℕ) (w : Window) (t x : ℕ) → Laid rows fs.num_files → 0 < fs.num_files → (row_at rows 0).offset ≤ t
    → slices_within fs rows w t x ≡ slices_of fs rows t x
slices-within fs rows w t x laid some low = ap (λ (k : ℕ). slices_at fs rows k t x) (within-as-read rows fs.num_files t laid w some low)

-- the size of a piece that is cut where the next file begins: that file lies behind the one found
size2-alike : (fs : FileStorage) (rows others : List ℕ) (w : Window) (p : ℕ) → drop (w.low * row_width) rows ≡ drop (w.low * row_width) others
    → (w.low ≡ 0) ⊎ Sure rows fs.num_files w (start_of fs p) → piece_size2 fs rows w p ≡ piece_size2 fs others w p
size2-alike fs rows others w p e (inl z) = ap (λ (r : List ℕ). piece_size2 fs r w p) (same-all rows others fs.num_files w (start_of fs p) e z)
size2-alike fs rows others w p e (inr s) =
    ap (cut_at rows) (after rows refl low) ∙ cut-same ∙ sym (ap (cut_at others) (after others (sym found) (ap (λ (v : ℕ). leb v t) (sym offset) ∙ low)))
  where
    n : ℕ
    n = fs.num_files

    t : ℕ
    t = start_of fs p

    k : ℕ
    k = found_within rows n w t

    next : ℕ
    next = cond (eqb n 0) 0 (k + 1)

    cut_at : List ℕ → ℕ → ℕ
    cut_at r a = cond (leb n a) (piece_size fs p) (min (offset_at r a - t) fs.piece_length)

    found : k ≡ found_within others n w t
    found = same-found rows others n w t e (inr s)

    least : w.low ≤ k
    least = not-before rows others n w t e (inr s)

    offset : offset_at rows k ≡ offset_at others k
    offset = offset-above rows others w.low k e least

    low : leb (offset_at rows k) t ≡ true
    low =
        let h : has_byte rows (found_from rows w t) t ≡ true = (both_true (is_within w n) (has_byte rows (found_from rows w t) t) s).1 in
        let f : k ≡ found_from rows w t = rw s in
        ap (λ (j : ℕ). leb (offset_at rows j) t) f ∙
        (both_true (leb (offset_at rows (found_from rows w t)) t) (ltb t (offset_at rows (found_from rows w t) + (row_at rows (found_from rows w t)).size)) h).0

    after : (r : List ℕ) → found_within r n w t ≡ k → leb (offset_at r k) t ≡ true → file_after fs r w p ≡ next
    after r f l =
        ap (λ (j : ℕ). cond (eqb n 0) 0 (cond (leb (offset_at r j) t) (j + 1) 0)) f ∙
        ap (λ (b : Bool). cond (eqb n 0) 0 (cond b (k + 1) 0)) l

    cut-same : cut_at rows next ≡ cut_at others next
    cut-same = by (eqb n 0) refl
      where
        by : (b : Bool) → eqb n 0 ≡ b → cut_at rows (cond b 0 (k + 1)) ≡ cut_at others (cond b 0 (k + 1))
        by true q = rw (le-leb n 0 (omega (arith, eqb-true n 0 q)))
        by false q = ap (λ (v : ℕ). cond (leb n (k + 1)) (piece_size fs p) (min (v - t) fs.piece_length)) (offset-above rows others w.low (k + 1) e (omega (arith, least)))

-- ---- answers

answered-alike : {A : Type 0} (rs : List Rule) (a b : A) → Numbered rs → (Passed rs → a ≡ b) → answered rs a ≡ answered rs b
answered-alike rs a b h f = at (eqb (first_of rs) 0) refl
  where
    at : (x : Bool) → eqb (first_of rs) 0 ≡ x → cond x (value a) (refused (first_of rs)) ≡ cond x (value b) (refused (first_of rs))
    at true e = ap value (f (passed rs h (sym (eqb-true (first_of rs) 0 e))))
    at false e = refl

-- tables of one length are long enough alike
held-alike : (fs : FileStorage) (rows others : List ℕ) → length rows ≡ length others → rows_are_held fs rows ≡ rows_are_held fs others
held-alike fs rows others l = ap (λ (k : ℕ). leb fs.num_files (k / row_width)) l

-- a block's refusals look at the rows' length alone
pub block-rules-alike : (fs : FileStorage) (rows others : List ℕ) → length rows ≡ length others → (z offset size : ℤ) (last : List Rule)
    → first_of (block_rules fs rows z offset size last) ≡ first_of (block_rules fs others z offset size last)
block-rules-alike fs rows others l z offset size last =
    ap (λ (h : Bool). first_of (bad_piece_length fs ∷ many_pieces fs ∷ no_piece fs z ∷ bad_range offset size ∷ short (h && few_entries fs) ∷ last))
    (held-alike fs rows others l)

piece-alike : {A : Type 0} (fs : FileStorage) (rows others : List ℕ) (z : ℤ) (a b : ℕ → A) → length rows ≡ length others
    → (0 < fs.piece_length → clamped_of z < num_pieces fs → a (clamped_of z) ≡ b (clamped_of z))
    → piece_answer fs z (rows_are_held fs rows) a ≡ piece_answer fs z (rows_are_held fs others) b
piece-alike fs rows others z a b l f =
    ap (λ (h : Bool). piece_answer fs z h a) (held-alike fs rows others l) ∙
    answered-alike (bad_piece_length fs ∷ many_pieces fs ∷ no_piece fs z ∷ short (rows_are_held fs others && few_entries fs) ∷ []) (a (clamped_of z)) (b (clamped_of z)) refl
    (λ q. f (length-good fs.piece_length q.0).0 (below-is (num_pieces fs) z (not-false (is_below (num_pieces fs) z) q.1.1.0)))

-- the last byte of a piece is one of the piece's and of the set's
last-in : (fs : FileStorage) (p : ℕ) → 0 < fs.piece_length → p < num_pieces fs
    → Within fs p (start_of fs p + piece_size fs p - 1) × (start_of fs p + piece_size fs p - 1 < fs.total_size)
last-in fs p some h = by (eqb (p + 1) (num_pieces fs)) refl
  where
    len : ℕ
    len = fs.piece_length

    total : ℕ
    total = fs.total_size

    size : Bool → ℕ
    size b = cond b (total - start_of fs p) len

    next : (p + 1) * len ≡ p * len + len
    next = ap (λ (k : ℕ). k * len) (add-one p) ∙ suc-mul p len

    by : (b : Bool) → eqb (p + 1) (num_pieces fs) ≡ b → Within fs p (start_of fs p + size b - 1) × (start_of fs p + size b - 1 < total)
    by true e =
        let a = ceiling-below total len some p h in
        let c = rw (← (eqb-true (p + 1) (num_pieces fs) e)) at (ceiling-covers total len some) in
        ((omega arith, omega arith), omega arith)
    by false e =
        let a = ceiling-below total len some (p + 1) (more (num_pieces fs) h (eqb-false (p + 1) (num_pieces fs) e)) in
        ((omega (arith, next), omega (arith, next)), omega (arith, next))
      where
        more : (q : ℕ) → p < q → (p + 1 ≡ q → ⊥) → p + 1 < q
        more q l f = at (le-or-lt q (p + 1))
          where
            at : (q ≤ p + 1) ⊎ (p + 1 < q) → p + 1 < q
            at (inl x) = absurd (f (omega arith))
            at (inr x) = x

-- rows and others of one length that hold the same from the window on
module _ (fs : FileStorage) (rows others firsts : List ℕ) (true-table : TrueTable fs rows firsts) where
  -- the window of a byte of the set finds the same file
  pub found-window-alike : (z offset : ℤ) → drop ((window_for fs firsts z offset).low * row_width) rows ≡ drop ((window_for fs firsts z offset).low * row_width) others
      → target_of fs z offset < fs.total_size
      → found_within rows fs.num_files (window_for fs firsts z offset) (target_of fs z offset) ≡ found_within others fs.num_files (window_for fs firsts z offset) (target_of fs z offset)
  found-window-alike z offset e c =
      same-found rows others fs.num_files (window_for fs firsts z offset) (target_of fs z offset) e
      (windowed fs rows firsts true-table z offset (target_of fs z offset) (in-piece fs z offset) c)

  -- a target at or past the total has no slices
  pub block-of-alike : (z offset size : ℤ) → drop ((window_for fs firsts z offset).low * row_width) rows ≡ drop ((window_for fs firsts z offset).low * row_width) others
      → block_of fs rows (window_for fs firsts z offset) z offset size ≡ block_of fs others (window_for fs firsts z offset) z offset size
  block-of-alike z offset size e =
      slices-alike fs rows others (window_for fs firsts z offset) (target_of fs z offset) (clamped_of size) e
      (windowed fs rows firsts true-table z offset (target_of fs z offset) (in-piece fs z offset))

  module _ (l : length rows ≡ length others) where
    pub file_at_offset-alike : (offset : ℤ) → drop ((window_for fs firsts (pos 0) offset).low * row_width) rows ≡ drop ((window_for fs firsts (pos 0) offset).low * row_width) others
        → file_at_offset_given fs rows (window_for fs firsts (pos 0) offset) offset ≡ file_at_offset_given fs others (window_for fs firsts (pos 0) offset) offset
    file_at_offset-alike offset e =
        ap (λ (h : Bool). answered (bad_piece_length fs ∷ bad_offset fs offset ∷ short (h && few_entries fs) ∷ []) (pos (found_within rows fs.num_files (window_for fs firsts (pos 0) offset) (clamped_of offset)))) (held-alike fs rows others l) ∙
        answered-alike (bad_piece_length fs ∷ bad_offset fs offset ∷ short (rows_are_held fs others && few_entries fs) ∷ []) _ _ refl
        (λ q. ap pos (subst (λ (t : ℕ). found_within rows fs.num_files (window_for fs firsts (pos 0) offset) t ≡ found_within others fs.num_files (window_for fs firsts (pos 0) offset) t) target (found-window-alike (pos 0) offset e (rw target (offset-in q.1.0)))))
      where
        target : target_of fs (pos 0) offset ≡ clamped_of offset
        target = omega arith

        offset-in : (bad_offset fs offset).test ≡ false → clamped_of offset < fs.total_size
        offset-in q =
            let a = (either-false (is_negative offset) (ltb limit (clamped_of offset) || leb fs.total_size (clamped_of offset)) q).1 in
            leb-false fs.total_size (clamped_of offset) (either-false (ltb limit (clamped_of offset)) (leb fs.total_size (clamped_of offset)) a).1

    -- the questions about a piece have the window of its start
    module _ (z : ℤ) (e : drop ((window_for fs firsts z (pos 0)).low * row_width) rows ≡ drop ((window_for fs firsts z (pos 0)).low * row_width) others) where
      abbrev w : Window
      w = window_for fs firsts z (pos 0)

      sure : (t : ℕ) → Within fs (clamped_of z) t → t < fs.total_size → (w.low ≡ 0) ⊎ Sure rows fs.num_files w t
      sure t i c =
          let p : clamped_of z ≡ clamped_of z + 0 / fs.piece_length = omega (arith, zero-div fs.piece_length) in
          windowed fs rows firsts true-table z (pos 0) t (λ s. subst (λ (k : ℕ). Within fs k t) p i) c

      at-start : 0 < fs.piece_length → clamped_of z < num_pieces fs → (w.low ≡ 0) ⊎ Sure rows fs.num_files w (start_of fs (clamped_of z))
      at-start some h =
          let next : (clamped_of z + 1) * fs.piece_length ≡ clamped_of z * fs.piece_length + fs.piece_length = ap (λ (k : ℕ). k * fs.piece_length) (add-one (clamped_of z)) ∙ suc-mul (clamped_of z) fs.piece_length in
          sure (start_of fs (clamped_of z)) (omega arith, omega arith) (ceiling-below fs.total_size fs.piece_length some (clamped_of z) h)

      pub file_at_piece-alike : file_at_piece_given fs rows w z ≡ file_at_piece_given fs others w z
      file_at_piece-alike =
          piece-alike fs rows others z (λ p. pos (file_at_piece fs rows w p)) (λ p. pos (file_at_piece fs others w p)) l
          (λ some h. ap pos (same-found rows others fs.num_files w (start_of fs (clamped_of z)) e (at-start some h)))

      pub last_file_at_piece-alike : last_file_at_piece_given fs rows w z ≡ last_file_at_piece_given fs others w z
      last_file_at_piece-alike =
          piece-alike fs rows others z (λ p. pos (last_file_at_piece fs rows w p)) (λ p. pos (last_file_at_piece fs others w p)) l
          (λ some h.
          (let i = last-in fs (clamped_of z) some h in
          ap pos (same-found rows others fs.num_files w (start_of fs (clamped_of z) + piece_size fs (clamped_of z) - 1) e (sure _ i.0 i.1))))

      size2 : 0 < fs.piece_length → clamped_of z < num_pieces fs → piece_size2 fs rows w (clamped_of z) ≡ piece_size2 fs others w (clamped_of z)
      size2 some h = size2-alike fs rows others w (clamped_of z) e (at-start some h)

      pub piece_size2-alike : piece_size2_given fs rows w z ≡ piece_size2_given fs others w z
      piece_size2-alike =
          piece-alike fs rows others z (λ p. pos (piece_size2 fs rows w p)) (λ p. pos (piece_size2 fs others w p)) l
          (λ some h. ap pos (size2 some h))

      pub blocks_in_piece2-alike : blocks_in_piece2_given fs rows w z ≡ blocks_in_piece2_given fs others w z
      blocks_in_piece2-alike =
          piece-alike fs rows others z (λ p. pos (blocks_in (piece_size2 fs rows w p))) (λ p. pos (blocks_in (piece_size2 fs others w p))) l
          (λ some h. ap (λ (n : ℕ). pos (blocks_in n)) (size2 some h))
