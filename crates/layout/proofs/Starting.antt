-- Document 02 (v): the search that begins with a window. It looks at nothing before the window's first file, and on rows
-- that lie end to end the file found is the one that a full reading finds, whatever the window. They rely on the laws of
-- halving and on those of a window's first files.
--     row-dropped                      a row among those from a file on
--     found_alike                      'the search, given its start, answers the same whatever the rows before it hold'
--     from-least                       the search from a window's first file finds that one or a later one
--     window-is, is-window             a window that has files of the set
--     checked-near, first_found, near_found, far_found     the file found is its first, one of its first ones, or another
--     within_below, within_in          the file found is one of them, whatever the rows hold
--     last-unique, byte_last           the last file that begins at or before a byte
--     found_within                     for every window, the file found is the last that begins at or before the target
--     within-as-read                   so it is the one that the search over all rows finds
--     found-from                       the file found among those of a window that has the byte
--     told-within, told-found          the same by a table of the file in which each piece begins
use Rattle.std.proofs.Common.{◌≡◌, ℕ, zero, suc, ◌+◌, ◌-◌, ◌*◌, ◌<◌, ◌≤◌, min, Bool, true, false, cond, ◌&&◌, ltb, leb, ◌⊎◌, List, get_or, drop, sym, refl, ap, ◌∙◌, subst, inl, inr, arith, get_or-drop, ltb-true, lt-ltb, le-ltb, le-leb, leb-true}
use Rattle.lists.proofs.Orders.{le-or-lt}
use Rattle.tables.specs.declared.storage.FileStorage.{FileStorage}
use Rattle.tables.specs.declared.rows.Row.{Row}
use Rattle.tables.specs.Rows.{row_at, row_width}
use Rattle.tables.proofs.Words.{row-ext}
use Rattle.rules.proofs.Rules.{both_true}
use Rattle.layout.specs.declared.window.Window.{Window}
use Rattle.layout.specs.Window.{Begins, Told}
use Rattle.layout.specs.Search.{file_found, has_byte, first_with, near_end, found_near, found_far, found_from, is_within, found_within}
use Rattle.layout.proofs.Halving.{Ascending, Last, found-last, found_below, found_in}
use Rattle.layout.proofs.Near.{first_alike, near-least, near_has, near_first, near_behind}

-- a row among those from a file on
pub row-dropped : (rows : List ℕ) (low i : ℕ) → row_at (drop (low * row_width) rows) i ≡ row_at rows (low + i)
row-dropped rows low i =
    row-ext (drop (low * row_width) rows) rows i (low + i)
    (λ j h.
    (let e : low * row_width + (i * 8 + j) ≡ (low + i) * 8 + j = omega arith in
    get_or-drop (low * row_width) rows (i * 8 + j) 0 ∙ ap (λ (k : ℕ). get_or rows k 0) e))

offset-dropped : (rows : List ℕ) (low i : ℕ) → (row_at (drop (low * row_width) rows) i).offset ≡ (row_at rows (low + i)).offset
offset-dropped rows low i = ap (λ (r : Row). r.offset) (row-dropped rows low i)

-- 'answers the same whatever the rows before it hold'
pub found_alike : (rows others : List ℕ) (w : Window) (t : ℕ) → drop (w.low * row_width) rows ≡ drop (w.low * row_width) others
    → found_from rows w t ≡ found_from others w t
found_alike rows others w t e =
    ap (λ (k : ℕ). cond (ltb k (near_end w)) k (found_far rows w t)) (first_alike rows others w.low e (near_end w - w.low) w.low t (omega arith)) ∙
    ap (λ (r : List ℕ). cond (ltb (found_near others w t) (near_end w)) (found_near others w t) (w.low + file_found r (w.high - w.low) t)) e

-- 'given its start': a file before it is never found
pub from-least : (rows : List ℕ) (w : Window) (t : ℕ) → w.low ≤ found_from rows w t
from-least rows w t = by (ltb (found_near rows w t) (near_end w))
  where
    by : (b : Bool) → w.low ≤ cond b (found_near rows w t) (found_far rows w t)
    by true = near-least rows w t
    by false = omega arith

-- the files of a window, all of them among n
pub window-is : (w : Window) (n : ℕ) → is_within w n ≡ true → (w.low < w.high) × (w.high ≤ n)
window-is w n e =
    let a = both_true (ltb w.low w.high) (leb w.high n) e in
    (ltb-true w.low w.high a.0, leb-true w.high n a.1)

pub is-window : (w : Window) (n : ℕ) → w.low < w.high → w.high ≤ n → is_within w n ≡ true
is-window w n a b = rw (lt-ltb w.low w.high a, le-leb w.high n b)

-- the file found by a window that has files of the set, where it is one of its first
module _ (rows : List ℕ) (n : ℕ) (w : Window) (t : ℕ) where
  pub checked-near : is_within w n ≡ true → found_near rows w t < near_end w → found_near rows w t ≡ found_within rows n w t
  checked-near e h =
      let l : ltb (found_near rows w t) (near_end w) ≡ true = lt-ltb (found_near rows w t) (near_end w) h in
      let b : has_byte rows (found_near rows w t) t ≡ true = near_has rows w t l in
      sym
      (ap (λ (x : Bool). cond (is_within w n && has_byte rows (cond x (found_near rows w t) (found_far rows w t)) t) (cond x (found_near rows w t) (found_far rows w t)) (file_found rows n t)) l ∙
      ap (λ (x : Bool). cond (x && has_byte rows (found_near rows w t) t) (found_near rows w t) (file_found rows n t)) e ∙
      ap (λ (x : Bool). cond x (found_near rows w t) (file_found rows n t)) b)

  -- the same as the code says it: the window's very first file has the byte
  pub first_found : w.low < w.high → w.high ≤ n → has_byte rows w.low t ≡ true → w.low ≡ found_within rows n w t
  first_found a b e =
      let g = near_first rows w t a e in
      let h : found_near rows w t < near_end w = omega arith in
      sym g ∙ checked-near (is-window w n a b) h

  -- it doesn't; `end` is where the first ones end
  module _ {end : ℕ} (a : w.low < w.high) (b : w.high ≤ n) (e : end ≡ min (w.low + 4) w.high) (none : has_byte rows w.low t ≡ false) where
    behind : first_with rows (end - (w.low + 1)) (w.low + 1) t ≡ found_near rows w t
    behind = ap (λ (x : ℕ). first_with rows (x - (w.low + 1)) (w.low + 1) t) e ∙ sym (near_behind rows w t a none)

    -- one behind it has the byte
    pub near_found : {k : ℕ} → k ≡ first_with rows (end - (w.low + 1)) (w.low + 1) t → k < end → k ≡ found_within rows n w t
    near_found f h = let g = f ∙ behind in g ∙ checked-near (is-window w n a b) (rw (g, e) at h)

    -- none of the first ones has it
    pub far_found : {r : ℕ} → end ≡ first_with rows (end - (w.low + 1)) (w.low + 1) t
        → r ≡ cond (has_byte rows (found_far rows w t) t) (found_far rows w t) (file_found rows n t) → r ≡ found_within rows n w t
    far_found f h =
        let g : found_near rows w t ≡ near_end w = sym (f ∙ behind) ∙ e in
        let l : ltb (found_near rows w t) (near_end w) ≡ false = le-ltb (found_near rows w t) (near_end w) (omega arith) in
        h ∙ sym
        (ap (λ (x : Bool). cond (is_within w n && has_byte rows (cond x (found_near rows w t) (found_far rows w t)) t) (cond x (found_near rows w t) (found_far rows w t)) (file_found rows n t)) l ∙
        ap (λ (x : Bool). cond (x && has_byte rows (found_far rows w t) t) (found_far rows w t) (file_found rows n t)) (is-window w n a b))

near-below : (rows : List ℕ) (w : Window) (t n : ℕ) → w.high ≤ n → ltb (found_near rows w t) (near_end w) ≡ true → found_near rows w t < n
near-below rows w t n h q = among (found_near rows w t) (ltb-true (found_near rows w t) (near_end w) q)
  where
    among : (k : ℕ) → k < min (w.low + 4) w.high → k < n
    among k l = omega arith

pub from-below : (rows : List ℕ) (n : ℕ) (w : Window) (t : ℕ) → is_within w n ≡ true → found_from rows w t < n
from-below rows n w t e = by (ltb (found_near rows w t) (near_end w)) refl (window-is w n e)
  where
    by : (b : Bool) → ltb (found_near rows w t) (near_end w) ≡ b → (w.low < w.high) × (w.high ≤ n) → cond b (found_near rows w t) (found_far rows w t) < n
    by true q (l, h) = near-below rows w t n h q
    by false q (l, h) = omega (arith, found_below (drop (w.low * row_width) rows) (w.high - w.low) t (omega arith))

-- the file found is one of the n
module _ (rows : List ℕ) (n : ℕ) (w : Window) (t : ℕ) where
  pub within_below : 0 < n → found_within rows n w t < n
  within_below s = by (is_within w n) refl (has_byte rows (found_from rows w t) t)
    where
      by : (x : Bool) → is_within w n ≡ x → (y : Bool) → cond (x && y) (found_from rows w t) (file_found rows n t) < n
      by false p y = found_below rows n t s
      by true p false = found_below rows n t s
      by true p true = from-below rows n w t p

  pub within_in : found_within rows n w t ≤ n
  within_in = by (is_within w n) refl (has_byte rows (found_from rows w t) t)
    where
      by : (x : Bool) → is_within w n ≡ x → (y : Bool) → cond (x && y) (found_from rows w t) (file_found rows n t) ≤ n
      by false p y = found_in rows n t
      by true p false = found_in rows n t
      by true p true = omega (arith, from-below rows n w t p)

-- two files that are each the last at or below a target are one
pub last-unique : (rows : List ℕ) (n t j k : ℕ) → Last rows n t j → Last rows n t k → j ≡ k
last-unique rows n t j k a b = by (le-or-lt j k) (le-or-lt k j)
  where
    by : (j ≤ k) ⊎ (k < j) → (k ≤ j) ⊎ (j < k) → j ≡ k
    by (inl p) (inl q) = omega arith
    by (inr p) y = absurd (omega (arith, b.high j p a.among, a.low))
    by (inl p) (inr q) = absurd (omega (arith, a.high k q b.among, b.low))

-- rows that lie end to end
abbrev pub Laid : List ℕ → ℕ → Type 0
Laid rows n = (i : ℕ) → i + 1 < n → (row_at rows (i + 1)).offset ≡ (row_at rows i).offset + (row_at rows i).size

module _ (rows : List ℕ) (n t : ℕ) (laid : Laid rows n) where
  ascends : Ascending rows n
  ascends i h = omega (arith, laid i h)

  ends : (k d : ℕ) → k + d + 1 < n → (row_at rows k).offset + (row_at rows k).size ≤ (row_at rows (k + d + 1)).offset
  ends k zero h = let e : k + 0 + 1 ≡ k + 1 = omega arith in rw e (omega (arith, laid k (omega arith)))
  ends k (suc d) h =
      let e : k + suc d + 1 ≡ k + d + 1 + 1 = omega arith in
      rw e (omega (arith, ends k d (omega arith), laid (k + d + 1) (omega arith)))

  -- a file ends at or before the beginning of every later one
  pub ends-before : (k i : ℕ) → k < i → i < n → (row_at rows k).offset + (row_at rows k).size ≤ (row_at rows i).offset
  ends-before k i h b =
      let e : k + (i - k - 1) + 1 ≡ i = omega arith in
      rw e at (ends k (i - k - 1) (omega arith))

  -- the file that has a byte is the last that begins at or before it
  pub byte_last : (k : ℕ) → k < n → (row_at rows k).offset ≤ t → t < (row_at rows k).offset + (row_at rows k).size → Last rows n t k
  byte_last k b l h = record { among = b; low = l; high = λ i x y. omega (arith, ends-before k i x y) }

  has_last : (k : ℕ) → k < n → has_byte rows k t ≡ true → Last rows n t k
  has_last k b q =
      let h = both_true (leb (row_at rows k).offset t) (ltb t ((row_at rows k).offset + (row_at rows k).size)) q in
      byte_last k b (leb-true _ _ h.0) (ltb-true _ _ h.1)

  -- the file found where the search begins with a window
  pub found_within_lem : (w : Window) → 0 < n → (row_at rows 0).offset ≤ t → Last rows n t (found_within rows n w t)
  found_within_lem w s z = by (is_within w n) refl (has_byte rows (found_from rows w t) t) refl
    where
      by : (x : Bool) → is_within w n ≡ x → (y : Bool) → has_byte rows (found_from rows w t) t ≡ y → Last rows n t (cond (x && y) (found_from rows w t) (file_found rows n t))
      by false p y q = found-last rows n t ascends s z
      by true p false q = found-last rows n t ascends s z
      by true p true q = has_last (found_from rows w t) (from-below rows n w t p) q

  -- 'The file found is the one a full reading finds'
  pub within-as-read : (w : Window) → 0 < n → (row_at rows 0).offset ≤ t → found_within rows n w t ≡ file_found rows n t
  within-as-read w s z =
      last-unique rows n t (found_within rows n w t) (file_found rows n t) (found_within_lem w s z) (found-last rows n t ascends s z)

  -- among the files of a window whose first begins at or before the target, where what follows begins behind it
  found-far : (w : Window) → w.low < w.high → w.high ≤ n → (row_at rows w.low).offset ≤ t
      → ((i : ℕ) → w.high ≤ i → i < n → t < (row_at rows i).offset) → Last rows n t (found_far rows w t)
  found-far w l h b f =
      let z : w.low + 0 ≡ w.low = omega arith in
      let a = found-last (drop (w.low * row_width) rows) (w.high - w.low) t
      (λ i x. rw (offset-dropped rows w.low i, offset-dropped rows w.low (i + 1)) (subst (λ k. (row_at rows (w.low + i)).offset ≤ (row_at rows k).offset) (next i) (ascends (w.low + i) (omega arith))))
      (omega arith)
      (rw (offset-dropped rows w.low 0, z) b) in
      record {
        among = omega (arith, a.among);
        low = rw (offset-dropped rows w.low _) at a.low;
        high = λ i x y. behind i x y (le-or-lt w.high i) a;
      }
    where
      next : (i : ℕ) → w.low + i + 1 ≡ w.low + (i + 1)
      next i = omega arith

      behind : (i : ℕ) → found_far rows w t < i → i < n → (w.high ≤ i) ⊎ (i < w.high)
          → Last (drop (w.low * row_width) rows) (w.high - w.low) t (file_found (drop (w.low * row_width) rows) (w.high - w.low) t) → t < (row_at rows i).offset
      behind i x y (inl p) a = f i p y
      behind i x y (inr p) a =
          let e : w.low + (i - w.low) ≡ i = omega arith in
          subst (λ k. t < (row_at rows k).offset) e (rw (offset-dropped rows w.low (i - w.low)) at (a.high (i - w.low) (omega arith) (omega arith)))

  -- one of its first files that has the byte, or the one found by halving
  pub found-from : (w : Window) → w.low < w.high → w.high ≤ n → (row_at rows w.low).offset ≤ t
      → ((i : ℕ) → w.high ≤ i → i < n → t < (row_at rows i).offset) → Last rows n t (found_from rows w t)
  found-from w l h b f = by (ltb (found_near rows w t) (near_end w)) refl
    where
      by : (x : Bool) → ltb (found_near rows w t) (near_end w) ≡ x → Last rows n t (cond x (found_near rows w t) (found_far rows w t))
      by true q = has_last (found_near rows w t) (near-below rows w t n h q) (near_has rows w t q)
      by false q = found-far w l h b f

-- ---- a table of the file in which each piece begins

-- where the files end that can have a byte of piece p
abbrev pub EndsAt : FileStorage → List ℕ → ℕ → ℕ → Type 0
EndsAt fs firsts p high =
    (((p + 1) * fs.piece_length < fs.total_size) × (high ≡ get_or firsts (p + 1) 0 + 1))
    ⊎ ((fs.total_size ≤ (p + 1) * fs.piece_length) × (high ≡ fs.num_files))

module _ (fs : FileStorage) (rows firsts : List ℕ) (laid : Laid rows fs.num_files) (told : Told fs rows firsts) where
  -- the window of a piece that begins within the total has files, all of them the set's
  pub told-within : (p high : ℕ) → p * fs.piece_length < fs.total_size → EndsAt fs firsts p high → (get_or firsts p 0 < high) × (high ≤ fs.num_files)
  told-within p high a (inl (d, e)) =
      let x = told p a in
      let y = told (p + 1) d in
      (by (le-or-lt (get_or firsts p 0) (get_or firsts (p + 1) 0)) x y, omega (arith, y.among))
    where
      by : (get_or firsts p 0 ≤ get_or firsts (p + 1) 0) ⊎ (get_or firsts (p + 1) 0 < get_or firsts p 0)
          → Begins fs.piece_length rows fs.num_files p (get_or firsts p 0)
          → Begins fs.piece_length rows fs.num_files (p + 1) (get_or firsts (p + 1) 0)
          → get_or firsts p 0 < high
      by (inl q) x y = omega arith
      by (inr q) x y =
          absurd
          (omega (
            arith,
            x.low,
            y.high,
            ends-before rows fs.num_files 0 laid (get_or firsts (p + 1) 0) (get_or firsts p 0) q x.among,
          ))
  told-within p high a (inr (d, e)) = (omega (arith, (told p a).among), omega arith)

  -- where the byte t is one of piece p, the search from p's first file up to the next piece's finds its file
  pub told-found : (t p : ℕ) → p * fs.piece_length ≤ t → t < (p + 1) * fs.piece_length → t < fs.total_size → (high : ℕ) → EndsAt fs firsts p high
      → Last rows fs.num_files t (found_from rows (record { low = get_or firsts p 0; high = high }) t)
  told-found t p a b c high h =
      let x = told p (omega arith) in
      let y = told-within p high (omega arith) h in
      found-from rows fs.num_files t laid (record { low = get_or firsts p 0; high = high }) y.0 y.1 (omega (arith, x.low)) (behind h)
    where
      behind : EndsAt fs firsts p high → (i : ℕ) → high ≤ i → i < fs.num_files → t < (row_at rows i).offset
      behind (inl (d, e)) i g k =
          let y = told (p + 1) d in
          omega (arith, y.high, ends-before rows fs.num_files t laid (get_or firsts (p + 1) 0) i (omega arith) k)
      behind (inr (d, e)) i g k = absurd (omega arith)

-- what a search needs that looks at a window's first files before it halves
pub ruleset near_files = (within_in, first_found, near_found, far_found, found_in)
