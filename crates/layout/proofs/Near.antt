-- Document 02 (v): the first files of a window, looked at one by one. The laws rely on `tables` for rows that two tables
-- share.
--     first-least                    the file found is not before the first one looked at
--     first_has                      a file found there has the byte
--     first_is                       the file found, as a search over a list of numbers gives it
--     byte_above, first_alike        files behind the rows that differ
--     near-least, near_has           the same of a window's first files
--     near_first, near_behind        the window's very first one has the byte, or it is found behind that
use Rattle.std.proofs.Common.{◌≡◌, ℕ, zero, suc, ◌+◌, ◌-◌, ◌*◌, ◌<◌, ◌≤◌, Bool, true, false, cond, ◌&&◌, ltb, leb, List, drop, Option, Some, None, option_map, unwrap_or, sym, refl, ap, ◌∙◌, arith, ltb-true}
use Rattle.std.specs.List.{find, range_with_len}
use Rattle.tables.specs.declared.rows.Row.{Row}
use Rattle.tables.specs.Rows.{row_width}
use Rattle.tables.proofs.Words.{row-above}
use Rattle.layout.specs.declared.window.Window.{Window}
use Rattle.layout.specs.Search.{has_byte, first_with, near_end, found_near}

pub first-least : (rows : List ℕ) (n k t : ℕ) → k ≤ first_with rows n k t
unfolding first_with
first-least rows zero k t = omega arith
first-least rows (suc n) k t = by (has_byte rows k t) (first-least rows n (k + 1) t)
  where
    by : (b : Bool) → k + 1 ≤ first_with rows n (k + 1) t → k ≤ cond b k (first_with rows n (k + 1) t)
    by true h = omega arith
    by false h = omega arith

-- the file found has the byte
pub first_has : (rows : List ℕ) (n k t : ℕ) → first_with rows n k t < k + n → has_byte rows (first_with rows n k t) t ≡ true
unfolding first_with
first_has rows zero k t h = absurd (omega arith)
first_has rows (suc n) k t h = by (has_byte rows k t) refl h (first_has rows n (k + 1) t)
  where
    by : (b : Bool) → has_byte rows k t ≡ b → cond b k (first_with rows n (k + 1) t) < k + suc n
        → (first_with rows n (k + 1) t < k + 1 + n → has_byte rows (first_with rows n (k + 1) t) t ≡ true)
        → has_byte rows (cond b k (first_with rows n (k + 1) t)) t ≡ true
    by true e l f = e
    by false e l f = f (omega arith)

-- the first that passes in a list of n files' numbers, k + n where none does
first-listed : (rows : List ℕ) (n k t : ℕ) → unwrap_or (find (λ i. has_byte rows i t) (range_with_len k n)) (k + n) ≡ first_with rows n k t
unfolding first_with
first-listed rows zero k t = omega arith
first-listed rows (suc n) k t =
    let e : k + suc n ≡ k + 1 + n = omega arith in
    rw e (by (has_byte rows k t) (first-listed rows n (k + 1) t))
  where
    by : (b : Bool) → unwrap_or (find (λ i. has_byte rows i t) (range_with_len (k + 1) n)) (k + 1 + n) ≡ first_with rows n (k + 1) t
        → unwrap_or (cond b (Some k) (find (λ i. has_byte rows i t) (range_with_len (k + 1) n))) (k + 1 + n) ≡ cond b k (first_with rows n (k + 1) t)
    by true h = refl
    by false h = h

-- so a search over the numbers gives it
pub first_is : (rows : List ℕ) (from to t : ℕ) (r : Option ℕ) → from ≤ to → option_map (λ (k : ℕ). k) r ≡ find (λ k. has_byte rows k t) (range_with_len from (to - from))
    → unwrap_or r to ≡ first_with rows (to - from) from t
first_is rows from to t r h e =
    let d : from + (to - from) ≡ to = omega arith in
    sym (same r) ∙ rw e (rw d at (first-listed rows (to - from) from t))
  where
    same : (o : Option ℕ) → unwrap_or (option_map (λ (k : ℕ). k) o) to ≡ unwrap_or o to
    same None = refl
    same (Some k) = refl

-- ---- two tables that hold the same from file m on

pub byte_above : (rows others : List ℕ) (m : ℕ) → drop (m * row_width) rows ≡ drop (m * row_width) others → (k t : ℕ) → m ≤ k → has_byte rows k t ≡ has_byte others k t
byte_above rows others m e k t h = ap (λ (r : Row). leb r.offset t && ltb t (r.offset + r.size)) (row-above rows others m e k h)

pub first_alike : (rows others : List ℕ) (m : ℕ) → drop (m * row_width) rows ≡ drop (m * row_width) others → (n k t : ℕ) → m ≤ k → first_with rows n k t ≡ first_with others n k t
unfolding first_with
first_alike rows others m e zero k t h = refl
first_alike rows others m e (suc n) k t h =
    ap (λ (b : Bool). cond b k (first_with rows n (k + 1) t)) (byte_above rows others m e k t h) ∙
    ap (cond (has_byte others k t) k) (first_alike rows others m e n (k + 1) t (omega arith))

-- ---- a window's first files

pub near-least : (rows : List ℕ) (w : Window) (t : ℕ) → w.low ≤ found_near rows w t
near-least rows w t = first-least rows (near_end w - w.low) w.low t

pub near_has : (rows : List ℕ) (w : Window) (t : ℕ) → ltb (found_near rows w t) (near_end w) ≡ true → has_byte rows (found_near rows w t) t ≡ true
near_has rows w t e =
    let h : found_near rows w t < near_end w = ltb-true (found_near rows w t) (near_end w) e in
    let l : w.low ≤ found_near rows w t = near-least rows w t in
    first_has rows (near_end w - w.low) w.low t (behind (found_near rows w t) (near_end w) w.low l h)
  where
    behind : (k end low : ℕ) → low ≤ k → k < end → k < low + (end - low)
    behind k end low a b = omega arith

-- its very first one, and those behind it
near-split : (rows : List ℕ) (w : Window) (t : ℕ) → w.low < w.high
    → found_near rows w t ≡ cond (has_byte rows w.low t) w.low (first_with rows (near_end w - (w.low + 1)) (w.low + 1) t)
unfolding first_with
near-split rows w t h = let e : near_end w - w.low ≡ suc (near_end w - (w.low + 1)) = omega arith in rw e refl

pub near_first : (rows : List ℕ) (w : Window) (t : ℕ) → w.low < w.high → has_byte rows w.low t ≡ true → found_near rows w t ≡ w.low
near_first rows w t h e =
    near-split rows w t h ∙ ap (λ (b : Bool). cond b w.low (first_with rows (near_end w - (w.low + 1)) (w.low + 1) t)) e

pub near_behind : (rows : List ℕ) (w : Window) (t : ℕ) → w.low < w.high → has_byte rows w.low t ≡ false
    → found_near rows w t ≡ first_with rows (near_end w - (w.low + 1)) (w.low + 1) t
near_behind rows w t h e =
    near-split rows w t h ∙ ap (λ (b : Bool). cond b w.low (first_with rows (near_end w - (w.low + 1)) (w.low + 1) t)) e
