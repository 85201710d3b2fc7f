-- The search reads nothing behind the rows that it counts: with the first n rows alone it finds what it finds with all.
-- They rely on the laws of halving and on those of a search that begins with a window.
--     found_among                      the file found among a window's rows
--     within_front, point_front        the file found where the search begins with a window, and how many rows begin
--                                      at or before a target
use Rattle.std.proofs.Common.{◌≡◌, ℕ, zero, suc, ◌+◌, ◌-◌, ◌*◌, ◌/◌, ◌<◌, ◌≤◌, min, Bool, true, false, cond, ◌&&◌, eqb, ltb, leb, List, length, take, drop, sym, refl, ap, ◌∙◌, add-one, arith, length-take, length-drop, get_or-take}
use borrow.Author.Tests.{eqb-false}
use Rattle.tables.specs.declared.rows.Row.{Row}
use Rattle.tables.specs.Rows.{row_at, row_width}
use Rattle.tables.proofs.Words.{row-ext}
use Rattle.layout.specs.declared.window.Window.{Window}
use Rattle.layout.specs.Search.{offset_at, ascend, last_at_or_before, file_found, has_byte, first_with, near_end, found_near, found_far, found_from, is_within, found_within, partition_point}
use Rattle.layout.specs.Steps.{reach, stride, halved}
use Rattle.layout.proofs.Halving.{reach_some, split, enough}
use Rattle.layout.proofs.Starting.{row-dropped, window-is, from-below, within_below}

-- two tables that hold the same first n rows
abbrev Same : List ℕ → List ℕ → ℕ → Type 0
Same rows others n = (k : ℕ) → k < n → row_at rows k ≡ row_at others k

-- steps over values that are the same at the n places
halved-same : (f g : ℕ → ℕ) (t n : ℕ) → ((k : ℕ) → k < n → f k ≡ g k) → 0 < n → (j b : ℕ) → b + min n (reach j) ≤ n → halved j f t n b ≡ halved j g t n b
unfolding halved
halved-same f g t n e s zero b h = refl
halved-same f g t n e s (suc j) b h =
    let p = split n j b (rw (add-one j) h) in
    let u = p.up in
    let r = reach_some j in
    let d : f (b + stride n j) ≡ g (b + stride n j) = e (b + stride n j) (omega arith) in
    rw d (by (leb (g (b + stride n j)) t) (halved-same f g t n e s j (b + stride n j) u) (halved-same f g t n e s j b p.down))
  where
    by : (x : Bool) → halved j f t n (b + stride n j) ≡ halved j g t n (b + stride n j) → halved j f t n b ≡ halved j g t n b
        → halved j f t n (cond x (b + stride n j) b) ≡ halved j g t n (cond x (b + stride n j) b)
    by true p q = p
    by false p q = q

steps-alike : (f g : ℕ → ℕ) (t n : ℕ) → ((k : ℕ) → k < n → f k ≡ g k) → halved n f t n 0 ≡ halved n g t n 0
unfolding halved
steps-alike f g t zero e = refl
steps-alike f g t (suc n) e = halved-same f g t (suc n) e (omega arith) (suc n) 0 (omega (arith, enough (suc n)))

module _ (rows others : List ℕ) (n t : ℕ) (e : Same rows others n) where
  offset : (k : ℕ) → k < n → offset_at rows k ≡ offset_at others k
  offset k h = ap (λ (r : Row). r.offset) (e k h)

  ascend-same : (m : ℕ) → m ≤ n → ascend rows m ≡ ascend others m
  unfolding ascend
  ascend-same zero h = refl
  ascend-same (suc m) h =
      let a = offset (m - 1) (omega arith) in
      let b = offset m (omega arith) in
      let c = ascend-same m (omega arith) in
      ap (λ (x : ℕ). cond (leb x (offset_at rows m)) (ascend rows m) false) a ∙
      ap (λ (x : ℕ). cond (leb (offset_at others (m - 1)) x) (ascend rows m) false) b ∙
      ap (λ (x : Bool). cond (leb (offset_at others (m - 1)) (offset_at others m)) x false) c

  last-same : (m : ℕ) → m ≤ n → last_at_or_before rows m t ≡ last_at_or_before others m t
  unfolding last_at_or_before
  last-same zero h = refl
  last-same (suc m) h =
      ap (λ (x : ℕ). cond (leb x t) m (last_at_or_before rows m t)) (offset m (omega arith)) ∙
      ap (λ (x : ℕ). cond (leb (offset_at others m) t) m x) (last-same m (omega arith))

  steps-same : halved n (offset_at rows) t n 0 ≡ halved n (offset_at others) t n 0
  steps-same = steps-alike (offset_at rows) (offset_at others) t n offset

  found-same : file_found rows n t ≡ file_found others n t
  found-same =
      ap (λ (x : Bool). cond x (last_at_or_before rows n t) (halved n (offset_at rows) t n 0)) (ascend-same n (omega arith)) ∙
      ap (λ (x : ℕ). cond (ascend others n) x (halved n (offset_at rows) t n 0)) (last-same n (omega arith)) ∙
      ap (λ (x : ℕ). cond (ascend others n) (last_at_or_before others n t) x) steps-same

  byte-same : (k : ℕ) → k < n → has_byte rows k t ≡ has_byte others k t
  byte-same k h = ap (λ (r : Row). leb r.offset t && ltb t (r.offset + r.size)) (e k h)

  first-same : (m k : ℕ) → k + m ≤ n → first_with rows m k t ≡ first_with others m k t
  unfolding first_with
  first-same zero k h = refl
  first-same (suc m) k h =
      ap (λ (b : Bool). cond b k (first_with rows m (k + 1) t)) (byte-same k (omega arith)) ∙
      ap (cond (has_byte others k t) k) (first-same m (k + 1) (omega arith))

-- a search that begins with a window
module _ (rows others : List ℕ) (n : ℕ) (e : Same rows others n) (w : Window) (t : ℕ) where
  far-same : w.low < w.high → w.high ≤ n → found_far rows w t ≡ found_far others w t
  far-same l h =
      ap (λ (k : ℕ). w.low + k)
      (found-same (drop (w.low * row_width) rows) (drop (w.low * row_width) others) (w.high - w.low) t
      (λ k b. row-dropped rows w.low k ∙ e (w.low + k) (omega arith) ∙ sym (row-dropped others w.low k)))

  from-same : w.low < w.high → w.high ≤ n → found_from rows w t ≡ found_from others w t
  from-same l h =
      ap (λ (k : ℕ). cond (ltb k (near_end w)) k (found_far rows w t)) (first-same rows others n t e (near_end w - w.low) w.low (omega arith)) ∙
      ap (λ (k : ℕ). cond (ltb (found_near others w t) (near_end w)) (found_near others w t) k) (far-same l h)

  within-same : found_within rows n w t ≡ found_within others n w t
  within-same = by (is_within w n) refl
    where
      by : (x : Bool) → is_within w n ≡ x → cond (x && has_byte rows (found_from rows w t) t) (found_from rows w t) (file_found rows n t)
          ≡ cond (x && has_byte others (found_from others w t) t) (found_from others w t) (file_found others n t)
      by false q = found-same rows others n t e
      by true q =
          let i = window-is w n q in
          let f = from-same i.0 i.1 in
          ap (λ (k : ℕ). cond (has_byte rows k t) k (file_found rows n t)) f ∙
          ap (λ (b : Bool). cond b (found_from others w t) (file_found rows n t)) (byte-same rows others n t e (found_from others w t) (from-below others n w t q)) ∙
          ap (cond (has_byte others (found_from others w t) t) (found_from others w t)) (found-same rows others n t e)

  point-same : partition_point rows n w t ≡ partition_point others n w t
  point-same = by (eqb n 0) refl
    where
      at : ℕ → ℕ → ℕ
      at o k = cond (leb o t) (k + 1) 0

      by : (x : Bool) → eqb n 0 ≡ x → cond x 0 (at (offset_at rows (found_within rows n w t)) (found_within rows n w t))
          ≡ cond x 0 (at (offset_at others (found_within others n w t)) (found_within others n w t))
      by true q = refl
      by false q =
          let some : 0 < n = omega (arith, eqb-false n 0 q) in
          ap (λ (k : ℕ). at (offset_at rows k) k) within-same ∙
          ap (λ (o : ℕ). at o (found_within others n w t)) (offset rows others n t e (found_within others n w t) (within_below others n w t some))

-- the first n rows, as the code lends them
module _ (rows : List ℕ) (n : ℕ) (h : n ≤ length rows / 8) where
  taken : Same (take (n * 8) rows) rows n
  taken k l =
      row-ext (take (n * 8) rows) rows k k
      (λ j b. (let p : k * 8 + j < n * 8 = omega arith in get_or-take (n * 8) rows (k * 8 + j) 0 p))

  counted : length (take (n * 8) rows) / 8 ≡ n
  counted = omega (arith, length-take (n * 8) rows)

  found_front : (t : ℕ) → file_found (take (n * 8) rows) (length (take (n * 8) rows) / 8) t ≡ file_found rows n t
  found_front t = ap (λ (k : ℕ). file_found (take (n * 8) rows) k t) counted ∙ found-same (take (n * 8) rows) rows n t taken

  pub within_front : (w : Window) (t : ℕ) → found_within (take (n * 8) rows) (length (take (n * 8) rows) / 8) w t ≡ found_within rows n w t
  within_front w t = ap (λ (k : ℕ). found_within (take (n * 8) rows) k w t) counted ∙ within-same (take (n * 8) rows) rows n taken w t

  pub point_front : (w : Window) (t : ℕ) → partition_point (take (n * 8) rows) (length (take (n * 8) rows) / 8) w t ≡ partition_point rows n w t
  point_front w t = ap (λ (k : ℕ). partition_point (take (n * 8) rows) k w t) counted ∙ point-same (take (n * 8) rows) rows n taken w t

-- a window's rows, as the code lends them
pub found_among : (rows : List ℕ) (w : Window) (t : ℕ) → w.low < w.high → w.high ≤ length rows / 8
    → w.low + file_found (take (w.high * 8 - w.low * 8) (drop (w.low * 8) rows)) (length (take (w.high * 8 - w.low * 8) (drop (w.low * 8) rows)) / 8) t ≡ found_far rows w t
found_among rows w t l h =
    let e : w.high * 8 - w.low * 8 ≡ (w.high - w.low) * 8 = omega arith in
    rw e (ap (λ (k : ℕ). w.low + k) (found_front (drop (w.low * 8) rows) (w.high - w.low) (omega (arith, length-drop (w.low * 8) rows)) t))
