-- Laws of lists of rows, w words a row: what a loop that writes row after row has done at each turn, and what the rows read
-- afterwards. They rely on `lists` for the laws of runs.
use mathlib.Core.Path.{◌≡◌, sym, ◌∙◌}
use mathlib.Core.List.{List}
use Prim.Native.Nat.{ℕ, zero, suc, ◌+◌, ◌-◌, ◌*◌, ◌≤◌, ◌<◌}
use native.Mathlib.Nat.{mul-le-mul_right}
use native.Mathlib.Omega.{arith}
use lib.ListN.{length, get_or, drop, length-append, get_or-append}
use lib.Seq.{sets, length-sets, get_or-append-add}
use Rattle.lists.proofs.Runs.{sets-append, drop-sets-le, get_or-sets, get_or-sets-above}
use Rattle.tables.specs.Rows.{filled}
use Rattle.tables.proofs.Agree.{drop-above}

-- i of the n rows that g gives are written over those of l₀, front to back: the rest is untouched, and the rows still to
-- come give the whole
abbrev pub Writing : ℕ → (ℕ → List ℕ) → ℕ → List ℕ → List ℕ → ℕ → Type 0
Writing w g n l₀ l i =
    (i ≤ n)
    × (length l ≡ length l₀)
    × (drop (i * w) l ≡ drop (i * w) l₀)
    × (sets l (i * w) (filled g i (n - i)) ≡ sets l₀ 0 (filled g 0 n))

module _ (w : ℕ) (g : ℕ → List ℕ) (n : ℕ) (l₀ : List ℕ) where
  pub writing-turn : (l : List ℕ) (i : ℕ) → length (g i) ≡ w → Writing w g n l₀ l i → i < n
      → {l' : List ℕ} → l' ≡ sets l (i * w) (g i) → Writing w g n l₀ l' (i + 1)
  unfolding filled
  writing-turn l i wide (b, k, e, s) h q =
      let m : n - i ≡ suc (n - (i + 1)) = omega arith in
      let p : (i + 1) * w ≡ i * w + length (g i) = omega (arith, wide) in (
        omega arith,
        rw q (length-sets l (i * w) (g i) ∙ k),
        rw q (drop-sets-le (g i) l (i * w) ((i + 1) * w) (omega (arith, wide)) ∙ drop-above l l₀ (i * w) e ((i + 1) * w) (omega arith)),
        rw (q, p) (sym (sets-append (g i) (filled g (i + 1) (n - (i + 1))) l (i * w)) ∙ (rw m at s)),
      )

  pub writing-end : (l : List ℕ) (i : ℕ) → Writing w g n l₀ l i → n ≤ i → l ≡ sets l₀ 0 (filled g 0 n)
  unfolding filled
  writing-end l i (b, k, e, s) h = let m : n - i ≡ 0 = omega arith in rw m at s

module _ (w : ℕ) (g : ℕ → List ℕ) (wide : (k : ℕ) → length (g k) ≡ w) where
  pub length-filled : (i n : ℕ) → length (filled g i n) ≡ n * w
  unfolding filled
  length-filled i zero = omega arith
  length-filled i (suc n) = length-append (g i) (filled g (i + 1) n) ∙ omega (arith, wide i, length-filled (i + 1) n)

  filled_at : (i n k j : ℕ) → k < n → j < w → get_or (filled g i n) (k * w + j) 0 ≡ get_or (g (i + k)) j 0
  unfolding filled
  filled_at i zero k j h b = absurd (omega arith)
  filled_at i (suc n) zero j h b =
      let p : 0 * w + j ≡ j = omega arith in
      let q : i + 0 ≡ i = omega arith in
      rw (p, q) (get_or-append (g i) (filled g (i + 1) n) 0 j (omega (arith, wide i)))
  filled_at i (suc n) (suc k) j h b =
      let p : suc k * w + j ≡ length (g i) + (k * w + j) = omega (arith, wide i) in
      let q : i + suc k ≡ i + 1 + k = omega arith in
      rw (p, q) (get_or-append-add (g i) (filled g (i + 1) n) (k * w + j) 0 ∙ filled_at (i + 1) n k j (omega arith) b)

  module _ (l : List ℕ) (n k j : ℕ) (b : j < w) where
    -- a word of row k among the n rows written, and behind them
    pub word-filled : n * w ≤ length l → k < n → get_or (sets l 0 (filled g 0 n)) (k * w + j) 0 ≡ get_or (g k) j 0
    word-filled f h =
        let m : suc k * w ≤ n * w = mul-le-mul_right w h in
        let z : 0 + (k * w + j) ≡ k * w + j = omega arith in
        let q : 0 + k ≡ k = omega arith in
        let p = get_or-sets (filled g 0 n) l 0 (k * w + j) 0 (omega (arith, length-filled 0 n)) (omega arith) in
        (rw z at p) ∙ (rw q at (filled_at 0 n k j h b))

    pub word-behind : n ≤ k → get_or (sets l 0 (filled g 0 n)) (k * w + j) 0 ≡ get_or l (k * w + j) 0
    word-behind h =
        let m : n * w ≤ k * w = mul-le-mul_right w h in
        get_or-sets-above (filled g 0 n) l 0 (k * w + j) 0 (omega (arith, length-filled 0 n))
