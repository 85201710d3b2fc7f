-- Laws of runs of one value in a table. They rely on the laws of runs of `lists`.
--     runs-join    a run that begins within another, or at its end, and ends no earlier
--     grown        a run up to p, once the four places from p on are stored, or the last four
--     whole        a run that ends with the table
--     nothing, between   a run from one place up to another
use mathlib.Core.Path.{◌≡◌, sym, ap, ◌∙◌}
use mathlib.Core.List.{List, ◌++◌}
use Prim.Native.Nat.{ℕ, ◌+◌, ◌-◌, ◌≤◌, ◌<◌, min}
use native.Mathlib.Omega.{arith}
use lib.ListN.{length, replicate, take, drop, length-take, length-drop, length-replicate, replicate-append-replicate}
use lib.Seq.{sets, length-sets}
use Rattle.lists.proofs.Runs.{sets-append, sets-none, sets_over, sets-whole, sets-filled}

module _ {A : Type 0} (v : A) where
  pub runs-join : (l : List A) (i a j b : ℕ) → i ≤ j → j ≤ i + a → i + a ≤ j + b
      → sets (sets l i (replicate a v)) j (replicate b v) ≡ sets l i (replicate (j + b - i) v)
  runs-join l i a j b p q r =
      let k : i + (j - i) ≡ j = omega arith in
      let m : j - i + (a - (j - i)) ≡ a = omega arith in
      let n : j - i + b ≡ j + b - i = omega arith in
      let e : replicate (j - i) v ++ replicate (a - (j - i)) v ≡ replicate a v =
      replicate-append-replicate (j - i) (a - (j - i)) v ∙ ap (λ (n : ℕ). replicate n v) m in
      let f : replicate (j - i) v ++ replicate b v ≡ replicate (j + b - i) v =
      replicate-append-replicate (j - i) b v ∙ ap (λ (n : ℕ). replicate n v) n in
      let g : sets l i (replicate a v) ≡ sets (sets l i (replicate (j - i) v)) j (replicate (a - (j - i)) v) =
      ap (sets l i) (sym e) ∙ sets-append (replicate (j - i) v) (replicate (a - (j - i)) v) l i ∙
      ap (λ (n : ℕ). sets (sets l i (replicate (j - i) v)) n (replicate (a - (j - i)) v))
      (ap (λ (n : ℕ). i + n) (length-replicate (j - i) v) ∙ k) in
      let h : sets (sets l i (replicate (j - i) v)) j (replicate b v) ≡ sets l i (replicate (j + b - i) v) =
      sym
      (ap (sets l i) (sym f) ∙ sets-append (replicate (j - i) v) (replicate b v) l i ∙
      ap (λ (n : ℕ). sets (sets l i (replicate (j - i) v)) n (replicate b v))
      (ap (λ (n : ℕ). i + n) (length-replicate (j - i) v) ∙ k)) in
      ap (λ (m : List A). sets m j (replicate b v)) g ∙
      sets_over (replicate (a - (j - i)) v) (replicate b v) (sets l i (replicate (j - i) v)) j
      (omega (arith, length-replicate (a - (j - i)) v, length-replicate b v)) ∙
      h

  module _ (l m : List A) (p : ℕ) (e : m ≡ sets l 0 (replicate (min p (length l)) v)) where
    pub grown : 4 ≤ length l → sets m (min p (length m - 4)) (replicate 4 v) ≡ sets l 0 (replicate (min (p + 4) (length l)) v)
    grown h =
        let k : length m ≡ length l = ap length e ∙ length-sets l 0 (replicate (min p (length l)) v) in
        let n : min p (length l - 4) + 4 - 0 ≡ min (p + 4) (length l) = omega arith in
        ap (λ (i : ℕ). sets m (min p (i - 4)) (replicate 4 v)) k
        ∙ ap (λ (x : List A). sets x (min p (length l - 4)) (replicate 4 v)) e
        ∙ runs-join l 0 (min p (length l)) (min p (length l - 4)) 4 (omega arith) (omega arith) (omega arith)
        ∙ ap (λ (i : ℕ). sets l 0 (replicate i v)) n

    pub whole : length l ≤ p → m ≡ replicate (length l) v
    whole h =
        let n : min p (length l) ≡ length l = omega arith in
        e ∙ ap (λ (i : ℕ). sets l 0 (replicate i v)) n ∙ sets-whole l (replicate (length l) v) (length-replicate (length l) v)

-- a run up to place `to`, or to the table's end: nothing where that is not behind its begin, else the places between
module _ {A : Type 0} (l : List A) (from to end : ℕ) (v : A) (e : end ≡ min to (length l)) where
  pub nothing : end ≤ from → l ≡ sets l from (replicate (to - from) v)
  nothing h = sym (sets-none (replicate (to - from) v) l from (omega (arith, length-replicate (to - from) v)))

  pub between : from < end → take from l ++ (replicate (length (take (end - from) (drop from l))) v ++ drop (end - from) (drop from l)) ≡ sets l from (replicate (to - from) v)
  between h =
      let k : length (take (end - from) (drop from l)) ≡ end - from = omega (arith, length-take (end - from) (drop from l), length-drop from l) in
      sets-filled l from (to - from) (end - from) (length (take (end - from) (drop from l))) v (omega arith) (omega arith) k
