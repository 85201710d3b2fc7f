-- Laws of the joins: a join is the branch that is kept, what stands between, and the leaf, and these are written in turn.
-- They rely on the laws of runs of stores of `lists`.
use Prim.Native.Nat.{ℕ, ◌+◌, ◌-◌, ◌≤◌}
use mathlib.Core.Path.{◌≡◌, refl, sym, ap}
use mathlib.Core.Bool.{Bool, true, false, cond, true≢false}
use mathlib.Core.List.{List, [], ◌∷◌, ◌++◌, append-nil, append_assoc}
use native.Mathlib.Omega.{arith}
use native.Mathlib.Nat.{zero-add, add-zero}
use borrow.Author.Tests.{le-leb, leb-true}
use lib.Dec.{eqb}
use lib.ListN.{length, take, drop, length-append, length-take, length-drop, drop_of_length-le}
use lib.Seq.{sets, sets-eq, drop-drop, take_all, length-take-le}
use Rattle.lists.proofs.Runs.{sets-append, sets-after}
use Rattle.types.specs.Refusals.{Outcome, value, refused}
use Rattle.path.specs.Join.{is_empty, is_closed, is_alone, separator, appended, Joined, joined_if, fits, append_into}

-- a path of two bytes or more is kept
pub longer_stays : (p : List ℕ) → 2 ≤ length p → is_alone p ≡ false
longer_stays [] h = absurd (omega arith)
longer_stays (c ∷ []) h = absurd (omega arith)
longer_stays (c ∷ d ∷ t) h = at (eqb c 46)
  where
    at : (b : Bool) → cond b false false ≡ false
    at true = refl
    at false = refl

-- that there are some bytes, by their number
pub some_bytes : (l : List ℕ) → (length l ≡ 0 → ⊥) → is_empty l ≡ false
some_bytes [] h = absurd (h refl)
some_bytes (c ∷ t) h = refl

-- a join is what it keeps of the branch, what stands between, and the leaf
module _ (branch leaf : List ℕ) where
  abbrev pub kept : List ℕ
  kept = cond (is_alone branch) [] branch

  abbrev pub between : List ℕ
  between = cond (is_alone branch) [] (separator branch leaf)

  parts-if : (a c : Bool) (l : List ℕ) → cond a [] branch ++ (cond a [] (cond (is_empty l) [] (cond c [] (47 ∷ []))) ++ l) ≡ cond a l (cond (is_empty l) branch (branch ++ cond c l (47 ∷ l)))
  parts-if true c l = refl
  parts-if false c [] = append-nil branch
  parts-if false true (x ∷ l) = refl
  parts-if false false (x ∷ l) = refl

  pub parts : kept ++ (between ++ leaf) ≡ appended branch leaf
  parts = parts-if (is_alone branch) (is_closed branch) leaf

  pub length_parts : length kept + (length between + length leaf) ≡ length (appended branch leaf)
  length_parts = rw (sym parts) (omega (arith, length-append kept (between ++ leaf), length-append between leaf))

  pub separator_short : length between ≤ 1
  separator_short = at (is_alone branch) (is_empty leaf) (is_closed branch)
    where
      at : (a e c : Bool) → length {A = ℕ} (cond a [] (cond e [] (cond c [] (47 ∷ [])))) ≤ 1
      at true e c = omega arith
      at false true c = omega arith
      at false false true = omega arith
      at false false false = omega arith

-- the text where it fits
module _ (fit : Bool) (text buf : List ℕ) where
  pub written_is : (n : ℕ) (x : List ℕ) → fit ≡ true → n ≡ length text → x ≡ sets buf 0 text
      → ◌≡◌ {A = Joined} (record { says = value n; buf = x }) (joined_if fit text buf)
  written_is n x e h k = rw (e, h, k)

-- a separator, a leaf, and what stands behind them
pub leaf_written : (a b rest x y r : List ℕ) → length a + length b ≤ length rest → x ≡ a → r ≡ drop (length a) rest → y ≡ b
    → ◌≡◌ {A = Joined} (record { says = value (length a + length b); buf = x ++ (y ++ drop (length b) r) }) (joined_if (fits (a ++ b) rest) (a ++ b) rest)
leaf_written a b rest x y r w e f g =
    let n = length-append a b in
    let q : sets rest 0 (a ++ b) ≡ (a ++ b) ++ drop (length a + length b) rest = rw (zero-add, n) at (sets-eq (a ++ b) rest 0 (omega (arith, n))) in
    let d : drop (length b) r ≡ drop (length a + length b) rest = rw f (drop-drop (length b) (length a) rest) in
    let k : x ++ (y ++ drop (length b) r) ≡ sets rest 0 (a ++ b) = rw (e, g, d, q) (sym (append_assoc a b (drop (length a + length b) rest))) in
    written_is (fits (a ++ b) rest) (a ++ b) rest (length a + length b) (x ++ (y ++ drop (length b) r)) (le-leb (length (a ++ b)) (length rest) (omega (arith, n))) (sym n) k

-- a separator, and a leaf behind it
pub leaf_copied : (a b rest x y : List ℕ) → length a + length b ≤ length rest → x ≡ sets rest 0 a → y ≡ sets x (length a) b
    → ◌≡◌ {A = Joined} (record { says = value (length a + length b); buf = y }) (joined_if (fits (a ++ b) rest) (a ++ b) rest)
leaf_copied a b rest x y w e f =
    let n = length-append a b in
    let k : y ≡ sets rest 0 (a ++ b) = rw (f, e) (sym (rw zero-add at (sets-append a b rest 0))) in
    written_is (fits (a ++ b) rest) (a ++ b) rest (length a + length b) y (le-leb (length (a ++ b)) (length rest) (omega (arith, n))) (sym n) k

says-number : Outcome ℕ → ℕ
says-number (value n) = n
says-number (refused n) = 0

says-value : Outcome ℕ → Bool
says-value (value n) = true
says-value (refused n) = false

refused-value : (n m : ℕ) → value m ≡ refused n → ⊥
unfolding says-value
refused-value n m e = true≢false (ap says-value e)

same-value : (n m : ℕ) → value m ≡ value n → m ≡ n
unfolding says-number
same-value n m e = ap says-number e

-- a text k, and what the rest of the buffer behind it became by a write of t
module _ (k t buf : List ℕ) (w : length k ≤ length buf) where
  sets-joined : sets buf 0 (k ++ t) ≡ k ++ sets (drop (length k) buf) 0 t
  sets-joined =
      let e : sets buf 0 k ≡ k ++ drop (length k) buf = rw zero-add at (sets-eq k buf 0 (omega arith)) in
      rw (sets-append k t buf 0, e, zero-add) (rw add-zero at (sets-after t k (drop (length k) buf) 0))

  written-by : (b : Bool) → fits t (drop (length k) buf) ≡ b → (m : ℕ) (rest : List ℕ)
      → ◌≡◌ {A = Joined} (record { says = value m; buf = rest }) (joined_if b t (drop (length k) buf))
      → ◌≡◌ {A = Joined} (record { says = value (length k + m); buf = k ++ rest }) (joined_if (fits (k ++ t) buf) (k ++ t) buf)
  written-by true q m rest e =
      let d : m ≡ length t = same-value (length t) m (ap (λ (j : Joined). j.says) e) in
      let r : rest ≡ sets (drop (length k) buf) 0 t = ap (λ (j : Joined). j.buf) e in
      let o : length t ≤ length (drop (length k) buf) = leb-true (length t) (length (drop (length k) buf)) q in
      let f : fits (k ++ t) buf ≡ true = le-leb (length (k ++ t)) (length buf) (omega (arith, length-append k t, length-drop (length k) buf)) in
      written_is (fits (k ++ t) buf) (k ++ t) buf (length k + m) (k ++ rest) f (omega (arith, d, length-append k t)) (rw r (sym sets-joined))
  written-by false q m rest e = absurd (refused-value 10 m (ap (λ (j : Joined). j.says) e))

-- a join, of which the branch that is kept stands in the buffer or is written there, and the rest follows
module _ (branch leaf buf k s r : List ℕ) (e : k ≡ kept branch leaf) (f : s ≡ between branch leaf) (w : length k ≤ length buf) (g : r ≡ drop (length k) buf) where
  pub join_written : (m : ℕ) (rest : List ℕ)
      → ◌≡◌ {A = Joined} (record { says = value m; buf = rest }) (joined_if (fits (s ++ leaf) r) (s ++ leaf) r)
      → ◌≡◌ {A = Joined} (record { says = value (length k + m); buf = k ++ rest }) (joined_if (fits (appended branch leaf) buf) (appended branch leaf) buf)
  join_written m rest h =
      let p : k ++ (s ++ leaf) ≡ appended branch leaf = rw (e, f) (parts branch leaf) in
      let q = rw g at h in
      rw p at (written-by k (s ++ leaf) buf w (fits (s ++ leaf) (drop (length k) buf)) refl m rest q)

-- a join with the branch that stands in the first bytes of the buffer, of which the rest is lent
module _ (buf leaf k s : List ℕ) (used : ℕ) (u : used ≤ length buf) (e : k ≡ kept (take used buf) leaf) (f : s ≡ between (take used buf) leaf) where
  front-if : (a : Bool) → cond a [] (take used buf) ≡ take (length (cond a [] (take used buf))) buf
  front-if true = refl
  front-if false = rw (length-take-le used buf u)

  front : k ≡ take (length k) buf
  front = rw e (front-if (is_alone (take used buf)))

  within : length k ≤ length buf
  within = omega (arith, ap length front, length-take (length k) buf)

  abbrev rest-count : ℕ
  rest-count = length buf - length k

  pub append_written : (m : ℕ) (rest : List ℕ)
      → (let r = take (length buf - length k) (drop (length k) buf) in ◌≡◌ {A = Joined} (record { says = value m; buf = rest }) (joined_if (fits (s ++ leaf) r) (s ++ leaf) r))
      → ◌≡◌ {A = Joined} (record { says = value (length k + m); buf = take (length k) buf ++ (rest ++ drop (length buf - length k) (drop (length k) buf)) }) (append_into buf used leaf)
  append_written m rest h =
      let w : length (drop (length k) buf) ≤ rest-count = omega (arith, length-drop (length k) buf) in
      let g = take_all rest-count (drop (length k) buf) w in
      rw (drop_of_length-le (drop (length k) buf) {i = rest-count} w, append-nil, ← front, le-leb used (length buf) u)
      (join_written (take used buf) leaf buf k s (take rest-count (drop (length k) buf)) e f within g m rest h)
