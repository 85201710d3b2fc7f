-- Marks as numbers: a lead below 8 and 8 times a verdict. These laws rely on the kit's laws of lists.
use Prim.Native.Nat.{ℕ, zero, suc, ◌+◌, ◌*◌, ◌/◌, ◌<◌, ◌≤◌}
use mathlib.Core.Path.{◌≡◌, refl, sym, ap, ◌∙◌}
use mathlib.Core.List.{List, [], ◌∷◌, ◌++◌, map, append-nil}
use native.Mathlib.Omega.{arith}
use native.Mathlib.Numerals.{add-one}
use lib.ListN.{length, get_or, set, take, drop, length-map, drop_of_length-le}
use lib.Seq.{drop-cons, get_or_at, set_at, take-suc, append_snoc, length-take-le, take_all, map-set_same}
use Rattle.links.specs.private.Walking.{lead, verdict, untraversed}

-- ---- maps of marks

module _ (f : ℕ → ℕ) where
  -- one mark of a map, with 0 past the end
  pub map_get : (ms : List ℕ) (k : ℕ) → f 0 ≡ 0 → get_or (map f ms) k 0 ≡ f (get_or ms k 0)
  map_get [] k z = sym z
  map_get (m ∷ ms) zero z = refl
  map_get (m ∷ ms) (suc k) z = map_get ms k z

  -- one mark changed
  pub map-set : (ms : List ℕ) (k v : ℕ) → map f (set ms k v) ≡ set (map f ms) k (f v)
  map-set [] k v = refl
  map-set (m ∷ ms) zero v = refl
  map-set (m ∷ ms) (suc k) v = ap (λ (l : List ℕ). f m ∷ l) (map-set ms k v)

  map-append : (a b : List ℕ) → map f (a ++ b) ≡ map f a ++ map f b
  map-append [] b = refl
  map-append (x ∷ a) b = ap (λ (l : List ℕ). f x ∷ l) (map-append a b)

  -- a map written in place, of which k marks are done: what is read, a turn, and the end
  module _ (ms : List ℕ) (k : ℕ) where
    done-long : k < length ms → length (map f (take k ms)) ≡ k
    done-long h = length-map (take k ms) f ∙ length-take-le k ms (omega arith)

    pub map_read : k < length ms → get_or (map f (take k ms) ++ drop k ms) k 0 ≡ get_or ms k 0
    map_read h = rw (drop-cons ms k 0 h) (get_or_at (map f (take k ms)) (get_or ms k 0) (drop (suc k) ms) 0 k (done-long h))

    pub map-turn : k < length ms → set (map f (take k ms) ++ drop k ms) k (f (get_or ms k 0)) ≡ map f (take (k + 1) ms) ++ drop (k + 1) ms
    map-turn h =
        rw (drop-cons ms k 0 h, set_at (map f (take k ms)) (get_or ms k 0) (drop (suc k) ms) (f (get_or ms k 0)) k (done-long h), add-one, take-suc ms k 0 h, map-append (take k ms) (get_or ms k 0 ∷ []), append_snoc)

    pub map_written : (now : List ℕ) (v : ℕ) → k < length ms → now ≡ map f (take k ms) ++ drop k ms → v ≡ f (get_or now k 0) → set now k v ≡ map f (take (k + 1) ms) ++ drop (k + 1) ms
    map_written now v h e q =
        let r : get_or now k 0 ≡ get_or ms k 0 = rw e (map_read h) in
        rw (q, r, e) (map-turn h)

-- ---- leads and verdicts

-- the lead and the verdict of the number that holds both
lead-of : (v m : ℕ) → m < 8 → lead (v * 8 + m) ≡ m
lead-of v m h = omega arith

verdict-of : (v m : ℕ) → m < 8 → verdict (v * 8 + m) ≡ v
verdict-of v m h = omega arith

-- every lead is below 8
pub lead-below : (ms : List ℕ) (k : ℕ) → get_or (map lead ms) k 0 < 8
lead-below ms k = rw (map_get lead ms k refl) (omega arith)

module _ (ms : List ℕ) (k m : ℕ) (h : m < 8) where
  -- a lead is set
  pub set-lead : map lead (set ms k (get_or ms k 0 / 8 * 8 + m)) ≡ set (map lead ms) k m
  set-lead = map-set lead ms k (get_or ms k 0 / 8 * 8 + m) ∙ ap (set (map lead ms) k) (lead-of (get_or ms k 0 / 8) m h)

  pub set-lead-verdicts : map verdict (set ms k (get_or ms k 0 / 8 * 8 + m)) ≡ map verdict ms
  set-lead-verdicts = map-set_same verdict ms k (get_or ms k 0 / 8 * 8 + m) 0 (verdict-of (get_or ms k 0 / 8) m h)

-- leads and verdicts together are the marks
pub marks_from : (a b : List ℕ) → map lead a ≡ map lead b → map verdict a ≡ map verdict b → a ≡ b
marks_from [] [] h k = refl
marks_from [] (y ∷ b) h k = absurd (let z = ap length h in omega arith)
marks_from (x ∷ a) [] h k = absurd (let z = ap length h in omega arith)
marks_from (x ∷ a) (y ∷ b) h k =
    let p : lead x ≡ lead y = cc in
    let q : verdict x ≡ verdict y = cc in
    let e : x ≡ y = omega arith in
    let t : map lead a ≡ map lead b = cc in
    let u : map verdict a ≡ map verdict b = cc in
    let r = marks_from a b t u in
    cc

-- ---- a lead without its use

pub fresh-small : (m : ℕ) → untraversed m ≤ m
fresh-small zero = omega arith
fresh-small (suc zero) = omega arith
fresh-small (suc (suc zero)) = omega arith
fresh-small (suc (suc (suc m))) = omega arith

-- a mark with its lead untraversed
abbrev pub reopened : ℕ → ℕ
reopened m = m / 8 * 8 + untraversed (lead m)

leads-of : (ms : List ℕ) → map lead (map reopened ms) ≡ map untraversed (map lead ms)
leads-of [] = refl
leads-of (m ∷ ms) = rw (lead-of (m / 8) (untraversed (lead m)) (omega (arith, fresh-small (lead m))), leads-of ms)

verdicts-of : (ms : List ℕ) → map verdict (map reopened ms) ≡ map verdict ms
verdicts-of [] = refl
verdicts-of (m ∷ ms) = rw (verdict-of (m / 8) (untraversed (lead m)) (omega (arith, fresh-small (lead m))), verdicts-of ms)

-- all of them, where k marks are done and there are no more
module _ (ms now : List ℕ) (k : ℕ) (h : length ms ≤ k) (e : now ≡ map reopened (take k ms) ++ drop k ms) where
  whole : now ≡ map reopened ms
  whole = e ∙ rw (take_all k ms h, drop_of_length-le ms h) (append-nil (map reopened ms))

  pub reopened_leads : map lead now ≡ map untraversed (map lead ms)
  reopened_leads = ap (map lead) whole ∙ leads-of ms

  pub reopened_verdicts : map verdict now ≡ map verdict ms
  reopened_verdicts = ap (map verdict) whole ∙ verdicts-of ms
