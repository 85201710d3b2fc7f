-- Laws of putting hashes in order into a table, or of counting them, a range after the other; and of beginnings counted with
-- repeats. They rely on the laws of proofs/Ascending.antt and Collecting.antt, and of `lists` about runs of stores.
--     ranges-joined                              the hashes below a bound, and those of the next range
--     Passed, first-passed, passed_next          the ranges up to a bound are gone over, the first and one more
--     passed-few, counted-over                   no more are counted than there are
--     passed-stored                              a range more is stored
--     beginnings_fit                             the beginnings of all directories by their numbers, and whether there is room for them
--     repeats-enough                             a place for each beginning is a place for each hash
use Prim.Native.Nat.{ℕ, suc, ◌+◌, ◌≤◌, ◌<◌}
use mathlib.Core.Path.{◌≡◌, refl, sym, ap, ◌∙◌}
use mathlib.Core.Logic.{⊎_elim}
use mathlib.Core.Bool.{Bool, true, false, cond, ◌&&◌, ◌||◌}
use mathlib.Core.List.{List, [], ◌∷◌, ◌++◌, map}
use native.Mathlib.Omega.{arith}
use lib.Dec.{eqb, ltb, leb}
use lib.ListN.{length, take, length-append, length-map}
use lib.Seq.{sets, length-take-le}
use borrow.Author.Tests.{le-leb, lt-leb, lt-ltb, le-ltb, leb-true}
use Rattle.std.proofs.lemmas.List.Folds.{list_any-append}
use Rattle.lists.specs.Lists.{sum}
use Rattle.lists.proofs.Orders.{le-or-lt}
use Rattle.lists.proofs.Runs.{sets-append}
use Rattle.crc32c.specs.Crc.{crc_from, lower}
use Rattle.hashes.specs.Hashes.{beginnings, joined_lists, inserted, ascending}
use Rattle.hashes.specs.declared.hashes.Collected.{Collected}
use Rattle.hashes.specs.declared.hashes.Listed.{Listed}
use Rattle.hashes.specs.private.Gathering.{within, Gathered, hashes_after}
use Rattle.hashes.specs.private.Due.{placed, listed_dirs, due, due_beginnings}
use Rattle.hashes.proofs.Ascending.{has, has-ascending, ascending-rises, rising_same, rising-append}
use Rattle.hashes.proofs.Collecting.{has-within, within-range, within-rises}

-- the hashes below a bound, and then those of the next range
module _ (b c : ℕ) (h : b ≤ c) (hs : List ℕ) where
  either : (z : ℕ) (t : Bool) → (((leb 0 z && ltb z b) && t) || ((leb b z && ltb z c) && t)) ≡ ((leb 0 z && ltb z c) && t)
  either z t =
      ⊎_elim
      (λ p. rw (le-leb 0 z (omega arith), le-ltb z b p, le-leb b z p))
      (λ p. rw (le-leb 0 z (omega arith), lt-ltb z b p, lt-leb b z p, lt-ltb z c (omega arith)) (or-false t))
      (le-or-lt b z)
    where
      or-false : (t : Bool) → (t || false) ≡ t
      or-false true = refl
      or-false false = refl

  pub ranges-joined : ascending (within 0 b hs) ++ ascending (within b c hs) ≡ ascending (within 0 c hs)
  ranges-joined =
      let s = ascending (within 0 b hs) in
      let t = ascending (within b c hs) in
      rising_same 0 0 (s ++ t) (ascending (within 0 c hs))
      (rising-append 0 b s t (omega arith) (ascending-rises (within 0 b hs)) (λ z e. (within-range 0 b hs z e).1) (within-rises b c hs))
      (ascending-rises (within 0 c hs))
      (λ z. list_any-append (eqb z) s t ∙ cc (has-ascending z (within 0 b hs) ∙ has-within 0 b z hs, has-ascending z (within b c hs) ∙ has-within b c z hs)
      ∙ either z (has z hs) ∙ sym (has-ascending z (within 0 c hs) ∙ has-within 0 c z hs))

-- the hashes below `from` are gone over, n of them
pub record Passed (hs : List ℕ) (from n : ℕ) : Type 0 where
  pub bound : from ≤ 4294967296
  pub count : n ≡ length (ascending (within 0 from hs))
  pub small : within 0 4294967296 hs ≡ hs

module _ (hs : List ℕ) where
  pub first-passed : (c : Collected) (batch : List ℕ) → Gathered hs 0 c batch → Passed hs c.end c.count
  first-passed c batch g = record { bound = g.range.1; count = omega (arith, ap length g.stored, length-take-le c.count batch g.places); small = g.small }

  module _ (from n : ℕ) (p : Passed hs from n) where
    -- no more than all hashes
    pub passed-few : n ≤ length (ascending hs)
    passed-few =
        let s = ascending (within 0 from hs) in
        let t = ascending (within from 4294967296 hs) in
        let e = ap length (ranges-joined from 4294967296 p.bound hs ∙ ap ascending p.small) in
        omega (arith, p.count, length-append s t)

    pub counted-over : (room : ℕ) → room < n → false ≡ leb (length (ascending hs)) room
    counted-over room h = sym (lt-leb (length (ascending hs)) room (omega (arith, passed-few)))

    -- a range more
    module _ (c : Collected) (batch : List ℕ) (g : Gathered hs from c batch) where
      next : ascending (within 0 from hs) ++ take c.count batch ≡ ascending (within 0 c.end hs)
      next = ap (λ (l : List ℕ). ascending (within 0 from hs) ++ l) g.stored ∙ ranges-joined from c.end (omega (arith, g.range.0)) hs

      pub passed_next : Passed hs c.end (n + c.count)
      passed_next =
          let l = length-append (ascending (within 0 from hs)) (take c.count batch) in
          record { bound = g.range.1; count = omega (arith, p.count, l, ap length next, length-take-le c.count batch g.places); small = g.small }

      pub passed-stored : (out now : List ℕ) → now ≡ sets out 0 (ascending (within 0 from hs)) → sets now n (take c.count batch) ≡ sets out 0 (ascending (within 0 c.end hs))
      passed-stored out now e =
          let s = ascending (within 0 from hs) in
          let z : n ≡ 0 + length s = omega (arith, p.count) in
          rw (e, z) (sym (sets-append s (take c.count batch) out 0) ∙ ap (sets out 0) next)

-- the beginnings of all directories, by their numbers
beginnings-sum : (text : List ℕ) (rows : List (List ℕ)) → sum (map (λ ws. length (beginnings (placed text ws))) rows) ≡ length (joined_lists (map beginnings (map (placed text) rows)))
beginnings-sum text [] = refl
beginnings-sum text (ws ∷ rows) =
    let d = placed text ws in
    rw (length-append (beginnings d) (joined_lists (map beginnings (map (placed text) rows)))) (ap (λ (n : ℕ). length (beginnings d) + n) (beginnings-sum text rows))

pub beginnings_fit : (s : Listed) (room : ℕ) → leb (sum (map (λ ws. length (beginnings (placed s.text.now ws))) s.dirs.now)) room ≡ leb (length (due_beginnings s)) room
beginnings_fit s room = ap (λ (n : ℕ). leb n room) (beginnings-sum s.text.now s.dirs.now)

-- each once are at most all
inserted-longer : (h : ℕ) (xs : List ℕ) → length (inserted h xs) ≤ suc (length xs)
inserted-longer h [] = omega arith
inserted-longer h (x ∷ xs) = at (ltb h x) (eqb h x) (inserted-longer h xs)
  where
    at : (s t : Bool) → length (inserted h xs) ≤ suc (length xs) → length (cond s (h ∷ x ∷ xs) (cond t (x ∷ xs) (x ∷ inserted h xs))) ≤ suc (suc (length xs))
    at true t e = omega arith
    at false true e = omega arith
    at false false e = omega arith

ascending-shorter : (hs : List ℕ) → length (ascending hs) ≤ length hs
ascending-shorter [] = omega arith
ascending-shorter (h ∷ hs) = omega (arith, inserted-longer h (ascending hs), ascending-shorter hs)

-- a hash for each beginning
as_many : (state : ℕ) (ds : List (List ℕ)) → length (joined_lists (map (hashes_after state) ds)) ≡ length (joined_lists (map beginnings ds))
as_many state [] = refl
as_many state (d ∷ ds) =
    let a = length-append (hashes_after state d) (joined_lists (map (hashes_after state) ds)) in
    let b = length-append (beginnings d) (joined_lists (map beginnings ds)) in
    let m : length (hashes_after state d) ≡ length (beginnings d) = length-map (beginnings d) (λ (x : List ℕ). crc_from state (map lower x)) in
    omega (arith, as_many state ds)

pub repeats-enough : (s : Listed) (room : ℕ) (t : Bool) → t ≡ leb (length (due_beginnings s)) room → t ≡ true → true ≡ leb (length (ascending (due s))) room
repeats-enough s room t e y =
    let a = ascending-shorter (due s) in
    let b = as_many s.state (listed_dirs s) in
    let k = leb-true (length (due_beginnings s)) room (sym e ∙ y) in
    sym (le-leb (length (ascending (due s))) room (omega arith))
