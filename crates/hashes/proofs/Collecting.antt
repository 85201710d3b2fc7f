-- Laws of collecting hashes of a range in a batch: what stands there in any order and with repeats is listed as the hashes of the
-- range are. They rely on the laws of proofs/Ascending.antt.
--     has-within, within-range, within-rises     what is in a range
--     cut-range, cut_same                        the first hashes in order are those of a smaller range
--     put-in                                     one hash more
--     kept-all, kept-least                       a full batch without its repeats, and the least of it
--     adds-none, adds-more                       no hashes more, and some after others
--     Sifted, sifted_repeat, sifted_other, sifted-all    the loop that drops repeats of a list in order
use Prim.Native.Nat.{ℕ, suc, ◌+◌, ◌-◌, ◌≤◌, ◌<◌}
use mathlib.Core.Path.{◌≡◌, refl, sym, ap, ◌∙◌}
use mathlib.Core.Logic.{◌⊎◌, ⊎_elim}
use mathlib.Core.Bool.{Bool, true, false, ◌&&◌}
use mathlib.Core.List.{List, [], ◌∷◌, ◌++◌, append-nil, append_assoc}
use native.Mathlib.Nat.{add-zero}
use native.Mathlib.Omega.{arith}
use lib.Dec.{eqb, ltb, leb}
use lib.ListN.{length, get_or, set, take, drop, length-set}
use lib.Seq.{take_all, take-take, get_or-take, length-take-le, drop-drop, drop-set-lt, get_or-set_same}
use borrow.Author.Tests.{lt-ltb, le-leb, ltb-true, leb-true, eqb-true}
use Rattle.std.proofs.lemmas.Bool.{and_parts}
use Rattle.std.proofs.lemmas.List.{take_more, take_more_set, get_or-drop}
use Rattle.std.proofs.lemmas.List.Elements.{filter-append}
use Rattle.std.proofs.lemmas.Map.Views.{any-filter_same}
use Rattle.lists.proofs.Orders.{le-or-lt}
use Rattle.hashes.specs.Hashes.{inserted, ascending}
use Rattle.hashes.specs.declared.hashes.Collected.{Collected}
use Rattle.hashes.specs.private.Gathering.{within, Holds, Adds}
use Rattle.hashes.proofs.Ascending.{Rising, has, has-ascending, has-take, has_at, ascending-rises, ascending_same, ascending-ascending, ascending-push, rising-from, rising-at, inserted-last, inserted-behind}

module _ (from end : ℕ) where
  pub has-within : (z : ℕ) (hs : List ℕ) → has z (within from end hs) ≡ ((leb from z && ltb z end) && has z hs)
  has-within z hs =
      any-filter_same (eqb z) (λ (h : ℕ). leb from h && ltb h end) (leb from z && ltb z end) (λ k q. ap (λ (h : ℕ). leb from h && ltb h end) (sym (eqb-true z k q))) hs

  pub within-range : (hs : List ℕ) (z : ℕ) → has z (ascending (within from end hs)) ≡ true → (from ≤ z) × (z < end)
  within-range hs z e =
      let a = and_parts (leb from z && ltb z end) (has z hs) (sym (has-within z hs) ∙ sym (has-ascending z (within from end hs)) ∙ e) in
      let b = and_parts (leb from z) (ltb z end) a.0 in
      (leb-true from z b.0, ltb-true z end b.1)

  pub within-rises : (hs : List ℕ) → Rising from (ascending (within from end hs))
  within-rises hs = rising-from from (ascending (within from end hs)) (ascending-rises (within from end hs)) (λ z e. (within-range hs z e).0)

  within-push : (hs : List ℕ) (h : ℕ) → from ≤ h → h < end → within from end (hs ++ (h ∷ [])) ≡ within from end hs ++ (h ∷ [])
  within-push hs h p q = filter-append (λ (x : ℕ). leb from x && ltb x end) hs (h ∷ []) ∙ rw (le-leb from h p, lt-ltb h end q)

-- the first k in order are those below the one at place k
module _ (from end : ℕ) (hs : List ℕ) (k : ℕ) (p : k < length (ascending (within from end hs))) where
  abbrev s : List ℕ
  s = ascending (within from end hs)

  abbrev cut : ℕ
  cut = get_or s k 0

  pub cut-range : (from + k ≤ cut) × (cut < end)
  cut-range = (rising-at from s k (within-rises from end hs) p, (within-range from end hs cut (has_at s k p)).1)

  regrouped : (a b c d : Bool) → (d ≡ true → b ≡ true) → (((a && b) && c) && d) ≡ ((a && d) && c)
  regrouped true true true true f = refl
  regrouped true true true false f = refl
  regrouped true true false true f = refl
  regrouped true true false false f = refl
  regrouped true false true true f = f refl
  regrouped true false false true f = refl
  regrouped true false true false f = refl
  regrouped true false false false f = refl
  regrouped false b c d f = refl

  pub cut_same : ascending (take k s) ≡ ascending (within from cut hs)
  cut_same =
      ascending_same (take k s) (within from cut hs)
      (λ z. has-take z from s k (within-rises from end hs) p ∙ ap (λ (t : Bool). t && ltb z cut) (has-ascending z (within from end hs) ∙ has-within from end z hs)
      ∙ regrouped (leb from z) (ltb z end) (has z hs) (ltb z cut) (λ q. lt-ltb z end (omega (arith, ltb-true z cut q, cut-range.1))) ∙ sym (has-within from cut z hs))

module _ (hs : List ℕ) (c : Collected) (batch : List ℕ) (w : Holds hs c batch) where
  -- one hash more
  module _ (h : ℕ) where
    pub put-in : c.count < length batch → c.from ≤ h → h < c.end → Holds (hs ++ (h ∷ [])) (record { from = c.from; end = c.end; count = c.count + 1 }) (set batch c.count h)
    put-in l p q =
        let t = take c.count batch in
        record {
          range = w.range;
          places = omega (arith, length-set batch c.count h);
          same = ap ascending (take_more_set batch c.count h l) ∙ ascending-push t h ∙ ap (inserted h) w.same ∙ sym (ascending-push (within c.from c.end hs) h)
              ∙ ap ascending (sym (within-push c.from c.end hs h p q));
          small = within-push 0 4294967296 hs h (omega arith) (omega (arith, w.range.1)) ∙ ap (λ (l : List ℕ). l ++ (h ∷ [])) w.small;
        }

  -- a full batch without its repeats, and the least half of it
  module _ (f : c.count ≡ length batch) (after : List ℕ) (n : ℕ) (d : (take n after ≡ ascending batch) × (n ≤ length after)) where
    listed : take n after ≡ ascending (within c.from c.end hs)
    listed = d.0 ∙ ap ascending (sym (take_all c.count batch (omega arith))) ∙ w.same

    pub kept-all : Holds hs (record { from = c.from; end = c.end; count = n }) after
    kept-all = record { range = w.range; places = d.1; same = ap ascending listed ∙ ascending-ascending (within c.from c.end hs); small = w.small }

    pub kept-least : (k : ℕ) → 0 < k → k < n → Holds hs (record { from = c.from; end = get_or after k 0; count = k }) after
    kept-least k z l =
        let s = ascending (within c.from c.end hs) in
        let p : k < length s = omega (arith, ap length listed, length-take-le n after d.1) in
        let g : get_or s k 0 ≡ get_or after k 0 = ap (λ (l : List ℕ). get_or l k 0) (sym listed) ∙ get_or-take n after k 0 l in
        let t : take k after ≡ take k s = sym (take-take k n after (omega arith)) ∙ ap (take k) listed in
        let r = cut-range c.from c.end hs k p in
        record {
          range = (omega (arith, r.0), omega (arith, r.1, w.range.1));
          places = omega (arith, d.1);
          same = rw (t, ← g) (cut_same c.from c.end hs k p);
          small = w.small;
        }

-- no hashes more, and some after others
pub adds-none : (c : Collected) (batch : List ℕ) → Adds [] c batch c batch
adds-none c batch = (refl, λ gs w. rw (append-nil gs) w)

pub adds-more : (hs more : List ℕ) (c d e : Collected) (batch next after : List ℕ) → Adds hs c batch d next → Adds more d next e after → Adds (hs ++ more) c batch e after
adds-more hs more c d e batch next after p q = (q.0 ∙ p.0, λ gs w. rw append_assoc at (q.1 (gs ++ hs) (p.1 gs w)))

-- of a list t in order, the first i are gone over: they stand in the first places of run, each once, and the last of these is the last of them
pub record Sifted (t run : List ℕ) (i kept : ℕ) : Type 0 where
  pub front : take kept run ≡ ascending (take i t)
  pub rest : drop i run ≡ drop i t
  pub long : length run ≡ length t
  pub behind : kept ≤ i
  pub last : 0 < i → (0 < kept) × (get_or run (kept - 1) 0 ≡ get_or t (i - 1) 0)

module _ (t run : List ℕ) (i kept : ℕ) (w : Sifted t run i kept) (l : i < length t) where
  abbrev h : ℕ
  h = get_or run i 0

  abbrev a : List ℕ
  a = ascending (take i t)

  here : h ≡ get_or t i 0
  here = rw add-zero at (sym (get_or-drop i run 0 0) ∙ ap (λ (l : List ℕ). get_or l 0 0) w.rest ∙ get_or-drop i t 0 0)

  more : ascending (take (i + 1) t) ≡ inserted h a
  more = ap ascending (take_more t i 0 l) ∙ ascending-push (take i t) (get_or t i 0) ∙ ap (λ (x : ℕ). inserted x a) (sym here)

  many : length a ≡ kept
  many = ap length (sym w.front) ∙ length-take-le kept run (omega (arith, w.behind, w.long))

  end : (k : ℕ) → length a ≡ suc k → get_or a k 0 ≡ get_or run (kept - 1) 0
  end k e =
      let q : k ≡ kept - 1 = omega (arith, many) in
      rw (← w.front, q) (get_or-take kept run (kept - 1) 0 (omega (arith, many)))

  back : get_or t ((i + 1) - 1) 0 ≡ h
  back =
      let e : (i + 1) - 1 ≡ i = omega arith in
      rw e (sym here)

  pub sifted_repeat : 0 < kept → get_or run (kept - 1) 0 ≡ h → Sifted t run (i + 1) kept
  sifted_repeat z e =
      let k : length a ≡ suc (kept - 1) = omega (arith, many) in
      record {
        front = w.front ∙ sym (more ∙ inserted-last h 0 a (kept - 1) (ascending-rises (take i t)) k (end (kept - 1) k ∙ e));
        rest = sym (drop-drop 1 i run) ∙ ap (drop 1) w.rest ∙ drop-drop 1 i t;
        long = w.long;
        behind = omega (arith, w.behind);
        last = λ q. (z, e ∙ sym back);
      }

  pub sifted_other : ((j : ℕ) → j ≤ i → get_or t j 0 ≤ get_or t i 0) → (kept ≡ 0) ⊎ (get_or run (kept - 1) 0 ≡ h → ⊥) → Sifted t (set run kept h) (i + 1) (kept + 1)
  sifted_other up o =
      let k : kept < length run = omega (arith, w.behind, w.long) in
      let e : (kept + 1) - 1 ≡ kept = omega arith in
      record {
        front = take_more_set run kept h k ∙ ap (λ (l : List ℕ). l ++ (h ∷ [])) w.front ∙ sym (more ∙ inserted-behind h 0 a (ascending-rises (take i t)) (λ j e. rw (end j e) (above (omega (arith, many)))));
        rest = drop-set-lt (i + 1) run kept h (omega (arith, w.behind)) ∙ sym (drop-drop 1 i run) ∙ ap (drop 1) w.rest ∙ drop-drop 1 i t;
        long = length-set run kept h ∙ w.long;
        behind = omega (arith, w.behind);
        last = λ q. (omega arith, rw e (get_or-set_same run kept h 0 k ∙ sym back));
      }
    where
      below : (m : ℕ) → m ≤ h → (m ≡ h → ⊥) → m < h
      below m q n = ⊎_elim (λ e. absurd (n (omega arith))) (λ e. e) (le-or-lt h m)

      above : 0 < kept → get_or run (kept - 1) 0 < h
      above z =
          let v = (w.last (omega (arith, w.behind))).1 in
          let u = up (i - 1) (omega arith) in
          ⊎_elim (λ n. absurd (omega arith)) (below (get_or run (kept - 1) 0) (omega (arith, here))) o

pub sifted-all : (t run : List ℕ) (i kept : ℕ) → Sifted t run i kept → length t ≤ i → take kept run ≡ ascending t
sifted-all t run i kept w h = w.front ∙ ap ascending (take_all i t h)
