-- The second pass over all files: which verdicts stand in the marks, and which are still to be made. These laws rely on those of
-- proofs/Packed.antt.
use Prim.Native.Nat.{ℕ, ◌+◌, ◌*◌, ◌<◌, ◌≤◌}
use mathlib.Core.Path.{◌≡◌, refl, sym, ap, ◌∙◌}
use mathlib.Core.Bool.{Bool, true, false, cond}
use mathlib.Core.List.{List, [], ◌∷◌, ◌++◌, map, append-nil}
use native.Mathlib.Omega.{arith}
use native.Mathlib.Numerals.{add-one}
use lib.Dec.{eqb}
use lib.ListN.{length, get_or, set, take, drop, length-drop, length-map}
use lib.Seq.{take_all, get_or-drop, drop-drop, drop-set-lt, map-set_same, take-suc-set, append_snoc}
use Rattle.lookup.specs.Lookup.{Entry}
use Rattle.links.specs.Clean.{links_of, resolves}
use Rattle.links.specs.Judging.{first_mark, verdict_of, verdicts_for}
use Rattle.links.specs.private.Walking.{lead, verdict, first_marks, walked_mark}
use Rattle.links.proofs.Packed.{map-set}
use Rattle.links.proofs.Scans.{cond_yes, cond_no}

module _ (files : List Entry) (dirs : List (List ℕ)) where
  -- the second pass keeps a mark's lead
  walked-lead : (f : Entry) (m : ℕ) → lead (walked_mark files dirs f m) ≡ lead m
  walked-lead f m = go (eqb (verdict m) 3) (cond (resolves files dirs (links_of files dirs files) f.text) 0 1)
    where
      go : (b : Bool) (v : ℕ) → lead (cond b (v * 8 + lead m) m) ≡ lead m
      go true v = omega arith
      go false v = refl

  -- and makes the first pass's verdict the verdict
  walked-verdict : (f : Entry) → verdict (walked_mark files dirs f (first_mark files dirs f)) ≡ verdict_of files dirs f
  walked-verdict f = go (first_mark files dirs f) (eqb (verdict (first_mark files dirs f)) 3) (cond (resolves files dirs (links_of files dirs files) f.text) 0 1)
    where
      go : (m : ℕ) (b : Bool) (v : ℕ) → verdict (cond b (v * 8 + lead m) m) ≡ cond b v (verdict m)
      go m true v = omega arith
      go m false v = refl

  -- the marks where k of them hold verdicts, and `rest` are the files that are left
  pub record Judging (rest : List Entry) (ms : List ℕ) (k : ℕ) : Type 0 where
    pub leads : map lead ms ≡ map lead (first_marks files dirs files)
    pub ahead : drop k ms ≡ first_marks files dirs rest
    pub so_far : take k (map verdict ms) ++ verdicts_for files dirs rest ≡ verdicts_for files dirs files

  pub judging-start : (ms : List ℕ) → ms ≡ first_marks files dirs files → Judging files ms 0
  judging-start ms e = record { leads = ap (map lead) e; ahead = e; so_far = refl }

  pub judging-end : (ms : List ℕ) (k : ℕ) → Judging [] ms k → map verdict ms ≡ verdicts_for files dirs files
  judging-end ms k x =
      let l : length ms ≤ k = omega (arith, ap length x.ahead, length-drop k ms) in
      sym (take_all k (map verdict ms) (omega (arith, length-map ms verdict))) ∙ sym (append-nil (take k (map verdict ms))) ∙ x.so_far

  module _ (ms : List ℕ) (k : ℕ) (f : Entry) (rest : List Entry) where
    -- a file that is no flagged link
    pub past-plain : f.flagged ≡ false → Judging (f ∷ rest) ms k → Judging rest ms k
    past-plain b x =
        record {
          leads = x.leads;
          ahead = x.ahead ∙ cond_no (first_mark files dirs f ∷ first_marks files dirs rest) (first_marks files dirs rest) f.flagged b;
          so_far = ap (λ (l : List ℕ). take k (map verdict ms) ++ l) (sym (cond_no (verdict_of files dirs f ∷ verdicts_for files dirs rest) (verdicts_for files dirs rest) f.flagged b)) ∙ x.so_far;
        }

    -- a flagged link
    pub past-link : (ms' : List ℕ) → ms' ≡ set ms k (walked_mark files dirs f (get_or ms k 0)) → f.flagged ≡ true → Judging (f ∷ rest) ms k → Judging rest ms' (k + 1)
    past-link ms' e b x =
        let a : drop k ms ≡ first_mark files dirs f ∷ first_marks files dirs rest = x.ahead ∙ cond_yes (first_mark files dirs f ∷ first_marks files dirs rest) (first_marks files dirs rest) f.flagged b in
        let h : k < length ms = omega (arith, ap length a, length-drop k ms) in
        let z : k + 0 ≡ k = omega arith in
        let m : get_or ms k 0 ≡ first_mark files dirs f = rw z at (sym (get_or-drop k ms 0 0) ∙ ap (λ (l : List ℕ). get_or l 0 0) a) in
        let v = walked_mark files dirs f (get_or ms k 0) in
        let d : verdict v ≡ verdict_of files dirs f = ap (λ (y : ℕ). verdict (walked_mark files dirs f y)) m ∙ walked-verdict f in
        let l : k < length (map verdict ms) = omega (arith, length-map ms verdict) in
        let t : take (k + 1) (map verdict (set ms k v)) ≡ take k (map verdict ms) ++ (verdict_of files dirs f ∷ []) = ap (take (k + 1)) (map-set verdict ms k v) ∙ rw (add-one, d) (take-suc-set (map verdict ms) k (verdict_of files dirs f) l) in
        rw e (record {
          leads = map-set_same lead ms k v 0 (walked-lead f (get_or ms k 0)) ∙ x.leads;
          ahead = drop-set-lt (k + 1) ms k v (omega arith) ∙ sym (drop-drop 1 k ms) ∙ ap (drop 1) a;
          so_far = rw t (append_snoc (take k (map verdict ms)) (verdict_of files dirs f) (verdicts_for files dirs rest)) ∙ ap (λ (y : List ℕ). take k (map verdict ms) ++ y) (sym (cond_yes (verdict_of files dirs f ∷ verdicts_for files dirs rest) (verdicts_for files dirs rest) f.flagged b)) ∙ x.so_far;
        })
