-- A branch and a leaf that are glued, by the room that they need: refused where it lacks, else written in turn. They rely on the laws
-- of runs of stores of `lists` and on Joins.antt.
use Prim.Native.Nat.{ℕ, ◌+◌, ◌-◌, ◌≤◌}
use mathlib.Core.Path.{◌≡◌, refl, sym, ap, ◌∙◌}
use mathlib.Core.Bool.{Bool, true, false, cond}
use mathlib.Core.List.{List, ◌∷◌, ◌++◌}
use native.Mathlib.Omega.{arith}
use borrow.Author.Tests.{leb-true}
use lib.Dec.{leb}
use lib.ListN.{length, take, drop, length-append}
use lib.Seq.{sets, length-sets}
use Rattle.lists.proofs.Runs.{sets-append, sets-lent}
use Rattle.types.specs.Refusals.{value, refused}
use Rattle.path.specs.Join.{is_closed, glued, Joined, joined_if, fits}
use Rattle.path.proofs.Joins.{written_is}

-- a branch of n bytes and a leaf, with a separator between where the branch lacks one
module _ (branch leaf : List ℕ) (n : ℕ) (closed : Bool) (e : n ≡ length branch) (h : closed ≡ is_closed branch) where
  length-tail : (b : Bool) → length (cond b leaf (47 ∷ leaf)) ≡ cond b (length leaf) (length leaf + 1)
  length-tail true = refl
  length-tail false = omega arith

  length-glued : n + cond closed (length leaf) (length leaf + 1) ≡ length (glued branch leaf)
  length-glued = rw (e, h, length-append, length-tail (is_closed branch))

  sets-glued : (buf : List ℕ) → sets (sets buf 0 branch) n (cond closed leaf (47 ∷ leaf)) ≡ sets buf 0 (glued branch leaf)
  sets-glued buf =
      let q : n ≡ 0 + length branch = omega arith in
      rw (q, h) (sym (sets-append branch (cond (is_closed branch) leaf (47 ∷ leaf)) buf 0))

  -- where there was room for it or not
  module _ (buf : List ℕ) (room : Bool) (f : room ≡ leb (n + cond closed (length leaf) (length leaf + 1)) (length buf)) where
    pub glued-refused : room ≡ false
        → ◌≡◌ {A = Joined} (record { says = refused 10; buf = buf }) (joined_if (fits (glued branch leaf) buf) (glued branch leaf) buf)
    glued-refused q =
        rw (rw length-glued at (sym f ∙ q))

    pub glued-written : room ≡ true → (x : List ℕ) (r : ℕ) → r ≡ n + cond closed (length leaf) (length leaf + 1)
        → x ≡ sets (sets buf 0 branch) n (cond closed leaf (47 ∷ leaf))
        → ◌≡◌ {A = Joined} (record { says = value r; buf = x }) (joined_if (fits (glued branch leaf) buf) (glued branch leaf) buf)
    glued-written q x r k w =
        written_is (fits (glued branch leaf) buf) (glued branch leaf) buf r x
        (rw length-glued at (sym f ∙ q)) (k ∙ length-glued) (w ∙ sets-glued buf)

    -- l holds the branch, and the leaf is written to the start of its rest
    pub glued-lent : room ≡ true → (l rest : List ℕ) (m k : ℕ) → l ≡ sets buf 0 branch → k ≡ length l - n
        → m ≡ cond closed (length leaf) (length leaf + 1) → rest ≡ sets (take k (drop n l)) 0 (cond closed leaf (47 ∷ leaf))
        → ◌≡◌ {A = Joined} (record { says = value (n + m); buf = take n l ++ (rest ++ drop k (drop n l)) })
        (joined_if (fits (glued branch leaf) buf) (glued branch leaf) buf)
    glued-lent q l rest m k a d g w =
        let t = cond closed leaf (47 ∷ leaf) in
        let o : leb (n + cond closed (length leaf) (length leaf + 1)) (length buf) ≡ true = sym f ∙ q in
        let b : n ≤ length l = omega (arith, leb-true (n + cond closed (length leaf) (length leaf + 1)) (length buf) o, length-sets buf 0 branch, ap length a) in
        let s : take n l ++ (rest ++ drop k (drop n l)) ≡ sets l n t = rw w (sets-lent l n k t b d) in
        glued-written q (take n l ++ (rest ++ drop k (drop n l))) (n + m) (ap (λ (x : ℕ). n + x) g) (s ∙ ap (λ (x : List ℕ). sets x n t) a)
