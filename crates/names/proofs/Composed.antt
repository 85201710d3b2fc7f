-- Laws of `appended`: a path whose first part is kept only grows, by lengths that are known from the parts, and parts
-- that are written one behind the other are the composed text. They rely on the laws of runs of stores of `lists`.
use Prim.Native.Nat.{ℕ, ◌+◌, ◌≤◌, ◌<◌}
use mathlib.Core.Path.{◌≡◌, refl, sym, ◌∙◌}
use mathlib.Core.Bool.{Bool, true, false, cond, true≢false}
use mathlib.Core.List.{List, [], ◌∷◌, ◌++◌}
use native.Mathlib.Omega.{arith}
use lib.ListN.{length, take, length-append}
use lib.Seq.{sets, length-sets}
use Rattle.lists.proofs.Runs.{part-sets, sets_over}
use Rattle.path.specs.Join.{Joined, is_alone, is_empty, closed_from, is_closed, separator, glued, appended, joined_if, fits}
use Rattle.path.proofs.Joins.{longer_stays, length_parts}
use Rattle.names.specs.declared.kept.KeptParts.{KeptParts}
use Rattle.names.specs.private.Parts.{composed}

-- no part is appended to another by leaving it out
pub append-none : (a b : List ℕ) → appended (appended a []) b ≡ appended a b
append-none a b = at (is_alone a) refl
  where
    at : (t : Bool) → is_alone a ≡ t → appended (cond t [] a) b ≡ appended a b
    at true e = rw e
    at false e = refl

-- a path that is kept has a byte
pub kept-some : (p : List ℕ) → is_alone p ≡ false → 0 < length p
kept-some [] e = absurd (true≢false e)
kept-some (c ∷ t) e = omega arith

-- how long the composed path is
pub length-appended : (a b : List ℕ) → is_alone a ≡ false → length (appended a b) ≡ length a + (length (separator a b) + length b)
length-appended a b e = rw e (rw e at (sym (length_parts a b)))

pub longer : (a b : List ℕ) → is_alone a ≡ false → length a ≤ length (appended a b)
longer a b e = omega (arith, length-appended a b e)

pub kept-appended : (a b : List ℕ) → is_alone a ≡ false → is_alone (appended a b) ≡ false
kept-appended a [] e = rw (e, e)
kept-appended a (c ∷ t) e = rw e (longer_stays (glued a (c ∷ t)) (long (is_closed a)))
  where
    long : (b : Bool) → 2 ≤ length (a ++ cond b (c ∷ t) (47 ∷ c ∷ t))
    long true = omega (arith, length-append a (c ∷ t), kept-some a e)
    long false = omega (arith, length-append a (47 ∷ c ∷ t), kept-some a e)

-- whether it ends in a separator
closed-behind : (x : ℕ) (a : List ℕ) (c : ℕ) (t : List ℕ) → closed_from x (a ++ (c ∷ t)) ≡ closed_from c t
closed-behind x [] c t = refl
closed-behind x (y ∷ a) c t = closed-behind y a c t

closed-append : (a : List ℕ) (c : ℕ) (t : List ℕ) → is_closed (a ++ (c ∷ t)) ≡ closed_from c t
closed-append [] c t = refl
closed-append (x ∷ a) c t = closed-behind x a c t

pub closed-appended : (a b : List ℕ) → is_alone a ≡ false → is_closed (appended a b) ≡ cond (is_empty b) (is_closed a) (is_closed b)
closed-appended a [] e = rw e
closed-appended a (c ∷ t) e = rw e (at (is_closed a))
  where
    at : (b : Bool) → is_closed (a ++ cond b (c ∷ t) (47 ∷ c ∷ t)) ≡ closed_from c t
    at true = closed-append a c t
    at false = closed-append a 47 (c ∷ t)

-- the same of a path that ends as `end` does
module _ (a b end : List ℕ) (kept : is_alone a ≡ false) (e : is_closed end ≡ is_closed a) where
  grows : length (appended a b) ≡ length a + (length (separator end b) + length b)
  grows = rw e (length-appended a b kept)

  ends : is_closed (cond (is_empty b) end b) ≡ is_closed (appended a b)
  ends = sym (closed-appended a b kept ∙ rw (← e) (at (is_empty b)))
    where
      at : (t : Bool) → cond t (is_closed end) (is_closed b) ≡ is_closed (cond t end b)
      at true = refl
      at false = refl

-- and of all parts
pub composed_length : (p : KeptParts) (end2 end3 : List ℕ) → end2 ≡ cond (is_empty p.second.now) p.first.now p.second.now → end3 ≡ cond (is_empty p.third.now) end2 p.third.now
    → length (composed p)
    ≡ length p.first.now + (length (separator p.first.now p.second.now) + length p.second.now) + (length (separator end2 p.third.now) + length p.third.now)
    + (length (separator end3 p.last.now) + length p.last.now)
composed_length p end2 end3 f g =
    let a = p.first.now in
    let b = appended a p.second.now in
    let k2 = kept-appended a p.second.now p.kept in
    let k3 = kept-appended b p.third.now k2 in
    let q2 : is_closed end2 ≡ is_closed b = rw f (ends a p.second.now a p.kept refl) in
    let q3 : is_closed end3 ≡ is_closed (appended b p.third.now) = rw g (ends b p.third.now end2 k2 q2) in
    omega (
      arith,
      grows a p.second.now a p.kept refl,
      grows b p.third.now end2 k2 q2,
      grows (appended b p.third.now) p.last.now end3 k3 q3,
    )

-- a path stands at the start of `held`: its n bytes are written over the first of `buf`
pub record Stands (buf path : List ℕ) (n : ℕ) (held : List ℕ) : Type 0 where
  pub count : n ≡ length path
  pub text : held ≡ sets buf 0 path

-- a part appended to a path that stands at the start of the buffer
module _ (a b buf held : List ℕ) (used : ℕ) (kept : is_alone a ≡ false) (s : Stands buf a used held) (h : length (appended a b) ≤ length buf) where
  there : take used held ≡ a
  there = rw (s.count, s.text) (part-sets a buf 0 (omega (arith, longer a b kept)))

  as_long : length held ≡ length buf
  as_long = rw s.text (length-sets buf 0 a)

  pub fits-there : (used ≤ length held) × (length (appended (take used held) b) ≤ length held)
  fits-there = (rw as_long (omega (arith, s.count, longer a b kept)), rw (there, as_long) h)

  pub appended-there : (r : ℕ) (x : List ℕ) → r ≡ length (appended (take used held) b) → x ≡ sets held 0 (appended (take used held) b) → Stands buf (appended a b) r x
  appended-there r x e f = record {
    count = e ∙ rw there;
    text = f ∙ rw (there, s.text) (sets_over a (appended a b) buf 0 (longer a b kept));
  }

-- a text said in other words
pub retold : (j : Joined) (t u buf : List ℕ) → j ≡ joined_if (fits t buf) t buf → t ≡ u → j ≡ joined_if (fits u buf) u buf
retold j t u buf h e = h ∙ rw e
