-- Laws of the walk of Clean.antt: every turn makes `left` less, so the turns that a walk is allowed are no part of its meaning.
-- They rely on nothing else of this crate.
use Prim.Native.Nat.{ℕ, zero, suc, ◌+◌, ◌-◌, ◌≤◌, ◌<◌}
use mathlib.Core.Path.{◌≡◌, refl, ap}
use mathlib.Core.Bool.{Bool, true, false, cond}
use mathlib.Core.List.{List, [], ◌∷◌, ◌++◌}
use native.Mathlib.Omega.{arith}
use lib.ListN.{length, take, drop, length-append, length-take, length-drop}
use lib.Dec.{ltb}
use borrow.Author.Tests.{ltb-true}
use Rattle.lists.specs.Lists.{equal}
use Rattle.path.specs.Split.{is_separator, is_complete, before_first}
use Rattle.path.specs.Join.{is_empty, is_alone, is_closed, glued, combined, appended}
use Rattle.links.specs.Clean.{part_end, Link, Lead, none, to, lead_at, without_link, Next, stop, done, on, further, through, step, follow, walk, weight, left, goes}

-- `glued` is no longer than its parts and one separator
glue-short : (c : Bool) (a b : List ℕ) → length (a ++ cond c b (47 ∷ b)) ≤ length a + suc (length b)
glue-short true a b = omega (arith, length-append a b)
glue-short false a b = omega (arith, length-append a (47 ∷ b))

-- so is `combined`
pub combine-short : (a b : List ℕ) → length (combined a b) ≤ length a + suc (length b)
combine-short a b = go (is_alone a) (is_alone b)
  where
    go : (p q : Bool) → length (cond p b (cond q a (glued a b))) ≤ length a + suc (length b)
    go true q = omega arith
    go false true = omega arith
    go false false = glue-short (is_closed a) a b

-- so is `appended`
pub append-short : (a b : List ℕ) → length (appended a b) ≤ length a + suc (length b)
append-short a b = go (is_alone a) (is_empty b)
  where
    go : (p q : Bool) → length (cond p b (cond q a (glued a b))) ≤ length a + suc (length b)
    go true q = omega arith
    go false true = omega arith
    go false false = glue-short (is_closed a) a b

-- a traversed link takes its text and one more off the weight
pub lead-less : (ls : List Link) (p t : List ℕ) → lead_at ls p ≡ to t → suc (length t) + weight (without_link p ls) ≤ weight ls
lead-less [] p t h = absurd (let z : ◌≡◌ {A = ℕ} 0 1 = cc in omega arith)
lead-less (l ∷ ls) p t h = go (equal l.path p) (λ q. lead-less ls p t q) h
  where
    go : (b : Bool) → (lead_at ls p ≡ to t → suc (length t) + weight (without_link p ls) ≤ weight ls) → cond b (to l.text) (lead_at ls p) ≡ to t → suc (length t) + weight (cond b ls (l ∷ without_link p ls)) ≤ suc (length l.text) + weight ls
    go true r q = let e : l.text ≡ t = cc in omega (arith, ap length e)
    go false r q = omega (arith, r q)

-- and it is one link less
pub link-fewer : (ls : List Link) (p t : List ℕ) → lead_at ls p ≡ to t → length (without_link p ls) + 1 ≡ length ls
link-fewer [] p t h = absurd (let z : ◌≡◌ {A = ℕ} 0 1 = cc in omega arith)
link-fewer (l ∷ ls) p t h = go (equal l.path p) h (link-fewer ls p t)
  where
    go : (b : Bool) → cond b (to l.text) (lead_at ls p) ≡ to t → (lead_at ls p ≡ to t → length (without_link p ls) + 1 ≡ length ls) → length (cond b ls (l ∷ without_link p ls)) + 1 ≡ suc (length ls)
    go true q r = omega arith
    go false q r = omega (arith, r q)

-- a part ends in the path
before-short : (p : List ℕ) → length (before_first p) ≤ length p
before-short [] = omega arith
before-short (c ∷ p) = go (is_separator c) (before-short p)
  where
    go : (b : Bool) → length (before_first p) ≤ length p → length (cond b [] (c ∷ before_first p)) ≤ suc (length p)
    go true h = omega arith
    go false h = omega arith

parts-short : (p : List ℕ) (c pos : ℕ) → length (take (pos - c) (drop c p) ++ before_first (drop (pos - c) (drop c p))) ≤ length p
parts-short p c pos =
    let b = before-short (drop (pos - c) (drop c p)) in
    let x = length-append (take (pos - c) (drop c p)) (before_first (drop (pos - c) (drop c p))) in
    let y = length-take (pos - c) (drop c p) in
    let z = length-drop c p in
    let w = length-drop (pos - c) (drop c p) in
    omega arith

pub part-within : (p : List ℕ) (pos : ℕ) → part_end p pos ≤ length p
part-within p pos = parts-short p (cond {A = ℕ} (is_complete p) 1 0) pos

-- a turn that goes on through a directory makes `left` less
further-less : (ls : List Link) (p : List ℕ) (e n : ℕ) (ls' : List Link) (p' : List ℕ) (e' : ℕ) → e < length p → further ls p e n ≡ on ls' p' e' → left ls' p' e' < left ls p e
further-less ls p e n ls' p' e' h q = go (ltb e n) refl q
  where
    go : (b : Bool) → ltb e n ≡ b → cond b (on ls p n) stop ≡ on ls' p' e' → left ls' p' e' < left ls p e
    go true b q = let i : ls ≡ ls' = cc in let j : p ≡ p' = cc in let k : n ≡ e' = cc in
        omega (arith, ltb-true e n b, ap length j, ap weight i)
    go false b q = absurd (let z : ◌≡◌ {A = ℕ} 0 1 = cc in omega arith)

-- so does one through a link
through-less : (x : Lead) (ls : List Link) (p : List ℕ) (e : ℕ) (ls' : List Link) (p' : List ℕ) (e' : ℕ) → e < length p → lead_at ls (take e p) ≡ x → through x ls p e ≡ on ls' p' e' → left ls' p' e' < left ls p e
through-less none ls p e ls' p' e' h x q = absurd (let z : ◌≡◌ {A = ℕ} 0 1 = cc in omega arith)
through-less (to t) ls p e ls' p' e' h x q =
    let i : without_link (take e p) ls ≡ ls' = cc in
    let j : combined t (drop (e + 1) p) ≡ p' = cc in
    let w = lead-less ls (take e p) t x in
    let s = combine-short t (drop (e + 1) p) in
    let d = length-drop (e + 1) p in
    omega (arith, ap length j, ap weight i, w, s, d)

-- so does every turn that goes on
pub step_less : (dir : List ℕ → Bool) (ls : List Link) (p : List ℕ) (e : ℕ) (ls' : List Link) (p' : List ℕ) (e' : ℕ) → step dir ls p e ≡ on ls' p' e' → left ls' p' e' < left ls p e
unfolding step
step_less dir ls p e ls' p' e' q = go (ltb e (length p)) (dir (take e p)) refl q
  where
    go : (b d : Bool) → ltb e (length p) ≡ b → cond b (cond d (further ls p e (part_end p (e + 1))) (through (lead_at ls (take e p)) ls p e)) done ≡ on ls' p' e' → left ls' p' e' < left ls p e
    go true true b q = further-less ls p e (part_end p (e + 1)) ls' p' e' (ltb-true e (length p) b) q
    go true false b q = through-less (lead_at ls (take e p)) ls p e ls' p' e' (ltb-true e (length p) b) refl q
    go false d b q = absurd (let z : ◌≡◌ {A = ℕ} 0 1 = cc in omega arith)

-- more turns than are left change nothing
pub enough : (dir ends : List ℕ → Bool) (n m : ℕ) (ls : List Link) (p : List ℕ) (e : ℕ) → left ls p e < n → left ls p e < m → walk dir ends n ls p e ≡ walk dir ends m ls p e
unfolding walk
enough dir ends zero m ls p e h k = absurd (omega arith)
enough dir ends (suc n) zero ls p e h k = absurd (omega arith)
enough dir ends (suc n) (suc m) ls p e h k = go (step dir ls p e) refl (λ ls' p' e' i j. enough dir ends n m ls' p' e' i j)
  where
    go : (x : Next) → step dir ls p e ≡ x → ((ls' : List Link) (p' : List ℕ) (e' : ℕ) → left ls' p' e' < n → left ls' p' e' < m → walk dir ends n ls' p' e' ≡ walk dir ends m ls' p' e') → follow (ends p) (walk dir ends n) x ≡ follow (ends p) (walk dir ends m) x
    go stop q r = refl
    go done q r = refl
    go (on ls' p' e') q r = let f = step_less dir ls p e ls' p' e' q in r ls' p' e' (omega arith) (omega arith)

-- the walk by its first turn: it stops, it comes to the path's end, or it is the walk from there
module _ (dir ends : List ℕ → Bool) (ls : List Link) (p : List ℕ) (e : ℕ) where
  pub goes-stop : step dir ls p e ≡ stop → goes dir ends ls p e ≡ false
  unfolding walk
  goes-stop q = rw q

  pub goes-done : step dir ls p e ≡ done → goes dir ends ls p e ≡ ends p
  unfolding walk
  goes-done q = rw q

  pub goes_on_lem : (ls' : List Link) (p' : List ℕ) (e' : ℕ) → step dir ls p e ≡ on ls' p' e' → goes dir ends ls p e ≡ goes dir ends ls' p' e'
  unfolding walk
  goes_on_lem ls' p' e' q =
      let f = step_less dir ls p e ls' p' e' q in
      rw q (enough dir ends (left ls p e) (suc (left ls' p' e')) ls' p' e' f (omega arith))
