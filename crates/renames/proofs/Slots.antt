-- Laws of a rename's slot: what it has already, and the bytes before and behind it. They rely on the definitions of
-- specs/Finding.antt and specs/private/Slots.antt.
use Prim.Native.Nat.{ℕ, zero, suc, ◌+◌, ◌-◌, ◌*◌, ◌≤◌}
use mathlib.Core.Path.{◌≡◌, refl, ap, ◌∙◌}
use mathlib.Core.Bool.{Bool, true, false, cond, ◌&&◌}
use mathlib.Core.List.{List}
use native.Mathlib.Omega.{arith}
use borrow.Author.Tests.{ltb-true}
use lib.Dec.{eqb, ltb}
use lib.ListN.{get_or}
use Rattle.renames.specs.Finding.{entry_is_named}
use Rattle.renames.specs.private.Slots.{bytes_from, same_at, old_at}

-- the bytes of some entries and of those behind them
pub bytes-split : (k m i : ℕ) (e : List ℕ) → bytes_from (k + m) i e ≡ bytes_from k i e + bytes_from m (i + k) e
unfolding bytes_from
bytes-split zero m i e = let p : 0 + m ≡ m = omega arith in let q : i + 0 ≡ i = omega arith in rw (p, q) (omega arith)
bytes-split (suc k) m i e =
    let p : suc k + m ≡ suc (k + m) = omega arith in
    let q : i + suc k ≡ i + 1 + k = omega arith in
    rw (p, q) (omega (arith, bytes-split k m (i + 1) e))

-- what the rename has already is one entry of the n, or nothing
module _ (n k i : ℕ) (e : List ℕ) (h : i ≤ n) where
  at_most : (b c : Bool) → ltb i n ≡ b → i + cond (b && c) 1 0 ≤ n
  at_most true true q = let p = ltb-true i n q in omega arith
  at_most true false q = omega arith
  at_most false c q = omega arith

  pub same-le : i + same_at n k i e ≤ n
  same-le = at_most (ltb i n) (eqb (get_or e (i * 4) 0) k) refl

one-bytes : (i : ℕ) (e : List ℕ) → bytes_from 1 i e ≡ get_or e (i * 4 + 2) 0
unfolding bytes_from
one-bytes i e = omega arith

no_bytes : (i : ℕ) (e : List ℕ) → bytes_from 0 i e ≡ 0
unfolding bytes_from
no_bytes i e = refl

same_bytes : (b : Bool) (i : ℕ) (e : List ℕ) → bytes_from (cond b 1 0) i e ≡ cond b (get_or e (i * 4 + 2) 0) 0
same_bytes true i e = one-bytes i e
same_bytes false i e = no_bytes i e

pub same_old : (n k i : ℕ) (e : List ℕ) → bytes_from (same_at n k i e) i e ≡ old_at n k i e
same_old n k i e = same_bytes (entry_is_named n k i e) i e

same-small : (b : Bool) → cond b 1 0 ≤ 1
same-small true = omega arith
same-small false = omega arith

pub same-one : (n k i : ℕ) (e : List ℕ) → same_at n k i e ≤ 1
same-one n k i e = same-small (entry_is_named n k i e)

-- the position of the text, what is there already, and the bytes after it
pub bytes-slot : (n k i : ℕ) (e : List ℕ) → i ≤ n
    → bytes_from n 0 e ≡ bytes_from i 0 e + old_at n k i e + bytes_from (n - (i + same_at n k i e)) (i + same_at n k i e) e
bytes-slot n k i e h =
    let s = same_at n k i e in
    let p : n ≡ i + s + (n - (i + s)) = omega (arith, same-le n k i e h) in
    let a = bytes-split (i + s) (n - (i + s)) 0 e in
    let b = bytes-split i s 0 e in
    let z : 0 + (i + s) ≡ i + s = omega arith in
    let y : 0 + i ≡ i = omega arith in
    ap (λ (m : ℕ). bytes_from m 0 e) p ∙ rw z at a ∙ (rw (rw y at b, same_old n k i e))

-- the bytes of the first entries
pub bytes_first : (i n : ℕ) (e : List ℕ) → i ≤ n → bytes_from i 0 e ≤ bytes_from n 0 e
bytes_first i n e h =
    let p : n ≡ i + (n - i) = omega arith in
    let a : bytes_from n 0 e ≡ bytes_from (i + (n - i)) 0 e = ap (λ (m : ℕ). bytes_from m 0 e) p in
    omega (arith, bytes-split i (n - i) 0 e)
