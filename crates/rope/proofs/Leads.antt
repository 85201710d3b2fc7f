-- Laws of the texts by which links lead: the text of a lead is that of its number, and where the bytes of a join stand.
-- They rely on the kit's laws of lists, and on the parts of a join of `path`.
use Prim.Native.Nat.{ℕ, ◌+◌, ◌-◌, ◌*◌, ◌/◌, ◌%◌, ◌<◌, ◌≤◌}
use mathlib.Core.Path.{◌≡◌, sym, ap, ◌∙◌}
use mathlib.Core.Bool.{Bool, true, false, cond}
use mathlib.Core.List.{List, ◌++◌}
use native.Mathlib.Omega.{arith}
use lib.ListN.{length, get_or, get_or-append}
use lib.Seq.{get_or-append_right}
use Rattle.path.specs.Join.{appended}
use Rattle.path.proofs.Joins.{kept, between, parts}
use Rattle.tables.specs.declared.lent.Lent.{Lent}
use Rattle.rope.specs.Rope.{lead_read, leads, texts_of, led_text, text_of}

-- the text of the lead that a number is read as
pub text_read : (l : Lent) (v n : ℕ) → n ≡ v → text_of l (lead_read n) ≡ texts_of l v
unfolding leads
text_read l v n e = ap (λ (n : ℕ). text_of l (lead_read n)) e

-- and a number that it has
pub text_numbered : (rows dirs text : List ℕ) (i v : ℕ) (b : Bool) → v ≡ i * 4 + cond b 2 0 → led_text rows dirs text (record { file = i; from_directory = b }) ≡ leads rows dirs text v
unfolding leads
text_numbered rows dirs text i v true e =
    let a : v / 4 ≡ i = omega arith in
    let m : v % 4 ≡ 2 = omega arith in
    rw (a, m)
text_numbered rows dirs text i v false e =
    let a : v / 4 ≡ i = omega arith in
    let m : v % 4 ≡ 0 = omega arith in
    rw (a, m)

-- a byte of a join stands in what is kept of the branch, in what stands between, or in the leaf
module _ (d n a b : List ℕ) (j : ℕ) (e : a ≡ kept d n) (f : b ≡ between d n) where
  pub join_kept : j < length a → get_or a j 0 ≡ get_or (appended d n) j 0
  join_kept h = rw (← parts d n, ← e, ← f) (sym (get_or-append a (b ++ n) 0 j h))

  pub join_between : length a ≤ j → j - length a < length b → get_or b (j - length a) 0 ≡ get_or (appended d n) j 0
  join_between h l = rw (← parts d n, ← e, ← f) (sym (get_or-append_right a (b ++ n) j 0 h ∙ get_or-append b n 0 (j - length a) l))

  pub join_leaf : (r : ℕ) → length a ≤ j → length b ≤ j - length a → r ≡ get_or n (j - length a - length b) 0 → r ≡ get_or (appended d n) j 0
  join_leaf r h l q = q ∙ rw (← parts d n, ← e, ← f) (sym (get_or-append_right a (b ++ n) j 0 h ∙ get_or-append_right b n (j - length a) 0 l))

pub ruleset joined_bytes = (join_kept, join_between, join_leaf)
