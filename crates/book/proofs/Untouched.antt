-- Document 02 (iii), after every list of calls and for every addition, refused ones included: 'an addition leaves as it was every byte
-- of the text area that neither held text before nor holds it after', and the area keeps its length. Relies on what `sound` proves of
-- tables in order (its proofs/Untouched.antt) and on the laws of proofs/Agree.antt.
use mathlib.Core.Path.{◌≡◌, refl, subst, sym}
use mathlib.Core.Bool.{Bool, true, false, cond}
use mathlib.Core.List.{List}
use Prim.Native.Nat.{ℕ}
use lib.Dec.{eqb}
use lib.ListN.{length, get_or}
use Rattle.types.specs.Refusals.{value, refused}
use Rattle.tables.specs.Model.{Store, view_of}
use Rattle.additions.specs.Addition.{Addition}
use Rattle.change.specs.Changes.{Changed, answering}
use Rattle.plan.specs.Write.{store_added}
use Rattle.plan.specs.Outcomes.{add_stored, adding_number}
use Rattle.sound.specs.Sound.{Sound}
use Rattle.sound.specs.Held.{Free}
use Rattle.sound.proofs.Untouched.{filled, text-behind, length-added}
use Rattle.book.specs.Book.{Made}
use Rattle.book.specs.Calls.{Renames, store_after, Leads}
use Rattle.book.specs.Calls as calls
use Rattle.book.proofs.Agree.{agrees}

-- the addition is done, or is refused
module _ (s : Store) (a : Addition) (k : ℕ) (ok : Sound s) (before : Free s k) where
  abbrev new : Store
  new = store_added s (view_of s) a

  abbrev Kept : Changed → Type 0
  Kept c = Sound (store_after s.fs c) → Free (store_after s.fs c) k → get_or c.text k 0 ≡ get_or s.text k 0

  either : (n : ℕ) (b : Bool) → Kept (cond b (answering (value new.fs) new) (answering (refused n) s))
  either n true after free = text-behind s (view_of s) a k (filled s ok k before) (filled new after k free)
  either n false after free = refl

  kept : Kept (add_stored s a)
  kept = either (adding_number s (view_of s) a) (eqb (adding_number s (view_of s) a) 0)

pub text-untouched : {n : ℕ} {made : List Made} {s : Store} {r : Renames} (a : Addition) (c : Changed) → Leads n made s r → c ≡ add_stored s a
    → (k : ℕ) → Free s k → Free (store_after s.fs c) k → get_or c.text k 0 ≡ get_or s.text k 0
text-untouched {n} {made} {s} {r} a c p e k before after =
    subst (Kept s a k (agrees p).sound before) (sym e) (kept s a k (agrees p).sound before) (agrees (calls.addition a c p e)).sound after

pub text-length : (s : Store) (a : Addition) (c : Changed) → c ≡ add_stored s a → length c.text ≡ length s.text
text-length s a c e =
    subst (λ (x : Changed). length x.text ≡ length s.text) (sym e) (either-length (adding_number s (view_of s) a) (eqb (adding_number s (view_of s) a) 0))
  where
    either-length : (n : ℕ) (b : Bool) → length (cond b (answering (value (store_added s (view_of s) a).fs) (store_added s (view_of s) a)) (answering (refused n) s)).text ≡ length s.text
    either-length n true = length-added s (view_of s) a
    either-length n false = refl
