-- Laws of the text that a cleaning needs: what is left, and the sum of the new texts, file by file. They rely on the laws of
-- verdicts and of a new text's parts.
use Prim.Native.Nat.{ℕ, ◌+◌, ◌-◌, ◌≤◌, ◌<◌}
use mathlib.Core.Path.{◌≡◌, refl, sym, ap, ◌∙◌}
use mathlib.Core.Bool.{Bool, true}
use mathlib.Core.Logic.{⊎_elim}
use mathlib.Core.List.{List, [], ◌∷◌}
use native.Mathlib.Omega.{arith}
use lib.Dec.{ltb}
use lib.ListN.{length}
use borrow.Author.Tests.{lt-ltb, le-ltb}
use Rattle.lists.proofs.Orders.{le-or-lt}
use Rattle.tables.specs.Rows.{row_at}
use Rattle.tables.specs.Model.{Store, file_of}
use Rattle.lookup.specs.Lookup.{entry_of}
use Rattle.links.specs.declared.mark.LinkVerdict.{LinkVerdict}
use Rattle.links.specs.declared.mark.LinkVerdict.TheVariants.{Keep, OwnPath, FromDirectory}
use Rattle.links.specs.Judging.{text_by}
use Rattle.texts.proofs.NewTexts.{own-parts, beside-parts}
use Rattle.cleaning.specs.Cleaning.{if_changed, kept_after, new_bytes}
use Rattle.cleaning.specs.private.Writing.{gone_bytes, new_length, left_by, sum_by, needed_by}

-- ---- a room less a number, and what is left of it

-- the rest decides where the first fits
pub ltb-less : (r a b : ℕ) → a ≤ r → ltb (r - a) b ≡ ltb r (a + b)
ltb-less r a b h =
    ⊎_elim (λ p. le-ltb (r - a) b p ∙ sym (le-ltb r (a + b) (omega arith)))
    (λ q. lt-ltb (r - a) b q ∙ sym (lt-ltb r (a + b) (omega arith)))
    (le-or-lt b (r - a))

pub ltb-over : (r a b : ℕ) → r < a → true ≡ ltb r (a + b)
ltb-over r a b h = sym (lt-ltb r (a + b) (omega arith))

-- ---- the definitions

pub kept_by : (vs : List LinkVerdict) (i : ℕ) (s : Store) (u : ℕ) → left_by (gone_bytes s.rows s.fs.text_len) vs i u ≡ kept_after vs i s u
kept_by [] i s u = refl
kept_by (v ∷ vs) i s u = kept_by vs (i + 1) s _

-- a new text by its parts
new-length : (s : Store) (v : LinkVerdict) (i : ℕ) → new_length s.dirs s.text v (row_at s.rows i) ≡ if_changed v (length (text_by v (entry_of (file_of s i))))
new-length s Keep i = refl
new-length s OwnPath i = ap length (sym (own-parts s i))
new-length s FromDirectory i = ap length (sym (beside-parts s i))

pub new_by : (vs : List LinkVerdict) (i : ℕ) (s : Store) → sum_by (λ v k. new_length s.dirs s.text v (row_at s.rows k)) vs i ≡ new_bytes vs i s
new_by [] i s = refl
new_by (v ∷ vs) i s = rw (new-length s v i, new_by vs (i + 1) s)

-- what is left of the text held, and the new texts' lengths, against the text area's
module _ (vs : List LinkVerdict) (s : Store) (kept : ℕ) (e : kept ≡ left_by (gone_bytes s.rows s.fs.text_len) vs 0 s.fs.text_len) where
  kept-is : kept ≡ kept_after vs 0 s s.fs.text_len
  kept-is = e ∙ kept_by vs 0 s s.fs.text_len

  pub lacks-now : length s.text < kept → true ≡ ltb (length s.text) (needed_by vs s)
  lacks-now h = ltb-over (length s.text) _ _ (rw kept-is at h)

  pub lacks-more : kept ≤ length s.text → {r : Bool} → r ≡ ltb (length s.text - kept) (sum_by (λ v k. new_length s.dirs s.text v (row_at s.rows k)) vs 0)
      → r ≡ ltb (length s.text) (needed_by vs s)
  lacks-more h q =
      q
      ∙ ap (ltb (length s.text - kept)) (new_by vs 0 s)
      ∙ ltb-less (length s.text) kept (new_bytes vs 0 s) h
      ∙ ap (λ (x : ℕ). ltb (length s.text) (x + new_bytes vs 0 s)) kept-is
