-- Laws of a link's text from its directory: where it has its place it is written, and else the set stays as it is. They
-- rely on the laws of parts and runs of `lists`.
use Rattle.std.specs.Prelude.{Ok, Err, Result}
use Rattle.types.specs.declared.refusal.Refusal.{Refusal}
use Prim.Native.Nat.{ℕ, ◌≤◌}
use mathlib.Core.Path.{◌≡◌, refl, ap, ◌∙◌}
use mathlib.Core.Bool.{Bool, true, false, cond, ◌&&◌}
use mathlib.Core.List.{List}
use native.Mathlib.Omega.{arith}
use lib.Dec.{leb}
use lib.ListN.{length}
use lib.Seq.{sets}
use borrow.Author.Tests.{leb-true, le-leb}
use Rattle.lists.specs.Lists.{part_of}
use Rattle.lists.proofs.Runs.{part-sets}
use Rattle.types.specs.Refusals.{value, refused}
use Rattle.path.specs.Join.{Joined, joined_if, joined_says, fits}
use Rattle.tables.specs.Model.{Store}
use Rattle.texts.specs.Texts.{relinked, with_beside, text_beside}
use Rattle.texts.specs.private.Parts.{room_beside}

-- a choice where the test is known
pub cond_no : {A : Type 0} (b : Bool) (x y : A) → b ≡ false → y ≡ cond b x y
cond_no b x y e = rw e

-- what a join that had no place says, and one that had
refused-unfit : (fit : Bool) (t scratch buf : List ℕ) {k : ℕ} → ◌≡◌ {A = Joined} (record { says = refused k; buf = buf }) (joined_if fit t scratch) → fit ≡ false
refused-unfit true t scratch buf q = absurd (let p = ap (λ (j : Joined). j.says) q in let z : ◌≡◌ {A = ℕ} 0 1 = cc in omega arith)
refused-unfit false t scratch buf q = refl

value-fit : (fit : Bool) (t scratch buf : List ℕ) (n : ℕ) → ◌≡◌ {A = Joined} (record { says = value n; buf = buf }) (joined_if fit t scratch) → (fit ≡ true) × (n ≡ length t) × (buf ≡ sets scratch 0 t)
value-fit true t scratch buf n q = let p = ap (λ (j : Joined). j.says) q in (refl, cc, ap (λ (j : Joined). j.buf) q)
value-fit false t scratch buf n q = absurd (let p = ap (λ (j : Joined). j.says) q in let z : ◌≡◌ {A = ℕ} 0 1 = cc in omega arith)

-- the text, read from the scratch space
pub staged-part : (t scratch : List ℕ) {n : ℕ} {buf : List ℕ} → leb (length t) (length scratch) ≡ true → n ≡ length t → buf ≡ sets scratch 0 t → part_of buf 0 n ≡ t
staged-part t scratch {n} {buf} e h q =
    ap (λ (x : ℕ). part_of buf 0 x) h
    ∙ ap (λ (x : List ℕ). part_of x 0 (length t)) q
    ∙ part-sets t scratch 0 (omega (arith, leb-true (length t) (length scratch) e))

-- of link i, whose new text is joined in the scratch space
module _ (s : Store) (i : ℕ) (scratch : List ℕ) where
  abbrev new : List ℕ
  new = text_beside s i

  abbrev fit : Bool
  fit = fits new scratch

  abbrev roomy : Bool
  roomy = leb (length new) (room_beside s i)

  -- what the join says, and the scratch space after it
  abbrev Joins : Result ℕ Refusal → List ℕ → Type 0
  Joins x buf = joined_says x buf ≡ joined_if fit new scratch

  pub staged_short : {buf : List ℕ} (e : Refusal) → Joins (Err e) buf → s ≡ with_beside (length scratch) s i
  staged_short {buf} e q = cond_no (fit && roomy) (relinked s i new) s (rw (refused-unfit fit new scratch buf q))

  pub staged_written : {buf : List ℕ} {n : ℕ} → Joins (Ok n) buf → n ≤ room_beside s i → relinked s i (part_of buf 0 n) ≡ with_beside (length scratch) s i
  staged_written {buf} {n} q h =
      let said = value-fit fit new scratch buf n q in
      let room : roomy ≡ true = le-leb (length new) (room_beside s i) (omega (arith, said.1)) in
      ap (relinked s i) (staged-part new scratch said.0 said.1 said.2) ∙ rw (said.0, room)
