-- Deciding over the decision of another answer: a question that needs more tables than another has the same refusals before its
-- last one. They rely on what is known once no rule stopped an answer (proofs/Deciding.antt of `renames`).
use Prim.Native.Nat.{ℕ}
use mathlib.Core.Path.{◌≡◌, refl, ◌∙◌}
use mathlib.Core.Bool.{Bool, true, false, not, ◌&&◌}
use mathlib.Core.List.{[], ◌∷◌}
use native.Mathlib.Omega.{arith}
use lib.IntN.{ℤ}
use Rattle.types.specs.Refusals.{Outcome, value, refused}
use Rattle.tables.specs.declared.storage.FileStorage.{FileStorage}
use Rattle.rules.specs.Rules.{when, first_of, outcome_of}
use Rattle.rules.specs.Bounds.{bad_length, clamped_of, is_below}
use Rattle.rules.specs.Questions.{few_entries, file_answer, short}
use Rattle.renames.proofs.Deciding.{asked-good, asked-there, asked-held, asked-few}

stops : {A B : Type 0} (bad below held more few : Bool) (m : ℕ) (x : A) (y : B)
    → refused m ≡ outcome_of (first_of (when bad 1 ∷ when (not below) 11 ∷ when (not (held && few)) 10 ∷ [])) x
    → refused m ≡ outcome_of (first_of (when bad 1 ∷ when (not below) 11 ∷ when (not ((held && more) && few)) 10 ∷ [])) y
stops true below held more few m x y e = cc
stops false false held more few m x y e = cc
stops false true false more few m x y e = cc
stops false true true true false m x y e = cc
stops false true true false false m x y e = cc
stops false true true more true m x y e = absurd (let z : ◌≡◌ {A = ℕ} 0 1 = cc in omega arith)

-- a file of the set, of which the tables asked for first are held: the others decide; any refusal before stays
module _ {A B : Type 0} (fs : FileStorage) (z : ℤ) (held more : Bool) (f : ℕ → A) (g : ℕ → B) where
  pub asked-refused : (m : ℕ) → refused m ≡ file_answer fs z held f → refused m ≡ file_answer fs z (held && more) g
  asked-refused m = stops (bad_length fs.piece_length) (is_below fs.num_files z) held more (few_entries fs) m (f (clamped_of z)) (g (clamped_of z))

  module _ (v : A) (h : value v ≡ file_answer fs z held f) where
    pub asked-disorder : more ≡ false → refused 10 ≡ file_answer fs z (held && more) g
    asked-disorder q = rw (asked-good fs z held f v h, asked-there fs z held f v h, asked-held fs z held f v h, asked-few fs z held f v h, q)

    pub asked-value : more ≡ true → (w : B) → w ≡ g (clamped_of z) → value w ≡ file_answer fs z (held && more) g
    asked-value q w r = rw (asked-good fs z held f v h, asked-there fs z held f v h, asked-held fs z held f v h, asked-few fs z held f v h, q, r)

-- the number of a file, and then an answer about it that may lack room
module _ {B : Type 0} (fs : FileStorage) (z : ℤ) (held more : Bool) (g : ℕ → B) (k : ℕ) (h : value k ≡ file_answer fs z held (λ k. k)) where
  then_if : (b : Bool) → more ≡ b → outcome_of (first_of (short b ∷ [])) (g (clamped_of z)) ≡ file_answer fs z (held && more) g
  then_if true q = asked-value fs z held more (λ k. k) g k h q (g (clamped_of z)) refl
  then_if false q = asked-disorder fs z held more (λ k. k) g k h q

  pub asked-then : (o : Outcome B) → o ≡ outcome_of (first_of (short more ∷ [])) (g (clamped_of z)) → o ≡ file_answer fs z (held && more) g
  asked-then o e = e ∙ then_if more refl
