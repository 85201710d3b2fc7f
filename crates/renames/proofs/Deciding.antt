-- What is known once no rule stopped an answer. They rely on the rules in order of `rules` and on what an outcome says (its
-- proofs/Deciding.antt).
use Prim.Native.Nat.{ℕ}
use mathlib.Core.Path.{◌≡◌, refl, sym}
use mathlib.Core.Bool.{Bool, true, false, not, ◌&&◌}
use mathlib.Core.List.{List, [], ◌∷◌}
use lib.Dec.{eqb}
use lib.IntN.{ℤ}
use borrow.Author.Tests.{eqb-true, not-false}
use Rattle.types.specs.Refusals.{value}
use Rattle.tables.specs.declared.storage.FileStorage.{FileStorage}
use Rattle.rules.specs.Rules.{Rule, first_of, outcome_of}
use Rattle.rules.specs.Bounds.{bad_length, clamped_of, is_below}
use Rattle.rules.proofs.Rules.{Numbered, Passed, passed, both_true}
use Rattle.rules.specs.Questions.{bad_piece_length, no_file, short, few_entries, file_answer}
use Rattle.rules.proofs.Deciding.{allowed}

-- an answer that is a value: no test of a rule holds, and it is the one that is due
pub passes : {A : Type 0} (rs : List Rule) → Numbered rs → (x a : A) → value x ≡ outcome_of (first_of rs) a → Passed rs × (x ≡ a)
passes rs h x a e =
    let t = allowed (first_of rs) a (eqb (first_of rs) 0) x e in
    (passed rs h (sym (eqb-true (first_of rs) 0 t.0)), t.1)

-- the same of a question about a file
module _ {A : Type 0} (fs : FileStorage) (z : ℤ) (held : Bool) (f : ℕ → A) (v : A) (h : value v ≡ file_answer fs z held f) where
  abbrev rules : List Rule
  rules = bad_piece_length fs ∷ no_file fs z ∷ short (held && few_entries fs) ∷ []

  abbrev known : Passed rules × (v ≡ f (clamped_of z))
  known = passes rules refl v (f (clamped_of z)) h

  pub asked-good : bad_length fs.piece_length ≡ false
  asked-good = known.0.0

  pub asked-there : not (is_below fs.num_files z) ≡ false
  asked-there = known.0.1.0

  abbrev both : (held ≡ true) × (few_entries fs ≡ true)
  both = both_true held (few_entries fs) (not-false (held && few_entries fs) known.0.1.1.0)

  pub asked-held : held ≡ true
  asked-held = both.0

  pub asked-few : few_entries fs ≡ true
  asked-few = both.1

  pub asked-own : v ≡ f (clamped_of z)
  asked-own = known.1
