-- The outcome of `all_path_hashes` after the decision on the set's name: the refusals that are left. It relies on what a
-- decision says (proofs/Deciding.antt of `rules`).
use Rattle.std.specs.Prelude.{Ok, Result}
use Prim.Native.Nat.{ℕ, ◌/◌}
use mathlib.Core.Path.{◌≡◌, refl, sym, ap, ◌∙◌}
use mathlib.Core.Bool.{Bool, true, false, not, false≢true, ◌&&◌}
use mathlib.Core.List.{List, [], ◌∷◌}
use lib.Dec.{eqb, leb}
use lib.ListN.{length}
use Rattle.types.specs.Refusals.{outcome}
use Rattle.types.specs.declared.refusal.Refusal.{Refusal}
use Rattle.tables.specs.declared.storage.FileStorage.{FileStorage}
use Rattle.tables.specs.declared.span.Span.{Span}
use Rattle.tables.specs.Span.{text_at}
use Rattle.rules.specs.Rules.{when, first_of}
use Rattle.rules.specs.Bounds.{bad_length}
use Rattle.rules.specs.Questions.{held_answer, dirs_held, text_held, few_entries}
use Rattle.rules.proofs.Deciding.{allowed}
use Rattle.names.specs.Paths.{led, hash_of}
use Rattle.hashes.specs.Hashes.{hashes_of, ascending, HashesListed, listed, all_path_hashes}
use Rattle.hashes.specs.private.Gathering.{hashes_within}
use Rattle.hashes.proofs.Hashing.{all-within}

-- the number of the first refusal of all, of those of the name, and of those behind
abbrev all_number : Bool → Bool → Bool → Bool → ℕ
all_number bad dirs text room = first_of (when bad 1 ∷ when (not (dirs && text)) 10 ∷ when (not room) 10 ∷ [])

abbrev name_number : Bool → Bool → ℕ
name_number bad text = first_of (when bad 1 ∷ when (not text) 10 ∷ [])

abbrev rest_number : Bool → Bool → ℕ
rest_number dirs room = first_of (when (not dirs) 10 ∷ when (not room) 10 ∷ [])

named : (bad dirs text room : Bool) → eqb (name_number bad text) 0 ≡ true → rest_number dirs room ≡ all_number bad dirs text room
named true dirs text room e = absurd (false≢true e)
named false dirs false room e = absurd (false≢true e)
named false true true room e = refl
named false false true room e = refl

module _ (fs : FileStorage) (dirs text out : List ℕ) (d : Result Span Refusal) (p : outcome d ≡ held_answer fs (text_held fs text) fs.name) where
  abbrev room : Bool
  room = leb (length (ascending (hashes_of fs dirs text))) (length out)

  pub listed-value : (s : Span) → d ≡ Ok s → (state : ℕ) → state ≡ hash_of (led (text_at text s)) → (o : HashesListed)
      → o
      ≡ listed
      (first_of
      (when (not (leb fs.num_paths (length dirs / 2))) 10 ∷
      when (not (leb (length (ascending (hashes_within state dirs text fs.num_paths))) (length out))) 10 ∷ []))
      (ascending (hashes_within state dirs text fs.num_paths))
      out
      → o ≡ all_path_hashes fs dirs text out
  listed-value s e state h o q =
      let k = name_number (bad_length fs.piece_length) (text_held fs text && few_entries fs) in
      let v = allowed k fs.name (eqb k 0) s (ap outcome (sym e) ∙ p) in
      let a : hashes_within state dirs text fs.num_paths ≡ hashes_of fs dirs text = rw (h, v.1) (all-within fs dirs text) in
      (rw a at q) ∙ ap (λ (n : ℕ). listed n (ascending (hashes_of fs dirs text)) out) (named (bad_length fs.piece_length) (dirs_held fs dirs) (text_held fs text && few_entries fs) room v.0)
