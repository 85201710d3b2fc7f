-- A text composed into a lent buffer: its length and the text at the buffer's start, or the refusal and the buffer
-- untouched; 10 also where the buffer is too short. It relies on the joins of `path` and on the rules of
-- Questions.antt.
use Rattle.std.specs.Prelude.{ℕ, Bool, cond, ◌&&◌, List, [], ◌∷◌, eqb, ℤ}
use Rattle.types.specs.Refusals.{refused}
use Rattle.path.specs.Join.{Joined, joined_if, fits}
use Rattle.tables.specs.declared.storage.FileStorage.{FileStorage}
use Rattle.rules.specs.Rules.{first_of}
use Rattle.rules.specs.Bounds.{clamped_of}
use Rattle.rules.specs.Questions.{bad_piece_length, no_file, short, few_entries}

-- refusal k, or for 0 the text
abbrev pub composed_if : ℕ → List ℕ → List ℕ → Joined
composed_if k t buf = cond (eqb k 0) (joined_if (fits t buf) t buf) (record { says = refused k; buf = buf })

-- a text about file z, by its number; `held` says whether the lent tables are long enough
abbrev pub composed_file : FileStorage → ℤ → Bool → (ℕ → List ℕ) → List ℕ → Joined
composed_file fs z held t buf =
    composed_if (first_of (bad_piece_length fs ∷ no_file fs z ∷ short (held && few_entries fs) ∷ []))
    (t (clamped_of z)) buf
