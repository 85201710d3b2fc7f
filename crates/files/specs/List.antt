-- `map_file` for a list of questions: question i is file, offset and size i of three tables; its answer is four words
-- of a fourth. Not in document 01. It relies on `file_mapped`, which gives each answer.
use Rattle.types.specs.declared.refusal.Refusal.{Refusal}
use Rattle.std.specs.Prelude.{ℕ, ◌/◌, min, cond, List, [], ◌∷◌, length, ℤ, pos, nat_lt, slice_index_or, Result}
use Rattle.std.proofs.lemmas.List.Edits.{sets}
use Rattle.types.specs.Refusals.{Outcome, value, refused, outcome}
use Rattle.tables.specs.declared.storage.FileStorage.{FileStorage}
use Rattle.tables.specs.Rows.{filled}
use Rattle.rules.specs.Bounds.{clamped_of}
use Rattle.rules.specs.Results.{SignedRequest}
use Rattle.files.specs.Given.{file_mapped}

-- the words of an answer: 0, piece, start and length; or the number of the refusal, and zeros
abbrev pub answer_words : Outcome SignedRequest → List ℕ
answer_words (value r) = 0 ∷ clamped_of r.piece ∷ clamped_of r.start ∷ clamped_of r.length ∷ []
answer_words (refused k) = k ∷ 0 ∷ 0 ∷ 0 ∷ []

-- the words of the answer to question i
abbrev pub answer_at : FileStorage → List ℕ → List ℤ → List ℤ → List ℤ → ℕ → List ℕ
answer_at fs rows files offsets sizes i =
    answer_words (file_mapped fs rows (slice_index_or files i (pos 0))
    (slice_index_or offsets i (pos 0)) (slice_index_or sizes i (pos 0)))

-- what `map_files` answers, and what the table of answers then holds
pub record AnswersListed : Type 0 where
  pub says : Outcome ℕ
  pub answers : List ℕ

abbrev pub listed_says : Result ℕ Refusal → List ℕ → AnswersListed
listed_says r answers = record { says = outcome r; answers = answers }

-- the number of questions, one for each file named, and their answers; 10 where a table is too short for them
abbrev pub files_mapped : FileStorage → List ℕ → List ℤ → List ℤ → List ℤ → List ℕ → AnswersListed
files_mapped fs rows files offsets sizes answers =
    cond (nat_lt (min (length offsets) (min (length sizes) (length answers / 4))) (length files))
    (record { says = refused 10; answers = answers })
    (record {
      says = value (length files);
      answers = sets answers 0 (filled (answer_at fs rows files offsets sizes) 0 (length files));
    })
