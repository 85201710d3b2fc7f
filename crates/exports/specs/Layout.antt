-- What the layout answers of the interface return: a number below 0 is minus document 01's number of the refusal. It
-- relies on the answers of `files`, `blocks` and `mapping`.
use Rattle.std.specs.Prelude.{ℕ, ◌%◌, ◌^◌, List, ℤ, pos, neg_ℤ}
use Rattle.types.specs.Refusals.{Outcome, value, refused}
use Rattle.types.specs.declared.index.FileSlice.{FileSlice}
use Rattle.rules.specs.Results.{SignedRequest}
use Rattle.blocks.specs.Block.{Mapped}
use Rattle.mapping.specs.Table.{Filled}
use Rattle.files.specs.List.{AnswersListed}
use Rattle.exports.specs.declared.questions.FileRequest.{FileRequest}

-- a count, which is below 2^63, since a table holds that number of records
abbrev pub count_returned : Outcome ℕ → ℤ
count_returned (value n) = pos (n % 2 ^ 63)
count_returned (refused k) = neg_ℤ (pos k)

-- a file's number
abbrev pub file_returned : Outcome ℤ → ℤ
file_returned (value z) = z
file_returned (refused k) = neg_ℤ (pos k)

-- the answer, and what the three columns hold after it
pub record BlockReturned : Type 0 where
  pub answer : ℤ
  pub file : List ℕ
  pub offset : List ℕ
  pub size : List ℕ

abbrev pub block_returned : Mapped → BlockReturned
block_returned m = record { answer = count_returned m.says; file = m.file; offset = m.offset; size = m.size }

-- the answer, and what the table of records holds after it
pub record SlicesReturned : Type 0 where
  pub answer : ℤ
  pub table : List FileSlice

abbrev pub slices_returned : Filled → SlicesReturned
slices_returned f = record { answer = count_returned f.says; table = f.table }

-- 0 and the request, or the number of the refusal and zeros
abbrev pub request_returned : Outcome SignedRequest → FileRequest
request_returned (value r) = record { refusal = 0; piece = r.piece; start = r.start; length = r.length }
request_returned (refused k) = record { refusal = k; piece = pos 0; start = pos 0; length = pos 0 }

-- the answer, and what the table of answers holds after it
pub record ListReturned : Type 0 where
  pub answer : ℤ
  pub answers : List ℕ

abbrev pub list_returned : AnswersListed → ListReturned
list_returned l = record { answer = count_returned l.says; answers = l.answers }
