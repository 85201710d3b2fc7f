-- What an answer says where its value is read by a definition: a root's bytes, the numbers of pieces, files, ranges and
-- requests; and the number of the first refusal. It relies on the numbers of refusals of `types`.
use Rattle.std.specs.Prelude.{ℕ, List, ℤ, Result, Ok, Err}
use Rattle.types.specs.Refusals.{number_of, Outcome, value, refused}
use Rattle.types.specs.declared.refusal.Refusal.{Refusal}
use Rattle.types.specs.declared.index.PieceIndex.{PieceIndex}
use Rattle.types.specs.declared.index.FileIndex.{FileIndex}
use Rattle.types.specs.declared.index.PieceIndexRange.{PieceIndexRange}
use Rattle.types.specs.declared.index.FileIndexRange.{FileIndexRange}
use Rattle.types.specs.declared.index.I32Range.{I32Range}
use Rattle.types.specs.declared.index.PeerRequest.{PeerRequest}
use Rattle.tables.specs.declared.rows.Sha256Hash.{Sha256Hash}

-- the number of the first refusal, 0 where the call goes on
abbrev pub check_number : {A : Type 0} → Result A Refusal → ℕ
check_number (Ok a) = 0
check_number (Err e) = number_of e

-- what an answer says, its value read by f
abbrev pub read_as : {A B : Type 0} → (A → B) → Result A Refusal → Outcome B
read_as f (Ok a) = value (f a)
read_as f (Err e) = refused (number_of e)

abbrev pub root_says : Result Sha256Hash Refusal → Outcome (List ℕ)
root_says r = read_as (λ root. root.bytes) r

-- a range of numbers: its begin, and its end, which is not included
pub record Range : Type 0 where
  pub begin : ℤ
  pub end : ℤ

-- a piece, a start within it, and a length, as signed numbers
pub record SignedRequest : Type 0 where
  pub piece : ℤ
  pub start : ℤ
  pub length : ℤ

abbrev pub piece_says : Result PieceIndex Refusal → Outcome ℤ
piece_says r = read_as (λ p. p.0) r

abbrev pub file_says : Result FileIndex Refusal → Outcome ℤ
file_says r = read_as (λ f. f.0) r

abbrev pub range_numbers : PieceIndexRange → Range
range_numbers r = record { begin = r.begin.0; end = r.end.0 }

abbrev pub piece_range_says : Result PieceIndexRange Refusal → Outcome Range
piece_range_says r = read_as range_numbers r

abbrev pub file_range_says : Result FileIndexRange Refusal → Outcome Range
file_range_says r = read_as (λ files. record { begin = files.begin.0; end = files.end.0 }) r

abbrev pub number_range_says : Result I32Range Refusal → Outcome Range
number_range_says r = read_as (λ numbers. record { begin = numbers.begin; end = numbers.end }) r

abbrev pub request_numbers : PeerRequest → SignedRequest
request_numbers r = record { piece = r.piece.0; start = r.start; length = r.length }

abbrev pub request_says : Result PeerRequest Refusal → Outcome SignedRequest
request_says r = read_as request_numbers r
