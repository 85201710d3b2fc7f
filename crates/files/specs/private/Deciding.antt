-- The decision before `map_file` in two parts, and a request in the code's unsigned numbers. It relies on the rules of
-- `rules`; the public definitions are those of Request.antt and Given.antt.
use Rattle.std.specs.Prelude.{ℕ, ◌&&◌, List, [], ◌∷◌, ℤ, nat_le, Result, Ok, Err}
use Rattle.types.specs.declared.refusal.Refusal.{Refusal}
use Rattle.types.specs.Refusals.{Outcome, value, refused, number_of}
use Rattle.tables.specs.declared.storage.FileStorage.{FileStorage}
use Rattle.rules.specs.Rules.{Rule}
use Rattle.rules.specs.Questions.{bad_piece_length, no_file, many_pieces, bad_range, short, few_entries}
use Rattle.files.specs.declared.file.UnsignedRequest.{UnsignedRequest}
use Rattle.files.specs.declared.asked.AskedFile.{AskedFile}
use Rattle.files.specs.Request.{Request}

-- the number of the file whose pieces a question is about
abbrev pub asked_says : Result AskedFile Refusal → Outcome ℕ
asked_says (Ok f) = value f.k
asked_says (Err e) = refused (number_of e)

abbrev pub request_of : UnsignedRequest → Request
request_of p = record { piece = p.piece; start = p.start; length = p.length }

-- the refusals of a question about bytes of file z, where the table of rows has `room` places
abbrev pub bytes_rules : FileStorage → ℤ → ℤ → ℤ → ℕ → List Rule
bytes_rules fs z offset size room =
    bad_piece_length fs ∷ no_file fs z ∷ many_pieces fs ∷ bad_range offset size ∷
    short (nat_le fs.num_files room && few_entries fs) ∷ []

-- those among them that test the set alone, and those that test the file, the offset and the size
abbrev pub set_rules : FileStorage → ℕ → List Rule
set_rules fs room = bad_piece_length fs ∷ many_pieces fs ∷ short (nat_le fs.num_files room && few_entries fs) ∷ []

abbrev pub position_rules : FileStorage → ℤ → ℤ → ℤ → List Rule
position_rules fs z offset size = no_file fs z ∷ bad_range offset size ∷ []
