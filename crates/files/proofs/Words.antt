-- The words of an answer to `map_file`.
--     four-words     there are four of them
use Rattle.std.proofs.Common.{◌≡◌, length, refl}
use Rattle.types.specs.Refusals.{Outcome, value, refused}
use Rattle.rules.specs.Results.{SignedRequest}
use Rattle.files.specs.List.{answer_words}

pub four-words : (o : Outcome SignedRequest) → length (answer_words o) ≡ 4
four-words (value r) = refl
four-words (refused k) = refl
