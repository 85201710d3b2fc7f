-- The piece of a question, as the outcome of asking for it.
use Rattle.std.specs.Prelude.{ℕ, Result, Ok, Err}
use Rattle.types.specs.declared.refusal.Refusal.{Refusal}
use Rattle.types.specs.Refusals.{Outcome, value, refused, number_of}
use Rattle.layout.specs.declared.asked.AskedPiece.{AskedPiece}

-- the number of the piece that a question is about
abbrev pub asked_says : Result AskedPiece Refusal → Outcome ℕ
asked_says (Ok a) = value a.p
asked_says (Err e) = refused (number_of e)
