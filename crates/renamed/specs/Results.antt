-- What the answer to a file's name says: its span, or document 01's number. It relies on the numbers of refusals of
-- `types` and on the spans of names in Questions.antt.
use Rattle.std.specs.Prelude.{Result}
use Rattle.types.specs.declared.refusal.Refusal.{Refusal}
use Rattle.renamed.specs.declared.result.FileName.{FileName}
use Rattle.renamed.specs.declared.result.FileName.TheVariants as name
use Rattle.types.specs.Refusals.{Outcome}
use Rattle.rules.specs.Results.{read_as}
use Rattle.renamed.specs.Questions.{NameSpan, in_set, in_renames}

-- the text area that the answer names, and the span there
abbrev pub span_of : FileName → NameSpan
span_of (name.InSet s) = in_set s
span_of (name.InRenames s) = in_renames s

abbrev pub name_says : Result FileName Refusal → Outcome NameSpan
name_says r = read_as span_of r
