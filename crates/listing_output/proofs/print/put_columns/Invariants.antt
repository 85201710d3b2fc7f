-- Writing the columns from the one at hand on makes what writing all of them makes, and ends where it ends.
use Rattle.std.proofs.Common.{◌≡◌, ◌+◌, length}
use Rattle.std.proofs.lemmas.List.Edits.{sets}
use Rattle.listing_output.specs.private.Lines.{columns_then}
use Rattle.listing_output.proofs.Printed.{columns_from}
use Rattle.listing_output.proofs.print.put_columns.Given as goal

abbrev pub invariant-loop-width : goal.invariant-loop-width
invariant-loop-width l = (l.to + length (columns_from l.last l.columns l.width-index) ≡ l.at + length (columns_then l.last l.columns)) × (sets l.out l.to (columns_from l.last l.columns l.width-index) ≡ sets l.initial.out l.at (columns_then l.last l.columns))
