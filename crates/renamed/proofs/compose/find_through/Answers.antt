-- `renamed::compose::find_through` meets its contract.
use Rattle.std.proofs.Common.{◌∙◌}
use Rattle.types.proofs.Refusals.{exit}
use Rattle.names.specs.Paths.{names_held}
use lib.ListN.{length}
use Rattle.renames.specs.Renames.{renames_held}
use Rattle.renames.specs.Finding.{rename_found}
use Rattle.renamed.proofs.Deciding.{asked-refused, asked-then}
use Rattle.renamed.proofs.compose.find_through.Goals as goal

pub returns : goal.returns
returns c =
    asked-then c.args.set.fs c.args.index.0 (names_held c.args.set.fs c.args.set.lent.rows.now c.args.set.lent.dirs.now c.args.set.lent.text.now)
    (renames_held c.args.names.renames c.args.names.entries.now (length c.args.names.text.now)) (rename_found c.args.names.renames c.args.names.entries.now)
    _ c.in_ok-file_of.ensures _ c.find.ensures

pub returns-in_err-file_of : goal.returns-in_err-file_of
returns-in_err-file_of c =
    exit c.from_residual.result _ c.from_residual.ensures.1 ∙ asked-refused c.args.set.fs c.args.index.0
    (names_held c.args.set.fs c.args.set.lent.rows.now c.args.set.lent.dirs.now c.args.set.lent.text.now)
    (renames_held c.args.names.renames c.args.names.entries.now (length c.args.names.text.now)) (λ k. k) (rename_found c.args.names.renames c.args.names.entries.now)
    _ c.in_err-file_of.ensures
