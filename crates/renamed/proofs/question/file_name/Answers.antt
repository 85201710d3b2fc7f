-- `renamed::question::file_name` meets its contract.
use mathlib.Core.Path.{◌∙◌}
use Rattle.renamed.proofs.Questions.{exit_name, name-refused, name-disorder}
use Rattle.renamed.proofs.question.file_name.Goals as goal

pub returns-in_err-own : goal.returns-in_err-own
returns-in_err-own c =
    exit_name c.from_residual.result _ c.from_residual.ensures.1 ∙ name-refused c.args.fs c.args.rows.now c.args.text.now c.args.renames c.args.rename_entries.now c.args.rename_text.now c.args.index.0
    _ c.in_err-own.ensures

pub returns-in_err-rename : goal.returns-in_err-rename
returns-in_err-rename c =
    exit_name c.from_residual-in_err-rename.result _ c.from_residual-in_err-rename.ensures.1
    ∙ name-disorder c.args.fs c.args.rows.now c.args.text.now c.args.renames c.args.rename_entries.now c.args.rename_text.now c.args.index.0
    _ c.in_ok-own.ensures _ (rw c.new-names.ensures at c.in_err-rename.ensures)
