-- `renamed::question::file_absolute_path` meets its contract.
use mathlib.Core.Path.{◌∙◌}
use lib.ListN.{length}
use borrow.Author.Rules.{rules}
use Rattle.types.proofs.Refusals.{exit}
use Rattle.tables.specs.Rows.{row_at, is_absolute}
use Rattle.rules.specs.Questions.{rows_are_held}
use Rattle.renames.specs.Renames.{renames_held}
use Rattle.renames.specs.Finding.{rename_found}
use Rattle.renamed.specs.Questions.{renamed_absolute}
use Rattle.renamed.proofs.Deciding.{asked-refused}
use Rattle.renamed.proofs.Questions.{absolute-said}
use Rattle.renamed.proofs.question.file_absolute_path.Goals as goal

pub returns : goal.returns
returns c =
    absolute-said c.args.fs c.args.rows.now c.args.renames c.args.rename_entries.now c.args.rename_text.now c.args.index.0
    _ c.in_ok-own.ensures _ (rw c.new-names.ensures at c.in_ok-find.ensures) _ (search rules)

pub returns-in_err-own : goal.returns-in_err-own
returns-in_err-own c =
    exit c.from_residual.result _ c.from_residual.ensures.1
    ∙ asked-refused c.args.fs c.args.index.0 (rows_are_held c.args.fs c.args.rows.now) (renames_held c.args.renames c.args.rename_entries.now (length c.args.rename_text.now))
    (λ k. is_absolute (row_at c.args.rows.now k))
    (λ k. renamed_absolute (rename_found c.args.renames c.args.rename_entries.now k) (is_absolute (row_at c.args.rows.now k)))
    _ c.in_err-own.ensures
