-- `renamed::compose::file_path` meets its contract.
use Rattle.renamed.proofs.Paths.{renamed-refused, renamed-text, renamed-own}
use Rattle.renamed.proofs.compose.file_path.Goals as goal

pub returns-in_err-rename : goal.returns-in_err-rename
returns-in_err-rename c =
    renamed-refused c.args.fs c.args.rows.now c.args.dirs.now c.args.text.now c.args.renames c.args.rename_entries.now c.args.rename_text.now
    c.args.index.0 c.args.save_path.now c.args.buf.now
    _ _ c.from_residual.ensures.1 (rw (c.new-set.ensures, c.new-names.ensures) at c.in_err-rename.ensures)

pub returns-in-Some : goal.returns-in-Some
returns-in-Some c =
    renamed-text c.args.fs c.args.rows.now c.args.dirs.now c.args.text.now c.args.renames c.args.rename_entries.now c.args.rename_text.now
    c.args.index.0 c.args.save_path.now c.args.buf.now
    _ (rw (c.new-set.ensures, c.new-names.ensures) at c.in_ok-rename.ensures) _ c.in-Some.is _ _ c.text_at-set_name.ensures c.text_at-name.ensures _ c.put_renamed.ensures

pub returns-in-None : goal.returns-in-None
returns-in-None c =
    renamed-own c.args.fs c.args.rows.now c.args.dirs.now c.args.text.now c.args.renames c.args.rename_entries.now c.args.rename_text.now
    c.args.index.0 c.args.save_path.now c.args.buf.now
    _ (rw (c.new-set.ensures, c.new-names.ensures) at c.in_ok-rename.ensures) c.in-None.is _ c.file_path.ensures
