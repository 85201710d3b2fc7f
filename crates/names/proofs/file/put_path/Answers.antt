-- `names::file::put_path` meets its contract.
use Rattle.path.specs.Join.{appended}
use Rattle.names.specs.private.Sets.{path_of}
use Rattle.names.proofs.Composed.{retold}
use Rattle.names.proofs.Paths.{path-from}
use Rattle.names.proofs.file.put_path.Goals as goal

pub returns : goal.returns
returns c =
    let a = c.args in
    retold _ (appended (appended (appended c.save_of-save.result.now c.text_at-lead.result.now) c.directory_of-directory.result.now) c.text_at-name.result.now) (path_of a.set a.save_path.now a.row) a.buf.now c.compose_path.ensures
    (path-from a.set.fs a.set.lent.dirs.now a.set.lent.text.now a.row a.save_path.now c.save_of-save.ensures c.text_at-lead.ensures c.set_span.ensures c.directory_of-directory.ensures c.text_at-name.ensures)
