-- `texts::put::write_own` meets its contract: the link's row and its directory's span are those that it reads.
use Rattle.lookup.specs.Lookup.{lent}
use Rattle.texts.proofs.Placed.{own_short, own_written}
use Rattle.texts.proofs.put.write_own.Goals as goal

pub returns-in_default : goal.returns-in_default
returns-in_default c =
    let a = c.args in
    let row = c.row_at-row.ensures in
    let branch = rw row at c.directory_span-branch.ensures in
    own_short (lent a.fs a.rows.now a.dirs.now a.text.now) a.i (rw branch at c.if-not-is_within.ensures) (rw row at c.if-not-is_within-2.ensures) c.in_default.field-0 (rw (branch, row) at c.in_default.ensures)

pub returns : goal.returns
returns c =
    let a = c.args in
    let row = c.row_at-row.ensures in
    let branch = rw row at c.directory_span-branch.ensures in
    own_written (lent a.fs a.rows.now a.dirs.now a.text.now) a.i (rw branch at c.if-not-is_within.ensures) (rw row at c.if-not-is_within-2.ensures) c.in-Ok.len (rw (branch, row) at c.in-Ok.ensures) c.put_link.ensures
