-- `lookup::set::own_is` meets its contract: a path that does not end with the file's name is not the file's.
use Rattle.tables.specs.Rows.{row_at}
use Rattle.lookup.proofs.Rows.{not_own}
use Rattle.lookup.proofs.set.own_is.Goals as goal

pub returns-else-ends_with_name : goal.returns-else-ends_with_name
returns-else-ends_with_name c =
    not_own c.args.dirs.now c.args.text.now c.args.p.now (row_at c.args.rows.now c.args.i) c.ends_with_name.result c.ends_with_name.ensures c.if-ends_with_name.false
