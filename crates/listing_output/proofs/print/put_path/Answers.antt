-- The rest of the buffer is lent to the join, which has room there.
use Rattle.std.proofs.Common.{◌-◌, length, refl, arith}
use Rattle.lists.proofs.Runs.{sets-lent}
use Rattle.path.specs.Join.{appended}
use Rattle.listing_output.proofs.Printed.{joined-text}
use Rattle.listing_output.proofs.print.put_path.Goals as goal

pub returns-clause-out_after : goal.returns-clause-out_after
returns-clause-out_after c =
    let a = c.args in
    let p = c.requires in
    rw (joined-text a.out.now a.dir.now a.name.now c.join_path.new.buf a.at c.join_path.result p c.join_path.ensures)
    (sets-lent a.out.now a.at (length a.out.now - a.at) (appended a.dir.now a.name.now) (omega (arith, p)) refl)
