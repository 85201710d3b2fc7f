-- `hashes::hashes::Listed::first_batch` meets its contract: where there is a place for each beginning, there is one for each hash.
use mathlib.Core.Path.{sym}
use lib.ListN.{length}
use borrow.Author.Tests.{leb-true}
use Rattle.hashes.specs.Hashes.{ascending}
use Rattle.hashes.specs.private.Due.{due}
use Rattle.hashes.proofs.Filling.{repeats-enough}
use Rattle.hashes.proofs.hashes.Listed.first_batch.Goals as goal

pub returns-then-repeats_fit : goal.returns-then-repeats_fit
returns-then-repeats_fit c =
    let a = c.args in
    let e = repeats-enough a.self a.room c.repeats_fit.result c.repeats_fit.ensures c.if-repeats_fit.true in
    (leb-true (length (ascending (due a.self))) a.room (sym e), c.gather-first.ensures)
