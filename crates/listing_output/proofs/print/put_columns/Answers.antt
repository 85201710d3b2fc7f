-- `listing_output::print::put_columns` meets its contract.
use Rattle.std.proofs.Common.{ap, ◌∙◌, sym, arith}
use Rattle.std.proofs.lemmas.List.Edits.{sets}
use Rattle.listing_output.proofs.Printed.{length-next, put_next_column, column-none}
use Rattle.listing_output.proofs.print.put_columns.Goals as goal

pub overflow_add-to : goal.overflow_add-to
overflow_add-to c =
    let l = c.loop-width in
    omega (arith, c.requires, l.invariant.0, length-next c.args.last c.args.columns.now l.width-index c.loop-width-test.true)

pub loop-width-preserved : goal.loop-width-preserved
loop-width-preserved c =
    let l = c.loop-width in (
      omega (arith, l.invariant.0, length-next c.args.last c.args.columns.now l.width-index c.loop-width-test.true),
      rw (c.put_column.ensures) (put_next_column c.args.last c.args.columns.now l.width-index l.out l.to c.loop-width-test.true) ∙ l.invariant.1,
    )

pub returns : goal.returns
returns c =
    let l = c.loop-width in
    c.put.ensures ∙ ap (sets l.out l.to) (sym (column-none c.args.last c.args.columns.now l.width-index (omega (arith, c.loop-width-test.false)))) ∙ l.invariant.1
