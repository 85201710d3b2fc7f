-- Two columns and a line feed are 11 bytes.
use Rattle.std.proofs.Common.{sym, ◌∙◌, arith}
use Rattle.types.specs.Refusals.{number_of}
use Rattle.listing_output.specs.Output.{printed, stopped}
use Rattle.listing_output.proofs.Printed.{put-yes, refusal-length}
use Rattle.listing_output.proofs.print.put_refusal.Goals as goal

pub returns : goal.returns
returns c =
    let a = c.args in
    let e = refusal-length (number_of a.refusal) a.line in
    put-yes (printed (stopped (number_of a.refusal) a.line)) a.out.now 11 c.put_columns.new.out (omega (arith, c.if-out-lt11.false)) (sym e)
    (c.put_columns.ensures ∙ rw (c.from-2.ensures, c.from.ensures))
