-- The lines and the totals fit, and stand one after the other.
use Rattle.std.proofs.Common.{◌+◌, sym, ◌∙◌, leb, length, arith, leb-true}
use Rattle.std.proofs.lemmas.Option.{cond_some}
use Rattle.listing_output.specs.Output.{printed, listed}
use Rattle.listing_output.specs.Printing.{shown}
use Rattle.listing_output.specs.private.Lines.{lines_of}
use Rattle.listing_output.proofs.Printed.{put-yes, set-length, set-put}
use Rattle.listing_output.proofs.print.put_set.Goals as goal

pub returns : goal.returns
returns c =
    let a = c.args in
    let lines = c.put_lines-at in
    let end = rw c.new-set.ensures at lines.ensures.value in
    let left = rw c.new-set.ensures at c.room_left.ensures in
    let room = cond_some (leb (length (lines_of a.fs a.rows.now a.dirs.now a.text.now)) (length a.out.now)) _ _ (sym left ∙ c.in_ok-left.ensures.ok_part) in
    let whole = set-length a.fs a.rows.now a.dirs.now a.text.now in
    put-yes (printed (listed (shown a.fs a.rows.now a.dirs.now a.text.now))) a.out.now (lines.result + 46) c.put_columns.new.out
    (omega (arith, whole, room.1, leb-true _ _ room.0))
    (omega (arith, end, whole))
    (c.put_columns.ensures ∙ rw (lines.ensures.out_after, c.new-set.ensures) (set-put a.fs a.rows.now a.dirs.now a.text.now a.out.now lines.result c.count_pieces.result end c.count_pieces.ensures))
