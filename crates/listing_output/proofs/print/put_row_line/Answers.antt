-- The columns, the path and the line feed stand one after the other.
use Rattle.std.proofs.Common.{ℕ, ◌+◌, ◌%◌, ◌≡◌, ap, ◌∙◌, List, length}
use Rattle.path.specs.Join.{appended}
use Rattle.tables.specs.declared.rows.Row.{Row}
use Rattle.tables.specs.Rows.{row_at, has}
use Rattle.listing_output.specs.private.Lent.{path_in}
use Rattle.listing_output.proofs.Printed.{pad-shown, put-line-is}
use Rattle.listing_output.proofs.print.put_row_line.Goals as goal

pub returns-clause-out_after : goal.returns-clause-out_after
returns-clause-out_after c =
    let path : appended c.directory_of.result.now c.text_at.result.now ≡ path_in c.args.lent c.args.i =
    rw (c.directory_of.ensures, c.text_at.ensures, c.row_at-row.ensures) in
    let flags = (row_at c.args.lent.rows.now c.args.i).flags in
    let pad : c.from.result ≡ flags % 2 = pad-shown flags c.from.result c.is_pad.result (c.is_pad.ensures ∙ ap (λ (r : Row). has r.flags 1) c.row_at-row.ensures) c.from.ensures in
    c.put.ensures
    ∙ rw (c.put_path-end.ensures.out_after, path, c.put_columns.ensures, pad, c.row_at-row.ensures)
    (put-line-is c.args.out.now (path_in c.args.lent c.args.i) c.args.at c.put_path-end.result c.args.i
    (row_at c.args.lent.rows.now c.args.i).offset (row_at c.args.lent.rows.now c.args.i).size (flags % 2)
    (c.put_path-end.ensures.value ∙ ap (λ (x : List ℕ). c.args.at + 38 + length x) path))
