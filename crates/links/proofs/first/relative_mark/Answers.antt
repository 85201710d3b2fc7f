-- `links::first::relative_mark` meets its contract: the text from the link's directory is the whole path of one frame.
use mathlib.Core.Path.{◌≡◌, sym, ap, ◌∙◌}
use native.Mathlib.Omega.{arith}
use lib.ListN.{replicate}
use Rattle.tables.specs.Rows.{row_at, is_inside}
use Rattle.lookup.specs.Lookup.{entries_of, directories_of}
use Rattle.lookup.specs.private.Rows.{entry_at}
use Rattle.links.specs.Judging.{walk_decides}
use Rattle.rope.specs.Rope.{frame_width}
use Rattle.links.specs.private.Walking.{set_of}
use Rattle.links.proofs.Marking.{near_in, one_long, one_part}
use Rattle.links.proofs.first.relative_mark.Goals as goal

pub new-front-requires : goal.new-front-requires
new-front-requires c =
    rw c.new-path.ensures (one_long (set_of c.args.the_set) c.args.i c.lead_length-e.result (replicate frame_width 0) c.put_frame.new.frames
    (omega arith) (rw c.from.ensures at c.put_frame.ensures) (rw c.from.ensures at c.lead_length-e.ensures))

pub returns-then-is_inside : goal.returns-then-is_inside
returns-then-is_inside c =
    let inside : is_inside (row_at c.args.the_set.lent.rows.now c.args.i) ≡ c.is_inside.result = ap is_inside (sym c.row_at-row.ensures)
    ∙ sym c.is_inside.ensures in
    c.settled_mark.ensures
    ∙ rw (c.new-front.ensures.set, c.new-front.ensures.path, c.new-front.ensures.end, c.new-path.ensures)
    (near_in (entries_of (set_of c.args.the_set)) (directories_of (set_of c.args.the_set)) (entry_at (set_of c.args.the_set) c.args.i).text
    walk_decides (set_of c.args.the_set) (row_at c.args.the_set.lent.rows.now c.args.i) _
    (inside ∙ c.if-is_inside.true)
    (one_part (set_of c.args.the_set) c.args.i c.lead_length-e.result (replicate frame_width 0) c.put_frame.new.frames (omega arith)
    (rw c.from.ensures at c.put_frame.ensures) (rw c.from.ensures at c.lead_length-e.ensures)))
