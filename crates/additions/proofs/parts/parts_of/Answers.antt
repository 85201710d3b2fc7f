-- `additions::parts::parts_of` meets its contract.
use mathlib.Core.Path.{◌≡◌}
use mathlib.Core.Bool.{cond}
use lib.Dec.{eqb}
use borrow.Author.Tests.{eq-eqb, ne_eqb}
use Rattle.tables.specs.Span.{text_at}
use Rattle.additions.proofs.Texts.{parts_are}
use Rattle.additions.proofs.parts.parts_of.Goals as goal
use Rattle.additions.proofs.parts.parts_of.Goals.{then-fs-eq0, else-fs-eq0}

pub returns : goal.returns
returns c =
    let a = c.args in
    let called : c.if-fs-eq0.called.now ≡ cond (eqb a.fs.num_files 0) (text_at a.path.now c.set_name_span-set_name.result) (text_at a.text.now a.fs.name) =
    elim c.if-fs-eq0.branch [
      | then-fs-eq0 w ↦ rw (eq-eqb a.fs.num_files 0 w.if-fs-eq0.true, w.called-is) w.text_at-called.ensures
      | else-fs-eq0 w ↦ rw (ne_eqb a.fs.num_files 0 w.if-fs-eq0.false, w.called-is) w.text_at-called-else-fs-eq0.ensures
    ] in
    parts_are a.fs.num_files (text_at a.text.now a.fs.name) a.path.now c.split_leaf.ensures.leaf c.name_span.ensures c.is_below-has_parent.ensures c.set_name_span-set_name.ensures called c.place_of-place.ensures
