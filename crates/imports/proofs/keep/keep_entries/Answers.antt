-- `imports::keep::keep_entries` meets its contract.
use Prim.Native.Nat.{◌/◌}
use mathlib.Core.Path.{sym, ◌∙◌}
use lib.ListN.{length}
use Rattle.imports.specs.private.Merging.{is_noted}
use Rattle.imports.proofs.Keeping.{moved-skip, moved-keep}
use Rattle.imports.proofs.keep.keep_entries.Goals as goal
use Rattle.imports.proofs.keep.keep_entries.Goals.{then-not-is_noted, else-not-is_noted}

pub loop-i-preserved : goal.loop-i-preserved
loop-i-preserved c =
    let a = c.args in
    let l = c.loop-i in
    let f = is_noted a.notes.now in
    elim c.if-not-is_noted.branch [
      | then-not-is_noted w ↦
          rw (w.entries-is, w.to-is, w.begin-is, w.copy_after.ensures)
          (moved-keep f (length a.entries.now / 4) a.at a.entries.now l.entries l.i l.to l.begin l.invariant c.loop-i-test.true (sym c.is_noted.ensures ∙ w.if-not-is_noted.true))
      | else-not-is_noted w ↦
          rw (w.entries-is, w.to-is, w.begin-is)
          (moved-skip f (length a.entries.now / 4) a.at a.entries.now l.entries l.i l.to l.begin l.invariant c.loop-i-test.true (sym c.is_noted.ensures ∙ w.if-not-is_noted.false))
    ]
