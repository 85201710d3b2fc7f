-- `imports::merge::merge` meets its contract. The loop's invariant: the files before k have got what they get, the kept renames that are
-- left are as they were, and what is left to write gives the whole.
use Rattle.imports.proofs.Merging.{going_before, going-given, going-own, going-turn, going_end}
use Rattle.imports.proofs.merge.merge.Goals as goal

pub put_file-p-requires : goal.put_file-p-requires
put_file-p-requires c =
    let b = going_before _ _ _ _ _ _ _ _ _ _ _ _ _ _ c.loop-k.invariant in
    rw c.loop-k.invariant.words (
      b.0,
      b.1,
      going-given _ _ _ _ _ _ _ _ _ _ _ _ _ _ c.loop-k.invariant c.loop-k-test.true,
      going-own _ _ _ _ _ _ _ _ _ _ _ _ _ _ c.loop-k.invariant c.loop-k-test.true,
    )

pub loop-k-preserved : goal.loop-k-preserved
loop-k-preserved c =
    going-turn _ _ _ _ _ _ _ _ _ _ _ _ _ _ c.loop-k.invariant c.loop-k-test.true
    _ _ _ (rw c.loop-k.invariant.words at c.put_file-p.ensures.value) (rw c.loop-k.invariant.words at c.put_file-p.ensures.entries_after)
    (rw c.loop-k.invariant.words at c.put_file-p.ensures.text_after)

pub returns : goal.returns
returns c =
    let whole = going_end _ _ _ _ _ _ _ _ _ _ _ _ _ _ c.loop-k.invariant c.loop-k-test.false in
    record { entries_after = whole.0; text_after = whole.1 }
