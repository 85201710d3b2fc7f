-- `hashes::hashes::keep` meets its contract: a hash in the range stands behind the others, and a full batch is made smaller.
use mathlib.Core.Path.{refl}
use mathlib.Core.List.{[], ◌∷◌, ◌++◌, append-nil}
use native.Mathlib.Omega.{arith}
use lib.ListN.{length-set}
use Rattle.hashes.proofs.Collecting.{put-in}
use Rattle.hashes.proofs.hashes.keep.Goals as goal

pub returns-then-count-batch : goal.returns-then-count-batch
returns-then-count-batch c =
    let a = c.args in
    let e = c.compact.ensures in
    let x = c.from-x.ensures in (
      e.0,
      (
        e.1.0,
        λ gs w. rw append-nil at (e.1.1 (gs ++ (a.h ∷ [])) (put-in gs a.collected a.batch.now w a.h c.requires.0 (omega (arith, c.if-x-collected.false)) (omega (arith, c.if-collected-x.false)))),
      ),
    )

pub returns : goal.returns
returns c =
    let a = c.args in
    let x = c.from-x.ensures in (
      omega (arith, c.requires.0, c.if-count-batch.false, length-set a.batch.now a.collected.count a.h),
      (refl, λ gs w. put-in gs a.collected a.batch.now w a.h c.requires.0 (omega (arith, c.if-x-collected.false)) (omega (arith, c.if-collected-x.false))),
    )
