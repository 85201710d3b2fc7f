-- `hashes::hashes::compact` meets its contract: what is dropped are repeats, or what is at or above the range's end from now on.
use mathlib.Core.Path.{refl}
use mathlib.Core.List.{append-nil}
use native.Mathlib.Omega.{arith}
use Rattle.hashes.proofs.Collecting.{kept-all, kept-least}
use Rattle.hashes.proofs.hashes.compact.Goals as goal

pub returns-then-count-half : goal.returns-then-count-half
returns-then-count-half c =
    let a = c.args in
    let s = c.sort_distinct-count in
    let k = s.auto.run in
    (omega (arith, c.requires.1), (refl, λ gs w. rw (append-nil gs) (kept-all gs a.full a.batch.now w c.requires.0 s.new.run s.result s.ensures)))

pub returns : goal.returns
returns c =
    let a = c.args in
    let s = c.sort_distinct-count in
    let k = s.auto.run in (
      omega (arith, c.requires.1),
      (refl, λ gs w. rw (append-nil gs, c.from-end.ensures) (kept-least gs a.full a.batch.now w c.requires.0 s.new.run s.result s.ensures _ (omega (arith, c.requires.1)) (omega (arith, c.if-count-half.false)))),
    )
