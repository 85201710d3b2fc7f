-- `hashes::hashes::Listed::has_room` meets its contract. The loop's invariant: the hashes below `from` are counted, and `left` places are left.
use Prim.Native.Nat.{◌+◌}
use mathlib.Core.Path.{refl, ◌∙◌}
use native.Mathlib.Omega.{arith}
use Rattle.hashes.specs.private.Due.{due}
use Rattle.hashes.proofs.Filling.{first-passed, passed_next, counted-over}
use Rattle.hashes.proofs.hashes.Listed.has_room.Goals as goal

pub returns-then-room-first : goal.returns-then-room-first
returns-then-room-first c =
    let a = c.args in
    counted-over (due a.self) a.first.end a.first.count (first-passed (due a.self) a.first a.batch.now c.requires.1) a.room c.if-room-first.true

pub loop-from-init : goal.loop-from-init
loop-from-init c =
    let a = c.args in
    (refl, a.first.count, omega (arith, c.if-room-first.false), first-passed (due a.self) a.first a.batch.now c.requires.1)

pub returns-then-left-next : goal.returns-then-left-next
returns-then-left-next c =
    let i = c.loop-from.invariant in
    let g = c.gather-next in
    counted-over (due c.args.self) g.result.end (i.1 + g.result.count) (passed_next (due c.args.self) c.loop-from.from i.1 i.3 g.result g.new.batch g.ensures) c.args.room
    (omega (arith, i.2, c.if-left-next.true))

pub loop-from-preserved : goal.loop-from-preserved
loop-from-preserved c =
    let i = c.loop-from.invariant in
    let g = c.gather-next in (
      g.auto.batch ∙ i.0,
      i.1 + g.result.count,
      omega (arith, i.2, c.if-left-next.false),
      passed_next (due c.args.self) c.loop-from.from i.1 i.3 g.result g.new.batch g.ensures,
    )
