-- `rope::frame::Path::seek_from` meets its contract: where its loop stops, a byte stands in the frame.
use Prim.Native.Nat.{◌+◌, ◌-◌}
use mathlib.Core.Path.{◌≡◌, sym, ◌∙◌}
use native.Mathlib.Omega.{arith}
use borrow.Author.Tests.{ltb-true}
use Rattle.rope.proofs.Standing.{standing}
use Rattle.rope.proofs.frame.Path.seek_from.Goals as goal

pub returns-then-is_in-clause-in_frame : goal.returns-then-is_in-clause-in_frame
returns-then-is_in-clause-in_frame c =
    let e : c.loop-k.k - 1 + 1 ≡ c.loop-k.k = omega arith in
    rw e (standing c.args.self c.loop-k.k c.loop-k.at _ _ c.text_left-n.ensures.value c.tail_in-t.ensures c.text_left-n.ensures.result_bound
    (ltb-true _ _ (sym c.is_in.ensures ∙ c.if-is_in.true)))
