-- `renames::slot::place_texts` meets its contract.
use Prim.Native.Nat.{◌+◌, ◌-◌, ◌*◌}
use mathlib.Core.Path.{◌∙◌, sym}
use native.Mathlib.Omega.{arith}
use Rattle.std.proofs.lemmas.List.{length-set, get_or-set_other}
use Rattle.renames.proofs.Placed.{bytes_turn, bytes-set, with_turn, with_end}
use Rattle.renames.proofs.slot.place_texts.Goals as goal

pub overflow_add-begin-in-loop-i : goal.overflow_add-begin-in-loop-i
overflow_add-begin-in-loop-i c =
    let l = c.loop-i in
    let i = l.i in
    let same = get_or-set_other l.entries (i * 4 + 3) (i * 4 + 2) l.begin 0 (λ q. omega arith) in
    omega (arith, same, bytes_turn c.args.end i l.entries c.loop-i-test.true, l.invariant.1)

pub loop-i-preserved : goal.loop-i-preserved
loop-i-preserved c =
    let l = c.loop-i in
    let i = l.i in
    let same = get_or-set_other l.entries (i * 4 + 3) (i * 4 + 2) l.begin 0 (λ q. omega arith) in
    let b = bytes-set (c.args.end - (i + 1)) (i + 1) i l.begin l.entries in (
      length-set l.entries (i * 4 + 3) l.begin ∙ l.invariant.0,
      omega (arith, same, b, bytes_turn c.args.end i l.entries c.loop-i-test.true, l.invariant.1),
      rw same (sym (with_turn c.args.end i l.begin l.entries c.loop-i-test.true) ∙ l.invariant.2),
    )

pub returns : goal.returns
returns c = sym (with_end c.args.end c.loop-i.i c.loop-i.begin c.loop-i.entries (omega arith)) ∙ c.loop-i.invariant.2
