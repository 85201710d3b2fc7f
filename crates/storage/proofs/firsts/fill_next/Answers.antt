-- `storage::firsts::fill_next` meets its contract.
use Rattle.std.proofs.Common.{ℕ, ◌+◌, ◌-◌, length, take, drop, ap, ◌∙◌, arith, replicate}
use lib.ListN.{length-take, length-drop}
use lib.Seq.{sets}
use Rattle.lists.proofs.Runs.{sets-filled}
use Rattle.storage.proofs.firsts.fill_next.Goals as goal

pub returns : goal.returns
returns c =
    let l = c.args.run.now in
    let at = c.min-at.result in
    let n = at + 4 - at in
    rw (c.fill.ensures.after (λ y e. e))
    (sets-filled l at 4 n (length (take n (drop at l))) c.args.file (omega arith) (omega arith) (omega (arith, length-take {A = ℕ}, length-drop {A = ℕ})))
    ∙ ap (λ (k : ℕ). sets l k (replicate 4 c.args.file)) c.min-at.ensures
