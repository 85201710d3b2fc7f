-- `storage::firsts::fill_begin` meets its contract.
use Rattle.std.proofs.Common.{◌≡◌, ◌∙◌, min, length, replicate, arith}
use lib.Seq.{sets}
use Rattle.storage.proofs.OneValue.{grown}
use Rattle.storage.proofs.firsts.fill_begin.Goals as goal

pub returns : goal.returns
returns c =
    let l = c.args.run.now in
    let h = c.requires in
    let none : l ≡ sets l 0 (replicate (min 0 (length l)) c.args.file) = (let z : min 0 (length l) ≡ 0 = omega arith in rw z) in
    let first = c.fill_next.ensures ∙ grown c.args.file l l 0 none h in
    let second = c.fill_next-2.ensures ∙ grown c.args.file l _ 4 first h in
    let third = c.fill_next-3.ensures ∙ grown c.args.file l _ 8 second h in
    c.fill_next-4.ensures ∙ grown c.args.file l _ 12 third h
