-- `storage::firsts::fill_many` meets its contract.
use Rattle.std.proofs.Common.{◌+◌, ◌∙◌, arith}
use Rattle.storage.proofs.OneValue.{grown, whole}
use Rattle.storage.proofs.firsts.fill_many.Goals as goal

pub loop-p-preserved : goal.loop-p-preserved
loop-p-preserved c = c.fill_next.ensures ∙ grown c.args.file c.args.run.now _ c.loop-p.p c.loop-p.invariant c.requires

pub returns : goal.returns
returns c = whole c.args.file c.args.run.now _ c.loop-p.p c.loop-p.invariant (omega arith)

pub returns-2 : goal.returns-2
returns-2 c =
    whole c.args.file c.args.run.now _ (c.loop-p.p + 4)
    (c.fill_next.ensures ∙ grown c.args.file c.args.run.now _ c.loop-p.p c.loop-p.invariant c.requires)
    (omega arith)
