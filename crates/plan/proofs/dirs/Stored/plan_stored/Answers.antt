-- `plan::dirs::Stored::plan_stored` meets its contract.
use Rattle.std.proofs.Common.{◌∙◌, arith}
use Rattle.plan.proofs.Directories.{found, missing, counted}
use Rattle.plan.proofs.dirs.Stored.plan_stored.Goals as goal

pub returns-in-Some : goal.returns-in-Some
returns-in-Some c =
    let a = c.args in
    let n = counted a.self.now.dirs.now a.self.now.text.now a.self.now.count in
    c.known.ensures ∙ found a.dir.now _ a.count c.in-Some.k (omega (arith, n, c.in-Some.ensures.bound)) c.in-Some.ensures.value

pub returns-in-None : goal.returns-in-None
returns-in-None c =
    let a = c.args in
    c.added.ensures ∙ missing a.dir.now _ a.count (counted a.self.now.dirs.now a.self.now.text.now a.self.now.count ∙ c.in-None.ensures.value)
