-- `lookup::parts::joins_to` meets its contract: a join is what it keeps of the directory, a separator or none, and the name.
use Rattle.std.proofs.Common.{◌∙◌}
use Rattle.lookup.proofs.Paths.{joins-not, joins-apart, joins-on}
use Rattle.lookup.proofs.parts.joins_to.Goals as goal

pub returns-in_default : goal.returns-in_default
returns-in_default c =
    joins-not c.args.d.now c.args.name.now c.args.p.now c.join_prefix.ensures.branch c.join_prefix.ensures.separator c.in_default.ensures.cases

pub returns-in_default-strip_suffix : goal.returns-in_default-strip_suffix
returns-in_default-strip_suffix c =
    let front = c.in-Some in
    joins-apart c.args.d.now c.args.name.now c.args.p.now c.join_prefix.ensures.branch c.join_prefix.ensures.separator
    front.front.now front.ensures.cases.0 front.ensures.cases.1 c.in_default-strip_suffix.ensures.cases

pub returns : goal.returns
returns c =
    let front = c.in-Some in
    let branch = c.in-Some-strip_suffix in
    c.same.ensures ∙ joins-on c.args.d.now c.args.name.now c.args.p.now c.join_prefix.ensures.branch c.join_prefix.ensures.separator
    front.front.now front.ensures.cases.0 front.ensures.cases.1 branch.branch.now branch.ensures.cases.0 branch.ensures.cases.1
