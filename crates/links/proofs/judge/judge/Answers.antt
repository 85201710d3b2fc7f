-- `links::judge::judge` meets its contract.
use mathlib.Core.Path.{◌∙◌}
use native.Mathlib.Omega.{arith}
use Rattle.links.specs.private.Walking.{set_of}
use Rattle.links.proofs.Judgements.{marks-whole}
use Rattle.links.proofs.judge.judge.Goals as goal

pub walk_links-requires : goal.walk_links-requires
walk_links-requires c = (
  c.first_marks.ensures ∙ marks-whole (set_of c.args.the_set) c.args.marks.now c.requires.0,
  record
      { few = c.requires.1; small = c.requires.2; room = omega arith },
)
