-- `compatible::walk::compose` meets its contract.
use Rattle.std.proofs.Common.{◌≡◌, ◌<◌, length, rules, sym, ◌∙◌, false}
use Rattle.path.specs.Join.{is_alone}
use Rattle.compatible.proofs.Walks.{three-kept}
use Rattle.compatible.proofs.walk.compose.Goals as goal

pub returns : goal.returns
returns c =
    let kept : is_alone c.args.first.now ≡ false = sym c.is_alone.ensures ∙ c.if-is_alone.false in
    let some : 0 < length c.args.second.now = search rules in
    rw (c.separator-first_end.ensures, c.separator-second_end.ensures) (three-kept c.args.first.now c.args.second.now c.args.last.now kept some)
