-- `additions::parts::place_of` meets its contract.
use mathlib.Core.Path.{sym, ap, ◌∙◌}
use Rattle.path.specs.Split.{is_complete}
use Rattle.additions.proofs.Texts.{branch-plain}
use Rattle.additions.proofs.parts.place_of.Goals as goal

pub inside_span-requires-clause-branch_value : goal.inside_span-requires-clause-branch_value
inside_span-requires-clause-branch_value c =
    ap is_complete c.requires ∙ branch-plain c.args.path.now (sym c.is_complete.ensures ∙ c.if-is_complete.false)
