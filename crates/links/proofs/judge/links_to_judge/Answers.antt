-- `links::judge::links_to_judge` meets its contract.
use mathlib.Core.Path.{◌≡◌, refl, sym, ◌∙◌}
use mathlib.Core.Bool.{false, true, ◌&&◌}
use mathlib.Core.List.{[]}
use Rattle.std.proofs.Common.{rules}
use Rattle.rules.specs.Bounds.{bad_length}
use Rattle.rules.specs.Questions.{rows_are_held, dirs_held, text_held, few_entries}
use Rattle.lookup.specs.Lookup.{lent}
use Rattle.lookup.proofs.Spaces.{count-rows}
use Rattle.links.proofs.judge.links_to_judge.Goals as goal

pub returns : goal.returns
returns c =
    let counted = c.count_links.ensures ∙ count-rows (lent c.args.fs c.args.rows.now [] [])
    (lent c.args.fs c.args.rows.now c.args.dirs.now c.args.text.now) refl refl in
    let is-good : bad_length c.args.fs.piece_length ≡ false = search rules in
    let is_whole : ((rows_are_held c.args.fs c.args.rows.now && (dirs_held c.args.fs c.args.dirs.now && text_held c.args.fs c.args.text.now)) &&
    few_entries c.args.fs) ≡ true = search rules in
    rw (is-good, is_whole, sym c.lacks_space.ensures ∙ c.if-lacks_space.false, counted)
