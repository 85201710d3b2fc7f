-- `cleaning::room::kept_after` meets its contract: the iterator gives the flagged links, each with its mark.
use Prim.Native.Nat.{ℕ, ◌-◌}
use mathlib.Core.Path.{refl, ap, ◌∙◌}
use native.Mathlib.Nat.{sub-zero}
use Rattle.std.proofs.Common.{rules}
use Rattle.std.proofs.lemmas.Iterator.Consumers.{fold_from_yields_List}
use Rattle.tables.specs.Span.{clip}
use Rattle.tables.specs.declared.rows.Row.{Row}
use Rattle.links.specs.declared.mark.LinkVerdict.{LinkVerdict}
use Rattle.links.specs.Flagged.{links_from, links_left}
use Rattle.links.proofs.Passing.{links_given}
use Rattle.cleaning.specs.Cleaning.{if_changed}
use Rattle.cleaning.proofs.Links.{by_link, links-left}
use Rattle.cleaning.proofs.room.kept_after.Goals as goal

pub returns : goal.returns
returns c =
    let j = c.args.judged in
    let n = j.set.fs.num_files in
    let used = j.set.fs.text_len in
    let rows = j.set.lent.rows.now in
    let gone : LinkVerdict → Row → ℕ = λ v r. if_changed v (clip used r.link).len in
    fold_from_yields_List _ (λ left p. left - by_link gone (λ r. refl) rows j.marks.now p) used c.fold.result c.fold.ensures.ran
    (links_given _ _ (ap links_left c.all.ensures ∙ ap (λ (m : ℕ). links_from rows m 0 0) (sub-zero n)))
    (λ a x b q k. search rules)
    ∙ links-left gone (λ r. refl) rows j.marks.now n used
