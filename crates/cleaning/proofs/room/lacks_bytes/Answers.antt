-- `cleaning::room::lacks_bytes` meets its contract: the iterator gives the lengths of the flagged links' new texts, from their rows
-- and marks.
use Prim.Native.Nat.{ℕ}
use mathlib.Core.Path.{refl, sym, ap, ◌∙◌}
use native.Mathlib.Nat.{sub-zero}
use Rattle.std.proofs.Common.{rules}
use Rattle.std.proofs.lemmas.Iterator.{YieldsList-from_map}
use Rattle.std.proofs.lemmas.Iterator.Consumers.{YieldsList-at}
use Rattle.lists.proofs.Takings.{all-taken}
use Rattle.tables.specs.declared.rows.Row.{Row}
use Rattle.links.specs.declared.mark.LinkVerdict.{LinkVerdict}
use Rattle.links.specs.Flagged.{links_from, links_left}
use Rattle.links.proofs.Passing.{links_given}
use Rattle.cleaning.specs.private.Writing.{new_length}
use Rattle.cleaning.proofs.Links.{by_link, links-more}
use Rattle.cleaning.proofs.room.lacks_bytes.Goals as goal

pub returns : goal.returns
returns c =
    let j = c.args.judged in
    let n = j.set.fs.num_files in
    let rows = j.set.lent.rows.now in
    let new : LinkVerdict → Row → ℕ = new_length j.set.lent.dirs.now j.set.lent.text.now in
    links-more new (λ r. refl) rows j.marks.now n c.args.room c.is_none.result
    (sym (all-taken _ _ _ (λ a x w q k. search rules) _ c.try_fold.result c.map.result c.try_fold.new.self _ c.args.room
    (YieldsList-from_map _ (by_link new (λ r. refl) rows j.marks.now)
    (YieldsList-at c.map.ensures.source (links_given _ _ (ap links_left c.all.ensures ∙ ap (λ (m : ℕ). links_from rows m 0 0) (sub-zero n))))
    c.map.ensures.closure (λ x r q k. search rules))
    c.try_fold.ensures.ran)
    ∙ c.is_none.ensures)
