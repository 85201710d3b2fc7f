-- `lookup::parts::ends_with` meets its contract: the iterator gives the bytes of both from the back, as far as the name goes.
use mathlib.Core.Path.{◌≡◌, subst, ap, ◌∙◌}
use mathlib.Core.List.{List, reverse}
use Rattle.std.specs.Prelude.{Option}
use Rattle.std.specs.Slice.Iter.{iter_rest}
use Rattle.std.proofs.Common.{rules}
use Rattle.std.proofs.lemmas.Iterator.{YieldsList, YieldsList-from_zip, same_from_all}
use Rattle.std.proofs.lemmas.Iterator.Adapters.{YieldsList-from_rev_slice}
use Rattle.std.proofs.lemmas.Iterator.Consumers.{YieldsList-at}
use Rattle.lookup.proofs.Paths.{end, back-long, back-zip, ends-back}
use Rattle.lookup.proofs.parts.ends_with.Goals as goal

-- what an iterator gives, by an equal list
along : {S A B : Type 0} {steps : S → Option A → S → Type 0} {v : A → B} {s : S} {xs ys : List B} → xs ≡ ys → YieldsList steps v s xs → YieldsList steps v s ys
along {steps = steps} {v = v} {s = s} e y = subst (λ l. YieldsList steps v s l) e y

pub returns-then-n-p : goal.returns-then-n-p
returns-then-n-p c =
    let n = c.args.n.now in
    let p = c.args.p.now in
    let h = c.if-n-p.true in
    let name = YieldsList-from_rev_slice n (ap iter_rest c.rev.ensures.source ∙ c.iter.ensures.rest) in
    let path = YieldsList-from_rev_slice p (ap iter_rest c.rev-then-n-p.ensures.source ∙ c.iter-then-n-p.ensures.rest) in
    ends-back n p h c.all.result
    (same_from_all c.all.new.self _ c.all.result (reverse n) (reverse (end n p h)) c.all.ensures.ran
    (along (back-zip n p h) (YieldsList-from_zip (YieldsList-at c.zip.ensures.first name) (YieldsList-at c.zip.ensures.second path)))
    (back-long n p h) (λ x q k. search rules) (λ x q k. search rules))
