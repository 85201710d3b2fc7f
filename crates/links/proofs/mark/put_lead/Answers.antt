-- The proof of `put_lead`.
use Prim.Native.Nat.{ℕ, ◌+◌, ◌*◌, ◌/◌}
use mathlib.Core.Path.{◌≡◌, ap, ◌∙◌}
use mathlib.Core.List.{map}
use lib.ListN.{get_or, set}
use Rattle.links.specs.private.Walking.{lead, verdict}
use Rattle.links.proofs.Packed.{set-lead, set-lead-verdicts}
use Rattle.links.proofs.mark.put_lead.Goals as goal

pub returns : goal.returns
returns c =
    let stored : c.put.new.items ≡ set c.args.marks.now c.args.k (get_or c.args.marks.now c.args.k 0 / 8 * 8 + c.args.m) = c.put.ensures ∙ ap (λ (b : ℕ). set c.args.marks.now c.args.k (b / 8 * 8 + c.args.m)) c.item_or.ensures in
    record {
      marks_after = ap (map lead) stored ∙ set-lead c.args.marks.now c.args.k c.args.m c.requires;
      marks_unchanged = ap (map verdict) stored ∙ set-lead-verdicts c.args.marks.now c.args.k c.args.m c.requires;
    }
