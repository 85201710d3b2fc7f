-- `listing::run::list` meets its contract.
use mathlib.Core.Path.{ap, ◌∙◌}
use Prim.Native.Nat.{ℕ}
use mathlib.Core.List.{List}
use Rattle.listing_output.specs.Output.{printed}
use Rattle.listing_output.specs.Printing.{put_text}
use Rattle.listing.specs.private.Steps.{store_in}
use Rattle.listing_output.proofs.Printed.{shown-is}
use Rattle.listing.proofs.run.list.Goals as goal

pub returns-in-Ok : goal.returns-in-Ok
returns-in-Ok c =
    let s = store_in c.in-Ok.fs c.run_input.new.to in
    c.put_set.ensures ∙ ap (λ (t : List ℕ). put_text t c.args.out.now) (shown-is s ∙ ap printed c.in-Ok.ensures)
