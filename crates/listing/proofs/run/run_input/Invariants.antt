-- `listing::run::run_input` meets its contract. The loop's invariant: the run is going on, with the lines that are still to come.
use Rattle.listing.specs.Run.{run, places}
use Rattle.listing.specs.private.Steps.{store_in}
use Rattle.listing.proofs.Steps.{Going}
use Rattle.listing.proofs.run.run_input.Given as goal

abbrev pub invariant-loop-text : goal.invariant-loop-text
invariant-loop-text l = Going (goal.iterator-loop-text).next_gives (run places l.input) l.text-iterator l.line (store_in l.fs l.to)
