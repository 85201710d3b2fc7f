-- `hashes::hashes::Listed::repeats_fit` meets its contract: the iterator gives each directory's number of beginnings.
use Prim.Native.Nat.{ℕ}
use mathlib.Core.List.{List}
use mathlib.Core.Path.{◌∙◌}
use lib.ListN.{length}
use Rattle.std.proofs.Common.{rules}
use Rattle.std.proofs.lemmas.Iterator.{YieldsList-from_slice, YieldsList-from_map}
use Rattle.std.proofs.lemmas.Iterator.Consumers.{YieldsList-at}
use Rattle.lists.proofs.Takings.{all-taken}
use Rattle.hashes.specs.Hashes.{beginnings}
use Rattle.hashes.specs.private.Due.{placed}
use Rattle.hashes.proofs.Filling.{beginnings_fit}
use Rattle.hashes.proofs.hashes.Listed.repeats_fit.Goals as goal

pub returns : goal.returns
returns c =
    let s = c.args.self in
    let h : List ℕ → ℕ = λ ws. length (beginnings (placed s.text.now ws)) in
    c.is_some.ensures
    ∙ all-taken _ _ _ (λ a x w q k. search rules) _ c.try_fold.result c.map.result c.try_fold.new.self _ c.args.room
    (YieldsList-from_map _ h (YieldsList-at c.map.ensures.source (YieldsList-from_slice s.dirs.now c.iter.ensures.rest)) c.map.ensures.closure (λ x r q k. search rules))
    c.try_fold.ensures.ran
    ∙ beginnings_fit s c.args.room
