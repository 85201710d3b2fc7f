-- `hashes::hashes::all_path_hashes` meets its contract: the set's name is decided on first, then the tables.
use Rattle.hashes.proofs.Listing.{listed-value}
use Rattle.names.specs.Paths.{led, hash_of}
use mathlib.Core.List.{List}
use mathlib.Core.Path.{ap, ◌∙◌}
use Prim.Native.Nat.{ℕ}
use Rattle.hashes.proofs.hashes.all_path_hashes.Goals as goal

pub returns : goal.returns
returns c =
    let a = c.args in
    listed-value a.fs a.dirs.now a.text.now a.out.now c.name.result c.name.ensures c.in_ok-place.place c.in_ok-place.was c.lead-state.result (c.lead-state.ensures ∙ ap (λ (t : List ℕ). hash_of (led t)) c.text_at.ensures) _ c.put_hashes.ensures
