-- `renames::slot::bytes_of` meets its contract: what the chunks give is word 2 of each entry in its turn.
use mathlib.Core.Path.{◌∙◌}
use native.Mathlib.Omega.{arith}
use lib.ListN.{get_or}
use Rattle.std.proofs.Common.{rules}
use Rattle.std.proofs.lemmas.Iterator.{YieldsList-from_map}
use Rattle.std.proofs.lemmas.Iterator.Consumers.{YieldsList-at, sum_by_from_yields_List, fits_by_from_yields_list}
use Rattle.renames.proofs.Chunks.{all_entries, chunks-give, all-bytes}
use Rattle.renames.proofs.slot.bytes_of.Goals as goal

pub sum-requires-clause-fits : goal.sum-requires-clause-fits
sum-requires-clause-fits c =
    fits_by_from_yields_list (λ x. get_or x 2 0) (all_entries c.args.entries.now) c.map.result _
    (YieldsList-from_map _ (λ x. get_or x 2 0) (YieldsList-at c.map.ensures.source (chunks-give _ c.chunks_exact.ensures.size c.chunks_exact.ensures.rest)) c.map.ensures.closure (λ x r q k. search rules))
    (omega (arith, all-bytes c.args.entries.now))

pub returns : goal.returns
returns c =
    sum_by_from_yields_List (λ x. get_or x 2 0) (all_entries c.args.entries.now) c.map.result c.sum.result c.sum.ensures.ran
    (YieldsList-from_map _ (λ x. get_or x 2 0) (YieldsList-at c.map.ensures.source (chunks-give _ c.chunks_exact.ensures.size c.chunks_exact.ensures.rest)) c.map.ensures.closure (λ x r q k. search rules))
    ∙ all-bytes c.args.entries.now
