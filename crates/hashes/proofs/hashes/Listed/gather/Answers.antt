-- `hashes::hashes::Listed::gather` meets its contract. The loop's invariant: the batch holds the hashes of the directories before the next row.
use Prim.Native.Nat.{ℕ, ◌+◌}
use mathlib.Core.Path.{sym, ap, ◌∙◌}
use mathlib.Core.List.{List, ◌++◌, map, append_assoc}
use lib.ListN.{drop}
use Rattle.tables.specs.Span.{text_at}
use Rattle.hashes.specs.Hashes.{joined_lists}
use Rattle.hashes.specs.private.Gathering.{hashes_after}
use Rattle.hashes.specs.private.Due.{listed_dirs}
use Rattle.hashes.proofs.Hashing.{rows-turn}
use Rattle.hashes.proofs.hashes.Listed.gather.Goals as goal

pub loop-row-preserved : goal.loop-row-preserved
loop-row-preserved c =
    let l = c.loop-row in
    let s = c.args.self in
    let f = hashes_after s.state in
    let t = c.text_at-d in
    let k = c.keep_dir-collected in
    let rest = joined_lists (drop (l.row-index + 1) (map f (listed_dirs s))) in
    let more = rows-turn f s.text.now s.dirs.now l.row-index _ t.result.now c.loop-row-test.true (t.ensures ∙ ap (text_at s.text.now) c.from.ensures) in (
      l.invariant.0 ++ f t.result.now,
      append_assoc l.invariant.0 (f t.result.now) rest ∙ ap (λ (r : List ℕ). l.invariant.0 ++ r) (sym more) ∙ l.invariant.1,
      k.auto.batch ∙ l.invariant.2,
      k.ensures.0,
      k.ensures.1.0 ∙ l.invariant.4,
      k.ensures.1.1 l.invariant.0 l.invariant.5,
    )
