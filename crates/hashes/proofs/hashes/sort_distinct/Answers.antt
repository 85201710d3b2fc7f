-- `hashes::hashes::sort_distinct` meets its contract: what is sorted has the same numbers, and its repeats are dropped.
use mathlib.Core.Path.{sym, ◌∙◌}
use mathlib.Core.Logic.{inl, inr}
use native.Mathlib.Omega.{arith}
use lib.Dec.{eqb}
use Rattle.std.proofs.lemmas.List.Sorted.{IsNonDecreasingBy-from_sort, list_any-IsPermutation}
use Rattle.hashes.proofs.Ascending.{ascending_same}
use Rattle.hashes.proofs.Collecting.{sifted_repeat, sifted_other, sifted-all}
use Rattle.hashes.proofs.hashes.sort_distinct.Goals as goal
use Rattle.hashes.proofs.hashes.sort_distinct.Goals.{then-kept-eq0, then-kept-eq0-via-then-kept-eq0, then-kept-eq0-via-else-kept-eq0+then-run-kept, else-kept-eq0+else-run-kept}

pub loop-i-preserved : goal.loop-i-preserved
loop-i-preserved c =
    let l = c.loop-i in
    let t = c.sort_unstable.new.self in
    elim c.if-kept-eq0.branch [
      | then-kept-eq0 w ↦
          rw (w.run-is, w.kept-is)
          (sifted_other t l.run l.i l.kept l.invariant c.loop-i-test.true (λ j p. IsNonDecreasingBy-from_sort (λ x. x) t c.sort_unstable.ensures.sorted j l.i 0 p c.loop-i-test.true)
          (elim w.then-kept-eq0.branch [
            | then-kept-eq0-via-then-kept-eq0 v ↦ inl v.if-kept-eq0.true
            | then-kept-eq0-via-else-kept-eq0+then-run-kept v ↦ inr v.if-run-kept.true
          ]))
      | else-kept-eq0+else-run-kept w ↦
          rw (w.run-is, w.kept-is) (sifted_repeat t l.run l.i l.kept l.invariant c.loop-i-test.true (omega (arith, w.if-kept-eq0.false)) w.if-run-kept.false)
    ]

pub returns : goal.returns
returns c =
    let l = c.loop-i in
    let t = c.sort_unstable.new.self in
    let w = l.invariant in (
      sifted-all t l.run l.i l.kept w c.loop-i-test.false ∙ ascending_same t c.args.run.now (λ z. sym (list_any-IsPermutation (eqb z) c.args.run.now t c.sort_unstable.ensures.permutation)),
      omega (arith, w.behind, w.long, l.auto.i-end),
    )
