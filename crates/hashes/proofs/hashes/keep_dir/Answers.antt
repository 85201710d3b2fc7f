-- `hashes::hashes::keep_dir` meets its contract. The loop's invariant: x is the hash of what stands before the parts that are still to come,
-- and the hashes at the ends of those before them are collected.
use Rattle.std.proofs.Common.{rules, tests, eqb}
use Rattle.std.proofs.lemmas.Iterator.{YieldsList}
use Rattle.std.proofs.lemmas.Iterator.Splits.{YieldsList-from_slice_split}
use Rattle.hashes.proofs.Hashing.{hashes_on, parts, parts-start, none-left, part-left}
use Rattle.hashes.proofs.Collecting.{adds-none, adds-more}
use mathlib.Core.List.{[], ◌∷◌, ◌++◌, append-nil, append_assoc}
use mathlib.Core.Path.{refl, sym, ap, ◌∙◌}
use mathlib.Core.List.{List}
use Prim.Native.Nat.{ℕ}
use Rattle.hashes.proofs.hashes.keep_dir.Given as given
use Rattle.hashes.proofs.hashes.keep_dir.Goals as goal

pub loop-part-init : goal.loop-part-init
loop-part-init c =
    let a = c.args in
    let s = c.split-part-items.ensures in
    let y : YieldsList (given.iterator-loop-part).next_gives (λ p. p.now) c.split-part-items.result (parts a.d.now) =
    YieldsList-from_slice_split _ (λ b. eqb b 47) a.d.now s.rest s.done s.closure (λ x b q k. search (rules, tests)) in (
      parts a.d.now,
      rw c.into_iter-part-iterator.ensures.into_iter_gives y.runs,
      [],
      parts-start a.state a.d.now (search rules),
      refl,
      c.requires.0,
      adds-none a.collected a.batch.now,
    )

pub loop-part-preserved : goal.loop-part-preserved
loop-part-preserved c =
    let a = c.args in
    let l = c.loop-part in
    let i = l.invariant in
    let y = c.crc32c_append_lowercase-x in
    let z = c.crc32c_append_lowercase-x-in-loop-part in
    let k = c.keep-more in
    let p = part-left (given.iterator-loop-part).next_gives l.part-iterator c.next.new.self c.next.result c.next.ensures.steps c.in-Some.part l.x y.result z.result i.0 i.1 c.in-Some.is y.ensures z.ensures in (
      p.0,
      p.1,
      i.2 ++ (y.result ∷ []),
      append_assoc i.2 (y.result ∷ []) (hashes_on z.result p.0) ∙ ap (λ (r : List ℕ). i.2 ++ r) (sym p.2) ∙ i.3,
      k.auto.batch ∙ i.4,
      k.ensures.0,
      adds-more i.2 (y.result ∷ []) a.collected l.more k.result a.batch.now l.batch k.new.batch i.6 k.ensures.1,
    )

pub returns : goal.returns
returns c =
    let l = c.loop-part in
    let i = l.invariant in
    let n = none-left (given.iterator-loop-part).next_gives l.part-iterator c.next.new.self c.next.result c.next.ensures.steps l.x i.0 i.1 c.in-None.is in
    let e = sym (append-nil i.2) ∙ ap (λ (r : List ℕ). i.2 ++ r) (sym n) ∙ i.3 in
    (i.5, rw e at i.6)
