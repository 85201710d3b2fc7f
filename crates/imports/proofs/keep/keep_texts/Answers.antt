-- `imports::keep::keep_texts` meets its contract.
use Prim.Native.Nat.{◌*◌, ◌/◌, ◌<◌}
use mathlib.Core.Path.{sym, ap, ◌∙◌}
use mathlib.Core.List.{[], ◌∷◌}
use native.Mathlib.Nat.{add-zero}
use native.Mathlib.Omega.{arith}
use lib.ListN.{length, length-append}
use Rattle.std.specs.Slice.Iter.{chunks_exact_size, chunks_exact_rest}
use Rattle.std.proofs.lemmas.Iterator.Consumers.{YieldsList-turn}
use Rattle.renames.proofs.Chunks.{chunks-give, entries-long, entry-word}
use Rattle.imports.specs.private.Merging.{is_noted}
use Rattle.imports.proofs.Keeping.{kept_text, joined_in, joined-skip, joined-keep}
use Rattle.imports.proofs.keep.keep_texts.Goals as goal
use Rattle.imports.proofs.keep.keep_texts.Goals.{then-not-is_noted, else-not-is_noted}

pub loop-entry-preserved : goal.loop-entry-preserved
loop-entry-preserved c =
    let a = c.args in
    let l = c.loop-entry in
    let i = length l.yielded in
    let f = is_noted a.notes.now in
    let same = c.into_iter-entry-iterator.ensures.into_iter_gives in
    let of = c.chunks_exact-entry-items.ensures in
    let chunks = chunks-give a.entries.now (ap chunks_exact_size same ∙ of.size) (ap chunks_exact_rest same ∙ of.rest) in
    let at = YieldsList-turn chunks l.yielded l.entry-iterator l.yielded_by c.next.result c.next.new.self c.in-Some.entry c.in-Some.is c.next.ensures.steps in
    let word = entry-word (length a.entries.now / 4) i a.entries.now c.in-Some.entry.now at.0 at.1 in
    let less : i < length a.entries.now / 4 = omega (arith, at.0, entries-long (length a.entries.now / 4) a.entries.now) in
    let file = rw (add-zero (i * 4)) at (word 0 (omega arith)) in
    let len = word 2 (omega arith) in
    let room = joined_in f (length a.entries.now / 4) a.entries.now a.text.now l.text i l.from l.to l.invariant less in
    let next = length-append l.yielded (c.in-Some.entry ∷ []) in
    elim c.if-not-is_noted.branch [
      | then-not-is_noted w ↦
          rw (w.text-is, w.to-is, w.copy_within.ensures.after ∙ kept_text l.text l.from _ l.to (omega (arith, l.invariant.0)) (omega (arith, len, room)), next, len)
          (joined-keep f (length a.entries.now / 4) a.entries.now a.text.now l.text i l.from l.to l.invariant less (sym (rw file at c.is_noted.ensures) ∙ w.if-not-is_noted.true))
      | else-not-is_noted w ↦
          rw (w.text-is, w.to-is, next, len)
          (joined-skip f (length a.entries.now / 4) a.entries.now a.text.now l.text i l.from l.to l.invariant less (sym (rw file at c.is_noted.ensures) ∙ w.if-not-is_noted.false))
    ]
