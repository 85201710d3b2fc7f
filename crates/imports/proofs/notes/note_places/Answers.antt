-- `imports::notes::note_places` meets its contract: each number comes with its length.
use Prim.Native.Nat.{◌+◌, ◌<◌}
use mathlib.Core.Path.{◌≡◌, sym, ◌∙◌}
use native.Mathlib.Omega.{arith}
use borrow.Author.Rules.{rules}
use lib.IntN.{pos}
use lib.ListN.{length, get_or}
use mir.Syntax.{w32}
use mir.Val.{to_z, of_z}
use mir.Facts.{to_z-of_z}
use Rattle.std.proofs.lemmas.List.{length_push}
use Rattle.std.proofs.lemmas.Slice.Zip.{zip_turn}
use Rattle.lists.proofs.Sums.{sum-take-more, sum-take-mono}
use Rattle.imports.proofs.Noting.{placed-turn}
use Rattle.imports.proofs.notes.note_places.Goals as goal
use Rattle.imports.proofs.notes.note_places.Goals.{In-Some}

-- the number that comes and its length
came : (c : In-Some)
    → (length c.loop-number.yielded < length c.args.numbers.now)
    × (c.in-Some.number.now ≡ get_or c.args.numbers.now (length c.loop-number.yielded) (pos 0))
    × (c.in-Some.length.now ≡ get_or c.args.lengths.now (length c.loop-number.yielded) 0)
came c =
    let l = c.loop-number in
    let t = zip_turn c.args.numbers.now c.args.lengths.now l.yielded c.into_iter-number-iterator.result l.number-iterator c.next.new.self c.next.result (cc) (cc) l.yielded_by (c.in-Some.number, c.in-Some.length) c.in-Some.is c.next.ensures.steps in
    (t.0, t.2 (pos 0), t.3 0)

pub overflow_add-at : goal.overflow_add-at
overflow_add-at c =
    let s = c.args.lengths.now in
    let n = length c.loop-number.yielded in
    let q = came (goal.at.overflow_add-at c).In-Some in
    record { fits = omega (arith, c.loop-number.invariant.ends, q.0, q.2, sum-take-more s n, sum-take-mono s (n + 1) (length c.args.numbers.now) (omega arith), c.requires.1) }

pub loop-number-preserved : goal.loop-number-preserved
loop-number-preserved c =
    let a = c.args in
    let l = c.loop-number in
    let n = length l.yielded in
    let q = came (goal.at.loop-number-preserved c).In-Some in
    let z = get_or a.numbers.now n (pos 0) in
    let r : to_z w32 (of_z w32 z) ≡ z = to_z-of_z {w = w32} (search rules) in
    rw (length_push l.yielded (c.in-Some.number, c.in-Some.length))
    (record {
      ends = omega (arith, l.invariant.ends, q.2, sum-take-more a.lengths.now n);
      places = rw (c.note.ensures, q.1, q.2, r) (sym (placed-turn a.numbers.now n l.at a.lengths.now l.places q.0) ∙ l.invariant.places);
    })
