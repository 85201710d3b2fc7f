-- `imports::give::count_given` meets its contract: each number comes with its length, and its note tells whether it counts.
use Rattle.std.proofs.Common.{◌≡◌, ◌+◌, length, get_or, drop, pos, sym, ◌∙◌, rules, to_z, of_z, to_z-of_z, w32}
use Rattle.std.proofs.lemmas.List.{length_push}
use Rattle.std.proofs.lemmas.Iterator.{YieldsList-from_slice, YieldsList-from_zip}
use Rattle.std.proofs.lemmas.Iterator.Consumers.{YieldsList-from_enumerate, YieldsList-turn}
use Rattle.imports.specs.private.Importing.{counts}
use Rattle.imports.proofs.Counting.{Pair, pair-is, counts-is, counted_more, counted_same}
use Rattle.imports.proofs.give.count_given.Goals as goal
use Rattle.imports.proofs.give.count_given.Goals.{In-Some, After-is_last}

-- the number that comes and its length
came : (c : In-Some) → Pair c.args.list.numbers.now c.args.list.lengths.now (length c.loop-i.yielded) (c.in-Some.i, (c.in-Some.number.now, c.in-Some.length.now))
came c =
    let zs = c.args.list.numbers.now in
    let ls = c.args.list.lengths.now in
    let listed = YieldsList-from_enumerate {s = c.into_iter-i-iterator.result} (YieldsList-from_zip (YieldsList-from_slice zs cc) (YieldsList-from_slice ls cc)) cc in
    let t = YieldsList-turn listed c.loop-i.yielded c.loop-i.i-iterator c.loop-i.yielded_by c.next.result c.next.new.self (c.in-Some.i, (c.in-Some.number, c.in-Some.length)) c.in-Some.is c.next.ensures.steps in
    pair-is zs ls (length c.loop-i.yielded) _ c.requires.1 t.0 t.1

-- whether it counts
decided : (c : After-is_last)
    → c.is_last.result ≡ counts (length c.args.notes.now) (get_or c.args.list.numbers.now (length c.loop-i.yielded) (pos 0)) (drop (length c.loop-i.yielded + 1) c.args.list.numbers.now)
decided c =
    let q = came (goal.at.After-is_last c).In-Some in
    let r : to_z w32 (of_z w32 c.in-Some.number.now) ≡ c.in-Some.number.now = to_z-of_z {w = w32} (search rules) in
    (rw (r, q.number, q.place) at c.is_last.ensures) ∙ counts-is (length c.args.notes.now) c.args.list.numbers.now (length c.loop-i.yielded) q.among c.args.notes.now c.requires.0

pub loop-i-preserved-then-is_last : goal.loop-i-preserved-then-is_last
loop-i-preserved-then-is_last c =
    let s = (goal.at.loop-i-preserved-then-is_last c) in
    let q = came s.In-Some in
    rw (length_push c.loop-i.yielded (c.in-Some.i, (c.in-Some.number, c.in-Some.length)), c.part-len.ensures, q.size)
    (counted_more (length c.args.notes.now) c.args.list.numbers.now (length c.loop-i.yielded) q.among c.args.list.lengths.now c.args.list.names.now c.loop-i.at c.loop-i.invariant (sym (decided s.After-is_last) ∙ c.if-is_last.true))

pub loop-i-preserved : goal.loop-i-preserved
loop-i-preserved c =
    let s = (goal.at.loop-i-preserved c) in
    let q = came s.In-Some in
    rw (length_push c.loop-i.yielded (c.in-Some.i, (c.in-Some.number, c.in-Some.length)), c.part-len.ensures, q.size)
    (counted_same (length c.args.notes.now) c.args.list.numbers.now (length c.loop-i.yielded) q.among c.args.list.lengths.now c.args.list.names.now c.loop-i.at c.loop-i.invariant (sym (decided s.After-is_last) ∙ c.if-is_last.false))
