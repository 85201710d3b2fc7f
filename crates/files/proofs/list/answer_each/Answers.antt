-- `files::list::answer_each` meets its contract: each question is the one of its number.
use Rattle.std.proofs.Common.{rules, ◌≡◌, length, get_or, take, pos, to_z-of_z, w32, w64, SFits, arith}
use Rattle.std.proofs.lemmas.Iterator.{YieldsList-from_slice, YieldsList-from_zip}
use Rattle.std.proofs.lemmas.Iterator.Consumers.{YieldsList-from_enumerate, YieldsList-turn, YieldsList-end}
use Rattle.std.proofs.lemmas.List.{length_push}
use Rattle.rules.specs.Results.{request_says}
use Rattle.files.specs.Given.{file_mapped}
use Rattle.files.specs.List.{answer_at}
use Rattle.tables.proofs.Filled.{writing-turn, writing-end}
use Rattle.files.proofs.Words.{four-words}
use Rattle.files.proofs.Columns.{Asked, asked-is, all-asked}
use Rattle.files.proofs.list.answer_each.Goals as goal
use Rattle.files.proofs.list.answer_each.Given.{Over}
use Rattle.files.proofs.list.answer_each.Goals.{In-Some}

asked : {g : Over} (c : In-Some g) → Asked c.args.files.now c.args.offsets.now c.args.sizes.now (length c.loop-i.yielded) (c.in-Some.i, ((c.in-Some.file.now, c.in-Some.offset.now), c.in-Some.size.now))
asked c =
    let a = c.args in
    let l = c.loop-i in
    let listed = YieldsList-from_enumerate {s = c.into_iter-i-iterator.result} (YieldsList-from_zip (YieldsList-from_zip (YieldsList-from_slice a.files.now cc) (YieldsList-from_slice (take (length a.files.now) a.offsets.now) cc)) (YieldsList-from_slice (take (length a.files.now) a.sizes.now) cc)) cc in
    let t = YieldsList-turn listed l.yielded l.i-iterator l.yielded_by c.next.result c.next.new.self (c.in-Some.i, ((c.in-Some.file, c.in-Some.offset), c.in-Some.size)) c.in-Some.is c.next.ensures.steps in
    asked-is a.files.now a.offsets.now a.sizes.now c.requires.1 c.requires.2 (length l.yielded) _ t.0 t.1

pub put_answer-requires : goal.put_answer-requires
put_answer-requires g c = let q = asked (goal.at.put_answer-requires g c).In-Some in search rules

pub loop-i-preserved : goal.loop-i-preserved
loop-i-preserved g c =
    let a = c.args in
    let l = c.loop-i in
    let n = length l.yielded in
    let q = asked (goal.at.loop-i-preserved g c).In-Some in
    let f : SFits w32 c.in-Some.file.now = search rules in
    let o : SFits w64 c.in-Some.offset.now = search rules in
    let s : SFits w32 c.in-Some.size.now = search rules in
    let answer : request_says c.map_tested-answer.result ≡ file_mapped a.fs a.rows.now (get_or a.files.now n (pos 0)) (get_or a.offsets.now n (pos 0)) (get_or a.sizes.now n (pos 0)) = rw (to_z-of_z f, to_z-of_z o, to_z-of_z s, q.file, q.offset, q.size) at c.map_tested-answer.ensures in
    let put = rw (q.number, answer) at c.put_answer.ensures in
    rw (length_push l.yielded (c.in-Some.i, ((c.in-Some.file, c.in-Some.offset), c.in-Some.size)))
    (writing-turn 4 (answer_at a.fs a.rows.now a.files.now a.offsets.now a.sizes.now) (length a.files.now) a.answers.now l.answers n (four-words _) l.invariant q.among put)

pub returns : goal.returns
returns g c =
    let listed = YieldsList-from_enumerate {s = c.into_iter-i-iterator.result} (YieldsList-from_zip (YieldsList-from_zip (YieldsList-from_slice c.args.files.now cc) (YieldsList-from_slice (take (length c.args.files.now) c.args.offsets.now) cc)) (YieldsList-from_slice (take (length c.args.files.now) c.args.sizes.now) cc)) cc in
    let e = YieldsList-end listed c.loop-i.yielded c.loop-i.i-iterator c.loop-i.yielded_by c.next.result c.next.new.self c.in-None.is c.next.ensures.steps in
    writing-end 4 (answer_at c.args.fs c.args.rows.now c.args.files.now c.args.offsets.now c.args.sizes.now) (length c.args.files.now) c.args.answers.now c.loop-i.answers (length c.loop-i.yielded) c.loop-i.invariant
    (omega (arith, e.1, all-asked c.args.files.now c.args.offsets.now c.args.sizes.now c.requires.1 c.requires.2))
