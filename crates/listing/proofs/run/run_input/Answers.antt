-- `listing::run::run_input` meets its contract: `split` gives the lines, the first of which opens the set.
use Rattle.std.specs.Prelude.{Result}
use Rattle.std.proofs.Common.{rules, tests, ◌<◌, ◌≤◌, ◌+◌, length, eqb}
use Rattle.std.proofs.lemmas.Bool.Decides.{Decides-eqb}
use Rattle.std.proofs.lemmas.Slice.Eq.{strip_suffix_is}
use Rattle.std.proofs.lemmas.Iterator.{YieldsList}
use Rattle.std.proofs.lemmas.Iterator.Splits.{YieldsList-from_slice_split}
use Rattle.types.specs.declared.refusal.Refusal.{Refusal}
use Rattle.types.specs.Refusals.{outcome}
use mathlib.Core.Path.{◌≡◌, sym, ap, ◌∙◌}
use native.Mathlib.Omega.{arith}
use Rattle.tables.specs.declared.storage.FileStorage.{FileStorage}
use Rattle.listing.specs.declared.run.Stop.{Stop}
use Rattle.listing.specs.Run.{run_lines, run, places}
use Rattle.listing.specs.private.Steps.{stopped_by, run_in}
use Rattle.listing.proofs.Lines.{feed, parts, run-parts}
use Rattle.listing.proofs.Steps.{run_long, first_stops, first_opened, Begun, begun, run_ends, lines-few, run-stops, run-goes, counted_is}
use Rattle.listing.proofs.run.run_input.Given as given
use Rattle.listing.proofs.run.run_input.Goals as goal
use Rattle.listing.proofs.run.run_input.Goals.{After-unwrap_or}

pub returns-then-input-gt65536 : goal.returns-then-input-gt65536
returns-then-input-gt65536 c = run_long c.args.input.now c.if-input-gt65536.true

-- the first line, and what is still to come
first : (c : After-unwrap_or) → Begun (given.iterator-loop-text).next_gives (run places c.args.input.now) c.next.new.self c.unwrap_or.result.now
first c =
    let ended = c.unwrap_or-ended.result.now in
    let cut = strip_suffix_is Decides-eqb c.args.input.now feed c.strip_suffix.result c.strip_suffix.ensures.cases in
    let held : (0 < length (parts ended)) × (length (parts ended) ≤ 65537) × (run_lines places (parts ended) ≡ run places c.args.input.now) =
    rw c.unwrap_or-ended.ensures (run-parts c.args.input c.strip_suffix.result cut c.if-input-gt65536.false) in
    let lines : YieldsList (given.iterator-loop-text).next_gives (λ l. l.now) c.split-lines.result (parts ended) =
    YieldsList-from_slice_split _ (λ b. eqb b 10) ended c.split-lines.ensures.rest c.split-lines.ensures.done c.split-lines.ensures.closure (λ x b q k. search (rules, tests)) in
    rw c.unwrap_or.ensures (begun _ _ _ c.next.result c.unwrap_or-ended.result (parts ended) (run places c.args.input.now) lines held c.next.ensures.steps)

pub returns-in_default : goal.returns-in_default
returns-in_default c =
    let b = first (goal.at.returns-in_default c).After-unwrap_or in
    ap (λ (x : Result FileStorage Stop). run_in x c.args.to.now)
    (c.stopped_by.ensures ∙ ap (λ (r : Result FileStorage Refusal). stopped_by r 1) c.in_default.is)
    ∙ first_stops c.args.input.now c.unwrap_or.result.now b.others b.run-is _ (sym c.open_line-answer.ensures ∙ ap outcome c.in_default.is)

pub loop-text-init : goal.loop-text-init
loop-text-init c =
    let b = first (goal.at.loop-text-init c).After-unwrap_or in
    let o = first_opened c.args.input.now c.unwrap_or.result.now b.others b.run-is c.args.to.now c.in-Ok.fs (sym c.open_line-answer.ensures ∙ ap outcome c.in-Ok.is) in
    record {
      left = b.others;
      yields = rw c.into_iter-text-iterator.ensures.into_iter_gives b.yields;
      after_line = omega (arith, b.few);
      placed = search rules;
      sound = o.0;
      unindexed = o.1;
      rest = o.2;
    }

pub overflow_add-line : goal.overflow_add-line
overflow_add-line c = omega (arith, lines-few _ _ _ _ _ c.loop-text.invariant _ _ c.next-in-loop-text.ensures.steps c.in-Some.text c.in-Some.is)

pub returns-in_default-answer : goal.returns-in_default-answer
returns-in_default-answer c =
    ap (λ (x : Result FileStorage Stop). run_in x c.add_line-answer.new.to)
    (c.stopped_by-in_default-answer.ensures ∙ ap (λ (a : Result FileStorage Refusal). stopped_by a (c.loop-text.line + 1)) c.in_default-answer.is)
    ∙ run-stops _ _ _ _ _ c.loop-text.invariant _ _ c.next-in-loop-text.ensures.steps c.in-Some.text c.in-Some.is _ c.add_line-answer.ensures.changed _ (ap outcome c.in_default-answer.is)

pub loop-text-preserved : goal.loop-text-preserved
loop-text-preserved c =
    let step = c.add_line-answer.ensures in
    run-goes _ _ _ _ _ c.loop-text.invariant _ _ c.next-in-loop-text.ensures.steps c.in-Some.text c.in-Some.is _ step.changed _ (ap outcome c.in-Ok-answer.is) step.placed

pub returns : goal.returns
returns c =
    let l = c.loop-text in
    ap (λ (x : Result FileStorage Stop). run_in x l.to) c.counted_by.ensures
    ∙ counted_is l.fs l.to l.line
    ∙ run_ends _ _ _ _ _ l.invariant _ _ c.next-in-loop-text.ensures.steps c.in-None.is
