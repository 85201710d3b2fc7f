-- `links::resolve::resolve` meets its contract. The outer loop keeps `Walking`: the walk from here has the answer of the whole walk,
-- the texts of all open links still fit, there is a frame for each, and the marks are the same but for uses. The loop over
-- directories keeps: one from d on covers the front just where one of all does. The loop over links keeps: what is left of the scan
-- finds the same link.
use Prim.Native.Nat.{ℕ, ◌<◌, ◌≤◌}
use mathlib.Core.Path.{◌≡◌, refl, sym, ap, subst, ◌∙◌}
use mathlib.Core.Bool.{Bool, true, false}
use mathlib.Core.List.{map}
use native.Mathlib.Omega.{arith}
use borrow.Author.Tests.{ltb-true, ltb-false}
use lib.ListN.{length, take}
use Rattle.std.specs.Prelude.{Option, Some, None, IfSome}
use Rattle.std.proofs.Common.{rules}
use Rattle.std.specs.Option.{unwrap_or}
use Rattle.tables.specs.Model.{directory_text}
use Rattle.lookup.specs.Lookup.{covers, entries_of}
use Rattle.lookup.proofs.Rows.{directories-start, directories-turn}
use Rattle.links.specs.private.Walking.{lead, path_of, set_of, front_of}
use Rattle.links.proofs.Passing.{left_all, at_link, past_link, at_end}
use Rattle.links.proofs.Scans.{scan-start, scan-past}
use Rattle.links.proofs.Events.{Met, no-dir, is-dir, link-past}
use Rattle.links.proofs.Turning.{Traversed, Over, answer_of, text-led, left_end, left_dir, left_link, walking_start, walking-end, walking-dir, walking-link, walking-less, frame-free, end_low, path-low}
use Rattle.links.proofs.resolve.resolve.Goals as goal
use Rattle.links.proofs.resolve.resolve.Goals.{In-walk, After-has_byte-2, After-is_covered, After-lead_mark, After-go_through, else-walk-test, then-walk-test+then-loop-d-test+then-is_covered+then-next-e, then-walk-test+else-loop-d-test+in-None}

-- at each turn of the walk a byte is left
inside : (c : In-walk) → c.walk.e < length (path_of (set_of c.args.the_set) c.walk.stack.words.now c.walk.stack.depth)
inside c = ltb-true _ _ (sym (rw (c.path-in-walk.ensures.lent, c.path-in-walk.ensures.frames, c.path-in-walk.ensures.depth) at c.has_byte.ensures) ∙ c.walk-test.true)

-- what a directory says of the front
covered : (c : After-is_covered) (b : Bool) → c.is_covered.result ≡ b → covers (directory_text (set_of c.args.the_set) c.loop-d.d) (take c.walk.e
    (path_of (set_of c.args.the_set) c.walk.stack.words.now c.walk.stack.depth)) ≡ b
covered c b h = rw (c.new-front.ensures.path, c.new-front.ensures.end, c.path-path.ensures.lent, c.path-path.ensures.frames, c.path-path.ensures.depth) at (sym c.is_covered.ensures ∙ h)

-- the link at which the scan is, with lead m or none
met : (c : After-lead_mark) (m : ℕ) (r : Option ℕ) → c.lead_mark.result ≡ r → unwrap_or r 0 ≡ m → Met (set_of c.args.the_set) (map lead c.walk.marks)
    (path_of (set_of c.args.the_set) c.walk.stack.words.now c.walk.stack.depth) c.walk.e c.in-Some.i c.in-Some.k m
met c m r q v =
    let s = set_of c.args.the_set in
    let past = scan-past (entries_of s) (map lead c.walk.marks) (front_of c.new-front.result.path c.new-front.result.e) c.loop-k.k-iterator.k in
    record {
      before-end = ltb-true _ _ (sym (rw (c.path-in-walk.ensures.lent, c.path-in-walk.ensures.frames, c.path-in-walk.ensures.depth) at c.has_byte.ensures) ∙ c.walk-test.true);
      no-directory = no-dir (set_of c.args.the_set) (map lead c.walk.marks) (path_of (set_of c.args.the_set) c.walk.stack.words.now c.walk.stack.depth) c.walk.e
          c.loop-d.d (rw (c.path-path.ensures.lent, c.path-path.ensures.frames, c.path-path.ensures.depth) at c.loop-d.invariant.1) c.loop-d-test.false;
      scanned = rw (c.new-front.ensures.path, c.new-front.ensures.end, c.path-path.ensures.lent, c.path-path.ensures.frames, c.path-path.ensures.depth) at (at_link past c.loop-k.invariant.2 c.in-Some.ensures.steps).1;
      is = sym v ∙ ap (λ (r : Option ℕ). unwrap_or r 0) (sym q) ∙ rw (c.loop-k.invariant.0, c.new-front.ensures.set, c.new-front.ensures.path, c.new-front.ensures.end, c.path-path.ensures.lent, c.path-path.ensures.frames, c.path-path.ensures.depth) at c.lead_mark.ensures.value;
    }

-- a lead that leads on is 1 or 2
leads : (r : Option ℕ) (m : ℕ) → r ≡ Some m → IfSome r (λ m. (0 < m) × (m ≤ 2)) → (0 < m) × (m ≤ 2)
leads r m q = subst (λ (r : Option ℕ). IfSome r (λ m. (0 < m) × (m ≤ 2))) q

-- the link that leads on
taken : (c : After-lead_mark) (m : ℕ) → c.lead_mark.result ≡ Some m → Met (set_of c.args.the_set) (map lead c.walk.marks)
    (path_of (set_of c.args.the_set) c.walk.stack.words.now c.walk.stack.depth) c.walk.e c.in-Some.i c.in-Some.k m
taken c m q = met c m (Some m) q refl

leads_on : (c : After-lead_mark) (m : ℕ) → c.lead_mark.result ≡ Some m → m ≡ 0 → ⊥
leads_on c m q z = omega (arith, z, (leads _ m q c.lead_mark.ensures.result_bound).0)

-- what is left once it is gone through
gone : (c : After-go_through) → Traversed (set_of c.args.the_set) c.walk.marks c.walk.stack.words.now c.walk.stack.depth c.walk.e c.put_lead.new.marks
    c.go_through.new.self.words.now c.go_through.new.self.depth c.in-Some.i c.in-Some.k c.in-Some-lead_mark.m
gone c =
    let by-lead = text-led (set_of c.args.the_set) c.in-Some.i c.in-Some-lead_mark.m (leads _ _ c.in-Some-lead_mark.is c.lead_mark.ensures.result_bound).1 in
    record {
      path-is = rw (c.loop-k.invariant.1, c.new-front.ensures.end, by-lead) at c.go_through.ensures.path_after;
      one_more = c.go_through.ensures.upper_bound;
      leads-are = rw c.loop-k.invariant.0 at c.put_lead.ensures.marks_after;
      verdicts-kept = rw c.loop-k.invariant.0 at c.put_lead.ensures.marks_unchanged;
      marks-long = rw c.loop-k.invariant.0 at c.put_lead.auto.marks;
    }

-- the walk's end
over : (c : After-has_byte-2) → Over (set_of c.args.the_set) c.args.marks.now
    (answer_of (set_of c.args.the_set) c.args.marks.now c.args.frames.now) c.walk-test.marks c.walk.stack.words.now c.walk.stack.depth c.walk-test.e
over c =
    elim c.walk-test.branch [
      | else-walk-test w ↦
          left_end c.walk.invariant.1 w.marks-is refl refl w.e-is
          (ltb-false _ _ (sym (rw (c.path-in-walk.ensures.lent, c.path-in-walk.ensures.frames, c.path-in-walk.ensures.depth) at c.has_byte.ensures) ∙ w.walk-test.false))
      | then-walk-test+then-loop-d-test+then-is_covered+then-next-e w ↦
          left_dir c.walk.invariant.1 w.marks-is refl refl (w.e-is ∙ w.loop-d.invariant.0)
          w.loop-d.d w.cut_in-next.result (rw (w.path-path.ensures.lent, w.path-path.ensures.frames, w.path-path.ensures.depth) at w.loop-d.invariant.1) w.loop-d-test.true
          (rw (w.new-front.ensures.path, w.new-front.ensures.end, w.path-path.ensures.lent, w.path-path.ensures.frames, w.path-path.ensures.depth) at (sym w.is_covered.ensures ∙ w.if-is_covered.true))
          (rw (w.path-path.ensures.lent, w.path-path.ensures.frames, w.path-path.ensures.depth, w.loop-d.invariant.0) at w.cut_in-next.ensures) (omega (arith, w.loop-d.invariant.0, w.if-next-e.true))
      | then-walk-test+else-loop-d-test+in-None w ↦
          left_link c.walk.invariant.1 (w.marks-is ∙ w.loop-k.invariant.0) refl refl (w.e-is ∙ w.loop-k.invariant.1 ∙ w.new-front.ensures.end)
          w.loop-d.d w.loop-k.k-iterator.k (rw (w.path-path.ensures.lent, w.path-path.ensures.frames, w.path-path.ensures.depth) at w.loop-d.invariant.1) w.loop-d-test.false
          (rw (w.new-front.ensures.path, w.new-front.ensures.end, w.path-path.ensures.lent, w.path-path.ensures.frames, w.path-path.ensures.depth) at (at_end (scan-past (entries_of (set_of c.args.the_set)) (map lead c.walk.marks) (front_of w.new-front.result.path w.new-front.result.e) w.loop-k.k-iterator.k) w.loop-k.invariant.2 w.in-None.ensures.steps))
    ]

pub walk-init : goal.walk-init
walk-init c = (
  refl,
  walking_start (set_of c.args.the_set) c.args.marks.now c.args.frames.now c.cut_in-e.result c.requires
      (rw (c.path.ensures.lent, c.path.ensures.frames, c.path.ensures.depth) at c.cut_in-e.ensures),
)

pub loop-d-init : goal.loop-d-init
loop-d-init c = (refl, rw (directories-start (set_of c.args.the_set) c.args.the_set.fs.num_paths refl))

pub cut_in-next-requires : goal.cut_in-next-requires
cut_in-next-requires c = rw (c.path-path.ensures.lent, c.path-path.ensures.frames, c.path-path.ensures.depth) (
  omega (arith, inside (goal.at.cut_in-next-requires c).In-walk, c.loop-d.invariant.0),
  omega (arith, c.walk.invariant.1.fits),
)

pub walk-preserved-then-is_covered : goal.walk-preserved-then-is_covered
walk-preserved-then-is_covered c = (
  search rules,
  walking-dir c.walk.invariant.1 c.cut_in-next.result (inside (goal.at.walk-preserved-then-is_covered c).In-walk)
      (is-dir (set_of c.args.the_set) (map lead c.walk.marks) (path_of (set_of c.args.the_set) c.walk.stack.words.now c.walk.stack.depth) c.walk.e c.loop-d.d
      (rw (c.path-path.ensures.lent, c.path-path.ensures.frames, c.path-path.ensures.depth) at c.loop-d.invariant.1) c.loop-d-test.true
      (covered (goal.at.walk-preserved-then-is_covered c).After-is_covered true c.if-is_covered.true))
      (rw (c.path-path.ensures.lent, c.path-path.ensures.frames, c.path-path.ensures.depth, c.loop-d.invariant.0) at c.cut_in-next.ensures) (omega (arith, c.loop-d.invariant.0, c.if-next-e.false)),
)

pub loop-d-preserved : goal.loop-d-preserved
loop-d-preserved c = (
  c.loop-d.invariant.0,
  rw (c.path-path.ensures.lent, c.path-path.ensures.frames, c.path-path.ensures.depth) (directories-turn (set_of c.args.the_set) (take c.walk.e (path_of (set_of c.args.the_set) c.walk.stack.words.now c.walk.stack.depth))
      c.args.the_set.fs.num_paths c.loop-d.d c.loop-d-test.true (covered (goal.at.loop-d-preserved c).After-is_covered false c.if-is_covered.false)
      ∙ rw (c.path-path.ensures.lent, c.path-path.ensures.frames, c.path-path.ensures.depth) at c.loop-d.invariant.1),
)

pub loop-k-init : goal.loop-k-init
loop-k-init c = (
  refl,
  c.loop-d.invariant.0 ∙ sym c.new-front.ensures.end,
  left_all c.args.the_set.lent.rows (c.into_iter-k-iterator.ensures.into_iter_gives ∙ c.all-k-items.ensures) refl (scan-start (entries_of (set_of c.args.the_set)) (map lead c.walk.marks) _),
)

pub lead_mark-requires : goal.lead_mark-requires
lead_mark-requires c =
    let past = scan-past (entries_of (set_of c.args.the_set)) (map lead c.walk.marks) (front_of c.new-front.result.path c.new-front.result.e) c.loop-k.k-iterator.k in (
      omega (arith, c.in-Some.ensures.steps.file, c.loop-k.invariant.2.files, ap (λ f. f.num_files) c.new-front.ensures.set),
      search rules,
      rw (c.new-front.ensures.path, c.path-path.ensures.lent) (at_link past c.loop-k.invariant.2 c.in-Some.ensures.steps).0,
    )

pub go_through-requires : goal.go_through-requires
go_through-requires c =
    let at = taken (goal.at.go_through-requires c).After-lead_mark c.in-Some-lead_mark.m c.in-Some-lead_mark.is in
    let led = leads_on (goal.at.go_through-requires c).After-lead_mark c.in-Some-lead_mark.m c.in-Some-lead_mark.is in (
      frame-free c.walk.invariant.1 at led,
      omega (arith, end_low c.walk.invariant.1 at led, c.loop-k.invariant.1, c.new-front.ensures.end),
      omega (arith, (leads _ _ c.in-Some-lead_mark.is c.lead_mark.ensures.result_bound).1, c.in-Some.ensures.steps.file, c.loop-k.invariant.2.files, c.requires.few),
    )

pub cut_in-e-requires-in-Some-lead_mark : goal.cut_in-e-requires-in-Some-lead_mark
cut_in-e-requires-in-Some-lead_mark c =
    rw (c.path-in-Some-lead_mark.ensures.lent, c.path-in-Some-lead_mark.ensures.frames, c.path-in-Some-lead_mark.ensures.depth) (
      omega arith,
      path-low c.walk.invariant.1 (taken (goal.at.cut_in-e-requires-in-Some-lead_mark c).After-lead_mark c.in-Some-lead_mark.m c.in-Some-lead_mark.is)
          (leads_on (goal.at.cut_in-e-requires-in-Some-lead_mark c).After-lead_mark c.in-Some-lead_mark.m c.in-Some-lead_mark.is) (gone (goal.at.cut_in-e-requires-in-Some-lead_mark c).After-go_through),
    )

pub walk-smaller : goal.walk-smaller
walk-smaller c =
    walking-less c.walk.invariant.1 (taken (goal.at.walk-smaller c).After-lead_mark c.in-Some-lead_mark.m c.in-Some-lead_mark.is) (leads_on (goal.at.walk-smaller c).After-lead_mark c.in-Some-lead_mark.m c.in-Some-lead_mark.is)
    (gone (goal.at.walk-smaller c).After-go_through) c.cut_in-e-in-Some-lead_mark.result
    (rw (c.path-in-Some-lead_mark.ensures.lent, c.path-in-Some-lead_mark.ensures.frames, c.path-in-Some-lead_mark.ensures.depth) at c.cut_in-e-in-Some-lead_mark.ensures)

pub walk-preserved : goal.walk-preserved
walk-preserved c = (
  search rules,
  walking-link c.walk.invariant.1 (taken (goal.at.walk-preserved c).After-lead_mark c.in-Some-lead_mark.m c.in-Some-lead_mark.is) (leads_on (goal.at.walk-preserved c).After-lead_mark c.in-Some-lead_mark.m c.in-Some-lead_mark.is)
      (gone (goal.at.walk-preserved c).After-go_through) c.cut_in-e-in-Some-lead_mark.result
      (rw (c.path-in-Some-lead_mark.ensures.lent, c.path-in-Some-lead_mark.ensures.frames, c.path-in-Some-lead_mark.ensures.depth) at c.cut_in-e-in-Some-lead_mark.ensures),
)

pub loop-k-preserved : goal.loop-k-preserved
loop-k-preserved c = (
  c.loop-k.invariant.0,
  c.loop-k.invariant.1,
  rw (c.new-front.ensures.path, c.new-front.ensures.end, c.path-path.ensures.lent, c.path-path.ensures.frames, c.path-path.ensures.depth) (past_link (scan-past (entries_of (set_of c.args.the_set)) (map lead c.walk.marks) (take c.walk.e (path_of (set_of c.args.the_set) c.walk.stack.words.now c.walk.stack.depth)) c.loop-k.k-iterator.k)
      (rw (c.new-front.ensures.path, c.new-front.ensures.end, c.path-path.ensures.lent, c.path-path.ensures.frames, c.path-path.ensures.depth) at c.loop-k.invariant.2) c.in-Some.ensures.steps
      (λ fs q e h. rw q (link-past (set_of c.args.the_set) (map lead c.walk.marks) (path_of (set_of c.args.the_set) c.walk.stack.words.now c.walk.stack.depth) c.walk.e c.in-Some.i c.in-Some.k 0
      (met (goal.at.loop-k-preserved c).After-lead_mark 0 None c.in_default.is refl) refl e))),
)

pub returns-then-has_byte : goal.returns-then-has_byte
returns-then-has_byte c =
    let out = over (goal.at.returns-then-has_byte c).After-has_byte-2 in
    record {
      value = out.stopped (ltb-true _ _ (sym (rw (c.path-path-2.ensures.lent, c.path-path-2.ensures.frames, c.path-path-2.ensures.depth) at c.has_byte-2.ensures) ∙ c.if-has_byte.true));
      marks_unchanged = out.walking.marks-fresh;
      marks_unchanged_2 = out.walking.verdicts-kept;
    }

pub new-front-requires-2 : goal.new-front-requires-2
new-front-requires-2 c = rw (c.path-path-2.ensures.lent, c.path-path-2.ensures.frames, c.path-path-2.ensures.depth) (over (goal.at.new-front-requires-2 c).After-has_byte-2).walking.inside

pub returns : goal.returns
returns c =
    let out = over (goal.at.returns c).After-has_byte-2 in
    record {
      value = c.known_in.ensures
          ∙ rw (c.new-front-2.ensures.set, c.new-front-2.ensures.path, c.new-front-2.ensures.end, c.path-path-2.ensures.lent, c.path-path-2.ensures.frames, c.path-path-2.ensures.depth) (walking-end out.walking (ltb-false _ _ (sym (rw (c.path-path-2.ensures.lent, c.path-path-2.ensures.frames, c.path-path-2.ensures.depth) at c.has_byte-2.ensures) ∙ c.if-has_byte.false)));
      marks_unchanged = out.walking.marks-fresh;
      marks_unchanged_2 = out.walking.verdicts-kept;
    }
