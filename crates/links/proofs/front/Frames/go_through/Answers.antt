-- `links::front::Frames::go_through` meets its contract.
use Prim.Native.Nat.{ℕ, ◌+◌}
use mathlib.Core.Path.{sym, ap, ◌∙◌}
use mathlib.Core.List.{List}
use native.Mathlib.Omega.{arith}
use lib.ListN.{drop}
use Rattle.path.specs.Join.{is_alone, combined}
use Rattle.rope.specs.Rope.{texts_of, text_of, flat}
use Rattle.links.proofs.Fronts.{combined-text, flat-alone, flat-through}
use Rattle.links.proofs.front.Frames.go_through.Goals as goal

pub returns-then-is_path_alone-clause-path_after : goal.returns-then-is_path_alone-clause-path_after
returns-then-is_path_alone-clause-path_after c =
    ap (λ (x : List ℕ). flat (texts_of c.args.lent) x 1) c.put_frame.ensures
    ∙ flat-alone c.args.lent.rows.now c.args.lent.dirs.now c.args.lent.text.now c.drop_front.new.self.words.now c.args.lead (omega (arith, c.drop_front.new.self.room))
    ∙ combined-text (text_of c.args.lent c.args.lead) (drop (c.args.e + 1) (flat (texts_of c.args.lent) c.args.self.now.words.now c.args.self.now.depth))
    (sym c.is_lead_alone.ensures ∙ c.if-is_lead_alone.false)
    (sym (ap is_alone c.drop_front.ensures.path_after) ∙ sym (rw (c.path.ensures.lent, c.path.ensures.frames, c.path.ensures.depth) at c.is_path_alone.ensures) ∙ c.if-is_path_alone.true)

pub returns-clause-path_after : goal.returns-clause-path_after
returns-clause-path_after c =
    let rest-stands = rw (c.path.ensures.lent, c.path.ensures.frames, c.path.ensures.depth) at c.is_path_alone.ensures in
    ap (λ (x : List ℕ). flat (texts_of c.args.lent) x (c.drop_front.new.self.depth + 1)) c.put_frame-2.ensures
    ∙ flat-through c.args.lent.rows.now c.args.lent.dirs.now c.args.lent.text.now c.drop_front.new.self.words.now c.args.lead c.drop_front.new.self.depth c.needs_separator.result
    (omega (arith, c.drop_front.ensures.upper_bound, c.requires, c.drop_front.new.self.room))
    c.needs_separator.ensures
    (sym c.is_lead_alone.ensures ∙ c.if-is_lead_alone.false)
    (sym rest-stands ∙ c.if-is_path_alone.false)
    ∙ ap (combined (text_of c.args.lent c.args.lead)) c.drop_front.ensures.path_after
