-- `links::front::Frames::drop_front` meets its contract: where the bytes end that are dropped, the frame there begins then.
use Prim.Native.Nat.{ℕ, ◌+◌, ◌-◌}
use mathlib.Core.Path.{sym, ap, ◌∙◌}
use mathlib.Core.List.{List}
use native.Mathlib.Omega.{arith}
use lib.ListN.{drop}
use lib.Seq.{drop-nil}
use Rattle.rope.specs.Rope.{texts_of, flat}
use Rattle.rope.proofs.Flat.{flat_none}
use Rattle.links.specs.private.Walking.{with_start}
use Rattle.links.proofs.Fronts.{flat-moved}
use Rattle.links.proofs.front.Frames.drop_front.Goals as goal
use Rattle.links.proofs.front.Frames.drop_front.Goals.{then-p-gt0, else-p-gt0}

pub returns-clause-path_after : goal.returns-clause-path_after
returns-clause-path_after c =
    let words = c.args.self.now.words.now in
    let t = texts_of c.args.lent in
    let k = c.seek-p.result.k in
    let left = rw (c.path-path.ensures.lent, c.path-path.ensures.frames, c.path-path.ensures.depth) at c.seek-p.ensures.k_value in
    elim c.if-p-gt0.branch [
      | then-p-gt0 w ↦
          ap (λ s. flat t s.1.0.now k) w.self-is
          ∙ ap (λ (f : List ℕ). flat t f k)
          (w.put_start.ensures ∙ ap (λ (n : ℕ). with_start words (k - 1) (n + c.seek-p.result.at)) (rw c.path-path.ensures.frames at w.start_in-from.ensures))
          ∙ flat-moved t words k c.seek-p.result.at w.if-p-gt0.true
          (omega (arith, c.seek-p.ensures.k_le_depth.0, c.path-path.ensures.depth, c.args.self.now.room))
          ((rw (c.path-path.ensures.lent, c.path-path.ensures.frames) at c.seek-p.ensures.in_frame).there w.if-p-gt0.true)
          ∙ left
      | else-p-gt0 w ↦
          let none-left = flat_none t words k (omega (arith, w.if-p-gt0.false)) in
          ap (λ s. flat t s.1.0.now k) w.self-is ∙ none-left ∙ sym (drop-nil c.seek-p.result.at) ∙ ap (drop c.seek-p.result.at) (sym none-left) ∙ left
    ]
