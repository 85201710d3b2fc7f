-- `plan::plan::plan_add` meets its contract: the tests stop, the tables do not hold the set or lack places, or the plan is
-- that of the model.
use Rattle.std.proofs.Common.{◌≡◌, sym, ◌∙◌, w64, rules}
use mir.Val.{SFits}
use mir.Facts.{to_z-of_z}
use Rattle.types.specs.Refusals.{value}
use Rattle.types.proofs.Refusals.{exit}
use Rattle.tables.specs.Model.{store_of}
use Rattle.plan.proofs.Plans.{Called, said, plan-stopped, plan-full, plan-whole}
use Rattle.plan.proofs.plan.plan_add.Goals as goal
use Rattle.plan.proofs.plan.plan_add.Goals.{After-parts_of, In_ok-sizes}

-- the set that is lent, and the addition with the parts of its path
called : (c : After-parts_of)
    → Called (store_of c.args.fs c.args.rows.now c.args.roots.now c.args.firsts.now c.args.dirs.now c.args.text.now)
    c.args.file c.args.filename.now c.args.path.now c.args.symlink_path.now c.parts_of.result
called c = record { parts-are = c.parts_of.ensures }

pub returns-in_err-sizes : goal.returns-in_err-sizes
returns-in_err-sizes c =
    let f : SFits w64 c.args.file.size = search rules in
    exit _ _ c.from_residual.ensures.1
    ∙ plan-stopped (called (goal.at.returns-in_err-sizes c).After-parts_of) _
    (rw (to_z-of_z f, c.given_name.ensures, c.facts_of-facts.ensures) at c.in_err-sizes.ensures)

-- the same once the sizes are decided
passed : (c : In_ok-sizes)
    → Called (store_of c.args.fs c.args.rows.now c.args.roots.now c.args.firsts.now c.args.dirs.now c.args.text.now)
    c.args.file c.args.filename.now c.args.path.now c.args.symlink_path.now c.parts_of.result
passed c = record { parts-are = c.parts_of.ensures }

-- the sizes are those by the addition's name and root
decided : (c : In_ok-sizes) → value c.in_ok-sizes.sizes ≡ said (passed c)
decided c =
    let f : SFits w64 c.args.file.size = search rules in
    rw (to_z-of_z f, c.given_name.ensures, c.facts_of-facts.ensures) at c.in_ok-sizes.ensures

pub returns-then-is_full : goal.returns-then-is_full
returns-then-is_full c =
    let ok = (goal.at.returns-then-is_full c).In_ok-sizes in
    plan-full (passed ok) (decided ok) (sym (rw c.of-rooms.ensures at c.is_full.ensures) ∙ c.if-is_full.true)

pub returns : goal.returns
returns c =
    let ok = (goal.at.returns c).In_ok-sizes in
    (rw (c.of-rooms.ensures, c.facts_of-facts.ensures, c.lengths_of.ensures, c.given_name.ensures, c.directory.ensures) at c.plan_dirs.ensures)
    ∙ plan-whole (passed ok) (decided ok) (sym (rw c.of-rooms.ensures at c.is_full.ensures) ∙ c.if-is_full.false)
