-- `storage::add::add_file` meets its contract: a refusal leaves every table, and a plan is written table by table.
use mathlib.Core.Path.{ap, ◌∙◌}
use Rattle.types.specs.Refusals.{Outcome}
use Rattle.types.proofs.Refusals.{exit}
use Rattle.tables.specs.declared.storage.FileStorage.{FileStorage}
use Rattle.tables.specs.Model.{store_of}
use Rattle.change.specs.Changes.{answering}
use Rattle.storage.proofs.Added.{Planned, add-kept, add-few, add-written}
use Rattle.storage.proofs.add.add_file.Goals as goal
use Rattle.storage.proofs.add.add_file.Goals.{In_ok-plan}

-- the plan is that of the set as it is lent, and of the addition
planned : (c : In_ok-plan)
    → Planned (store_of c.args.fs c.args.rows.now c.args.roots.now c.args.firsts.now c.args.dirs.now c.args.text.now)
    c.args.file c.args.filename.now c.args.path.now c.args.symlink_path.now c.in_ok-plan.plan
planned c = record { is = c.in_ok-plan.ensures }

pub returns-in_err-plan : goal.returns-in_err-plan
returns-in_err-plan c =
    ap (λ (o : Outcome FileStorage). answering o (store_of c.args.fs c.args.rows.now c.args.roots.now c.args.firsts.now c.args.dirs.now c.args.text.now)) (exit c.from_residual.result _ c.from_residual.ensures.1)
    ∙ add-kept (store_of c.args.fs c.args.rows.now c.args.roots.now c.args.firsts.now c.args.dirs.now c.args.text.now)
    c.args.file c.args.filename.now c.args.path.now c.args.symlink_path.now c.in_err-plan.field-0.0 c.in_err-plan.ensures

pub write_all-requires : goal.write_all-requires
write_all-requires c = add-few (planned (goal.at.write_all-requires c).In_ok-plan)

pub write_firsts-requires : goal.write_firsts-requires
write_firsts-requires c = add-few (planned (goal.at.write_firsts-requires c).In_ok-plan)

pub returns : goal.returns
returns c =
    rw (c.write_all.ensures.rows_after, c.write_all.ensures.roots_after, c.write_firsts.ensures, c.write_all.ensures.dirs_after, c.write_all.ensures.text_after, c.given_name.ensures)
    (add-written (planned (goal.at.returns c).In_ok-plan))
