-- The addition's own promise, at the record and the presences that were read.
use Rattle.types.specs.Refusals.{outcome}
use mathlib.Core.Bool.{Bool, true, false, cond, not}
use lib.Dec.{eqb}
use Rattle.std.proofs.Common.{◌≡◌, ◌∙◌, refl, ap, ℤ, w64, to_z, of_z, to_z-of_z}
use Rattle.tables.specs.declared.rows.Presence.{Presence}
use Rattle.tables.specs.declared.storage.FileStorage.{FileStorage}
use Rattle.tables.specs.declared.rows.Presence.TheVariants.{Absent, Present}
use Rattle.tables.specs.Entry.{presence_if}
use Rattle.tables.specs.Model.{store_of}
use Rattle.change.specs.Changes.{Changed, changed_of}
use Rattle.additions.specs.Addition.{optional_of}
use Rattle.plan.specs.Outcomes.{add_stored}
use Rattle.exports.specs.State.{storage_of, presence_of}
use Rattle.exports.proofs.Exported.{answered}
use Rattle.exports.proofs.niflathen_add_file.Goals as goal

-- the presence that a number other than 0 tells
is-present : (b : Bool) → presence_if (not b) ≡ cond b Absent Present
is-present true = refl
is-present false = refl

pub returns : goal.returns
returns c =
    let added : FileStorage → Presence → Presence → ℤ → ℤ → Changed =
    λ fs given rooted size time. add_stored
    (store_of fs c.args.rows.now c.args.roots.now c.args.firsts.now c.args.dirs.now c.args.text.now)
    (record {
      given = optional_of given c.args.filename.now;
      path = c.args.path.now;
      size = size;
      flags = c.args.file_flags;
      time = time;
      link = c.args.symlink_path.now;
      root = optional_of rooted c.args.root.now;
    }) in
    let fs = storage_of c.args.state.now in
    let given = presence_of c.args.given in
    let rooted = presence_of c.args.rooted in
    let size = to_z w64 (of_z w64 c.args.file_size) in
    let time = to_z w64 (of_z w64 c.args.mtime) in
    let made : changed_of (outcome c.add_file-answer.result) c.add_file-answer.new.rows c.add_file-answer.new.roots c.add_file-answer.new.firsts c.add_file-answer.new.dirs c.add_file-answer.new.text
    ≡ added fs given rooted c.args.file_size c.args.mtime =
    c.add_file-answer.ensures
    ∙ ap (λ (x : FileStorage). added x c.from.result c.from-2.result size time) c.storage_at.ensures
    ∙ ap (λ (x : Presence). added fs x c.from-2.result size time) (c.from.ensures ∙ is-present (eqb c.args.given 0))
    ∙ ap (λ (x : Presence). added fs given x size time) (c.from-2.ensures ∙ is-present (eqb c.args.rooted 0))
    ∙ ap (λ (x : ℤ). added fs given rooted x time) (to_z-of_z c.ranges.file_size)
    ∙ ap (λ (x : ℤ). added fs given rooted c.args.file_size x) (to_z-of_z c.ranges.mtime) in
    answered c.args.state.now made c.put_answer.ensures.value c.put_answer.ensures.state_after
