-- The cleaning's own promise, at the record that was read.
use Rattle.std.proofs.Common.{◌∙◌, ap}
use Rattle.tables.specs.declared.storage.FileStorage.{FileStorage}
use Rattle.lookup.specs.Lookup.{lent}
use Rattle.cleaning.specs.Cleaning.{Cleaned, clean_stored}
use Rattle.exports.proofs.Exported.{cleaned}
use Rattle.exports.proofs.cleanings.niflathen_sanitize_symlinks.Goals as goal

pub returns : goal.returns
returns c =
    let made : FileStorage → Cleaned =
    λ fs. clean_stored
    (lent fs c.args.rows.now c.args.dirs.now c.args.text.now)
    c.args.marks.now
    c.args.scratch.now
    c.args.walk_path.now in
    cleaned c.args.state.now (c.sanitize_symlinks-answer.ensures ∙ ap made c.storage_at.ensures) c.put_answer.ensures.value c.put_answer.ensures.state_after
