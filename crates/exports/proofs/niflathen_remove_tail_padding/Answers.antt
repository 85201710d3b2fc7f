-- The trim's own promise, at the record that was read.
use Rattle.std.proofs.Common.{◌∙◌, ap}
use Rattle.tables.specs.declared.storage.FileStorage.{FileStorage}
use Rattle.change.specs.Changes.{Changed}
use Rattle.trim.specs.Removal.{trim_stored}
use Rattle.exports.proofs.Exported.{answered}
use Rattle.exports.proofs.niflathen_remove_tail_padding.Goals as goal

pub returns : goal.returns
returns c firsts =
    let trimmed : FileStorage → Changed =
    λ fs. trim_stored
    (record {
      fs = fs;
      rows = c.args.rows.now;
      roots = c.args.roots.now;
      firsts = firsts;
      dirs = c.args.dirs.now;
      text = c.args.text.now;
    }) in
    answered c.args.state.now (c.remove_tail_padding-answer.ensures firsts ∙ ap trimmed c.storage_at.ensures) c.put_answer.ensures.value c.put_answer.ensures.state_after
