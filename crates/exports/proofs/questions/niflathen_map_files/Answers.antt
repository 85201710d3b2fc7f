-- The list's own promise, at the record that was read.
use Rattle.std.proofs.Common.{◌≡◌, ◌∙◌, ap, ℤ, w64, to_z-of_z}
use mir.Val.{SFits}
use borrow.Author.Rules.{rules}
use Rattle.types.specs.Refusals.{outcome}
use Rattle.tables.specs.declared.storage.FileStorage.{FileStorage}
use Rattle.files.specs.List.{AnswersListed, files_mapped}
use Rattle.exports.specs.State.{storage_of}
use Rattle.exports.specs.Layout.{ListReturned, list_returned, count_returned}
use Rattle.exports.proofs.questions.niflathen_map_files.Goals as goal

-- where the list's outcome is known, so is what is returned
said : (z : ℤ) (made known : AnswersListed) → made ≡ known → z ≡ count_returned made.says → ◌≡◌ {A = ListReturned} (record { answer = z; answers = made.answers }) (list_returned known)
said z made known e p = rw (p, e)

pub returns : goal.returns
returns c =
    let r : SFits w64 c.count_returned.result = search rules in
    let listed : FileStorage → AnswersListed =
    λ fs. files_mapped fs c.args.rows.now c.args.files.now c.args.offsets.now c.args.sizes.now c.args.answers.now in
    said
    _
    (record { says = outcome c.map_files.result; answers = c.map_files.new.answers })
    (listed (storage_of c.args.state.now))
    (c.map_files.ensures ∙ ap listed c.storage_at.ensures)
    (to_z-of_z r ∙ c.count_returned.ensures)
