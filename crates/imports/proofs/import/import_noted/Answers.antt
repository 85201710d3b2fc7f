-- `imports::import::import_noted` meets its contract: the cells that are lent are zeros, one for each file.
use mathlib.Core.Path.{ap, ◌∙◌}
use Rattle.std.proofs.Common.{rules}
use Rattle.imports.specs.private.Merging.{noted_from, placed_from}
use Rattle.imports.proofs.Noting.{lent_notes, lent_zeros}
use Rattle.imports.proofs.Importing.{import-files, import-ready, import-changed, import-refused}
use Rattle.imports.proofs.import.import_noted.Goals as goal

pub decide-requires : goal.decide-requires
decide-requires o c = lent_notes o.row.FILES _ c.args.list.numbers.now _ c.requires.0 (search rules) c.min-files.ensures

pub give-requires : goal.give-requires
give-requires o c =
    let f = import-files c.args.fs c.args.renames c.args.rename_entries.now c.args.rename_text.now c.args.list.numbers.now c.args.list.lengths.now c.args.list.names.now c.in_ok-counted.counted (rw c.new-held.ensures at c.in_ok-counted.ensures) in
    let z = lent_zeros o.row.FILES c.requires.0 c.min-files.ensures f in
    import-ready c.args.fs c.args.renames c.args.rename_entries.now c.args.rename_text.now c.args.list.numbers.now c.args.list.lengths.now c.args.list.names.now
    c.in_ok-counted.counted (rw c.new-held.ensures at c.in_ok-counted.ensures) _ _ (c.note_last.ensures ∙ ap (noted_from 0 c.args.list.numbers.now) z) (c.note_places.ensures ∙ ap (placed_from 0 c.args.list.numbers.now c.args.list.lengths.now) z)

pub returns : goal.returns
returns o c =
    let f = import-files c.args.fs c.args.renames c.args.rename_entries.now c.args.rename_text.now c.args.list.numbers.now c.args.list.lengths.now c.args.list.names.now c.in_ok-counted.counted (rw c.new-held.ensures at c.in_ok-counted.ensures) in
    let z = lent_zeros o.row.FILES c.requires.0 c.min-files.ensures f in
    rw c.total.ensures (import-changed c.args.fs c.args.renames c.args.rename_entries.now c.args.rename_text.now c.args.list.numbers.now c.args.list.lengths.now c.args.list.names.now
    c.in_ok-counted.counted (rw c.new-held.ensures at c.in_ok-counted.ensures) _ _ (c.note_last.ensures ∙ ap (noted_from 0 c.args.list.numbers.now) z) (c.note_places.ensures ∙ ap (placed_from 0 c.args.list.numbers.now c.args.list.lengths.now) z) _ _ c.give.ensures.entries_after c.give.ensures.text_after)

pub returns-in_err-counted : goal.returns-in_err-counted
returns-in_err-counted o c =
    import-refused c.args.fs c.args.renames c.args.rename_entries.now c.args.rename_text.now c.args.list.numbers.now c.args.list.lengths.now c.args.list.names.now
    _ _ c.from_residual.ensures.1 (rw c.new-held.ensures at c.in_err-counted.ensures)
