-- `imports::merge::give` meets its contract.
use mathlib.Core.Path.{◌≡◌, ap, ◌∙◌}
use mathlib.Core.List.{List}
use native.Mathlib.Omega.{arith}
use lib.ListN.{length}
use lib.Seq.{sets}
use Rattle.renames.specs.declared.rename.RenamedFiles.{RenamedFiles}
use Rattle.renames.specs.Renames.{Renamed, renames_of, texts_of}
use Rattle.renames.proofs.Used.{renames_in_use}
use Rattle.imports.specs.private.Importing.{renames_kept}
use Rattle.imports.specs.private.Listed.{named_in, given_in}
use Rattle.imports.proofs.Keeping.{count_in_use, moved-front}
use Rattle.imports.proofs.Raising.{merge-ready, merge-done}
use Rattle.imports.proofs.merge.give.Goals as goal
use Rattle.imports.proofs.merge.give.Goals.{After-keep_texts}

-- the texts that are kept are those of the entries in use
kept-texts : (c : After-keep_texts) → c.keep_texts.new.text
    ≡ sets c.args.text.now 0 (texts_of (renames_kept (named_in c.args.list) (renames_of c.args.renames c.args.entries.now c.args.text.now)))
kept-texts c =
    c.keep_texts.ensures
    ∙ ap (λ (rs : List Renamed). sets c.args.text.now 0 (texts_of (renames_kept (named_in c.args.list) rs)))
    (renames_in_use c.args.renames.num_renames c.args.entries.now c.requires.0 c.args.text.now)

pub keep_entries-requires : goal.keep_entries-requires
keep_entries-requires c =
    let a = c.args in
    let k = count_in_use (named_in a.list) a.renames.num_renames a.entries.now c.requires.0 in
    let s = ap (λ (r : RenamedFiles). r.text_len) c.requires.3 in
    omega (arith, k.1, s, c.requires.5)

pub merge-requires : goal.merge-requires
merge-requires c = rw c.total-total.ensures (
    merge-ready (named_in c.args.list) (given_in c.args.list) (length c.args.list.notes.now) c.args.renames c.args.counted.stay c.args.counted.come c.args.entries.now c.args.text.now
    c.requires.0 c.requires.1 c.requires.2 c.requires.3 c.requires.4 c.requires.5 _ _ (moved-front (named_in c.args.list) c.args.renames.num_renames c.args.counted.come.text_len c.args.entries.now _ c.requires.0 c.keep_entries.ensures)
    (kept-texts (goal.at.merge-requires c).After-keep_texts)
    _ _ c.copy_within-2.ensures.after c.copy_within.ensures.after c.requires.6 c.requires.7)

pub returns : goal.returns
returns c =
    let whole = merge-done (named_in c.args.list) (given_in c.args.list) (length c.args.list.notes.now) c.args.renames c.args.counted.stay c.args.counted.come c.args.entries.now c.args.text.now
    c.requires.0 c.requires.1 c.requires.2 c.requires.3 c.requires.4 c.requires.5 _ _ (moved-front (named_in c.args.list) c.args.renames.num_renames c.args.counted.come.text_len c.args.entries.now _ c.requires.0 c.keep_entries.ensures)
    (kept-texts (goal.at.returns c).After-keep_texts)
    _ _ c.copy_within-2.ensures.after c.copy_within.ensures.after c.requires.6 c.requires.7 _ _ (rw c.total-total.ensures at c.merge.ensures.entries_after) (rw c.total-total.ensures at c.merge.ensures.text_after) in
    record { entries_after = rw c.total-total.ensures whole.0; text_after = whole.1 }
