-- `renames::change::rename_file` meets its contract.
use Prim.Native.Nat.{ℕ}
use mathlib.Core.Path.{◌≡◌, ap, ◌∙◌}
use mathlib.Core.List.{List}
use lib.Seq.{sets}
use Rattle.renames.specs.declared.rename.RenameMode.{RenameMode}
use Rattle.renames.specs.Renames.{Renamed, state_of, words_of, texts_of, with_rename, renames_of}
use Rattle.renames.proofs.Decisions.{slot-known, slot-changed, slot-refused}
use Rattle.renames.proofs.change.rename_file.Goals as goal

-- the rename that is written is the file's, with the name's mode
same-rename : (i i' : ℕ) (m m' : RenameMode) (name : List ℕ) → i ≡ i' → m ≡ m'
    → ◌≡◌ {A = Renamed} (record { file = i; mode = m; name = name }) (record { file = i'; mode = m'; name = name })
same-rename i i' m m' name p q = rw (p, q)

pub returns-in_err-p : goal.returns-in_err-p
returns-in_err-p c =
    slot-refused c.args.fs c.args.renames c.args.rename_entries.now c.args.rename_text.now c.args.index.0 c.args.new_filename.now
    _ _ c.from_residual.ensures.1 (rw c.new-names.ensures at c.in_err-p.ensures)

pub put_rename-requires : goal.put_rename-requires
put_rename-requires c =
    rw c.get.ensures (slot-known c.args.fs c.args.renames c.args.rename_entries.now c.args.rename_text.now c.args.index.0 c.args.new_filename.now _ (rw c.new-names.ensures at c.in_ok-p.ensures))

pub returns : goal.returns
returns c =
    let rs = renames_of c.args.renames c.args.rename_entries.now c.args.rename_text.now in
    let k = same-rename _ _ _ _ c.args.new_filename.now c.get.ensures c.mode_for.ensures in
    slot-changed c.args.fs c.args.renames c.args.rename_entries.now c.args.rename_text.now c.args.index.0 c.args.new_filename.now _ (rw c.new-names.ensures at c.in_ok-p.ensures) _ _ _
    (c.put_rename.ensures.value ∙ ap (λ (r : Renamed). state_of (with_rename r rs)) k)
    (c.put_rename.ensures.entries_after ∙ ap (λ (r : Renamed). sets c.args.rename_entries.now 0 (words_of (with_rename r rs))) k)
    (c.put_rename.ensures.text_after ∙ ap (λ (r : Renamed). sets c.args.rename_text.now 0 (texts_of (with_rename r rs))) k)
