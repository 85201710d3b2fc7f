-- The mapping's own promise, at the record that was read and the window that the table of first files gives.
use Rattle.std.proofs.Common.{◌≡◌, ◌∙◌, ap, ℤ, w32, w64, to_z, of_z, to_z-of_z}
use mir.Val.{SFits}
use borrow.Author.Rules.{rules}
use Rattle.types.specs.Refusals.{outcome}
use Rattle.tables.specs.declared.storage.FileStorage.{FileStorage}
use Rattle.layout.specs.declared.window.Window.{Window}
use Rattle.layout.specs.Window.{window_for}
use Rattle.blocks.specs.Block.{Mapped, map_block}
use Rattle.exports.specs.State.{storage_of}
use Rattle.exports.specs.Layout.{BlockReturned, block_returned, count_returned}
use Rattle.exports.proofs.questions.niflathen_map_block.Goals as goal

-- where the mapping's outcome is known, so is what is returned
said : (z : ℤ) (made known : Mapped) → made ≡ known → z ≡ count_returned made.says
    → ◌≡◌ {A = BlockReturned} (record { answer = z; file = made.file; offset = made.offset; size = made.size }) (block_returned known)
said z made known e p = rw (p, e)

pub returns : goal.returns
returns c =
    let r : SFits w64 c.count_returned.result = search rules in
    let p : SFits w32 c.args.piece = search rules in
    let o : SFits w64 c.args.offset = search rules in
    let n : SFits w64 c.args.size = search rules in
    let window : FileStorage → ℤ → ℤ → Window = λ fs piece offset. window_for fs c.args.firsts.now piece offset in
    let mapped : FileStorage → Window → ℤ → ℤ → ℤ → Mapped =
    λ fs w piece offset size. map_block fs c.args.rows.now w piece offset size c.args.out_file.now c.args.out_offset.now c.args.out_size.now in
    let fs = storage_of c.args.state.now in
    let piece = to_z w32 (of_z w32 c.args.piece) in
    let offset = to_z w64 (of_z w64 c.args.offset) in
    let size = to_z w64 (of_z w64 c.args.size) in
    said
    _
    (record {
      says = outcome c.map_block_core.result;
      file = c.map_block_core.new.out_file;
      offset = c.map_block_core.new.out_offset;
      size = c.map_block_core.new.out_size;
    })
    (mapped fs (window fs c.args.piece c.args.offset) c.args.piece c.args.offset c.args.size)
    (c.map_block_core.ensures
    ∙ ap (λ (w : Window). mapped c.storage_at-fs.result w piece offset size) c.window_for.ensures
    ∙ ap (λ (x : FileStorage). mapped x (window x piece offset) piece offset size) c.storage_at-fs.ensures
    ∙ ap (λ (x : ℤ). mapped fs (window fs x offset) x offset size) (to_z-of_z p)
    ∙ ap (λ (x : ℤ). mapped fs (window fs c.args.piece x) c.args.piece x size) (to_z-of_z o)
    ∙ ap (λ (x : ℤ). mapped fs (window fs c.args.piece c.args.offset) c.args.piece c.args.offset x) (to_z-of_z n))
    (to_z-of_z r ∙ c.count_returned.ensures)
