-- `compatible::compatible::FileIn::path_pieces` meets its contract: without a save path the whole path is composed of the other parts.
use mathlib.Core.Path.{◌≡◌, refl, ◌∙◌}
use mathlib.Core.Bool.{Bool, true, false, cond}
use mathlib.Core.List.{List, []}
use Prim.Native.Nat.{ℕ}
use Rattle.tables.specs.Rows.{is_absolute}
use Rattle.names.proofs.Paths.{path-from}
use Rattle.compatible.proofs.compatible.FileIn.path_pieces.Goals as goal

none-saved : (t : Bool) → ◌≡◌ {A = List ℕ} [] (cond t [] [])
none-saved true = refl
none-saved false = refl

pub returns : goal.returns
returns c =
    let s = c.args.self.set in
    c.compose.ensures
    ∙ path-from s.fs s.lent.dirs.now s.lent.text.now c.args.self.row {save = []} [] (none-saved (is_absolute c.args.self.row)) c.text_at-lead.ensures c.set_span.ensures c.directory_of-directory.ensures c.text_at.ensures
