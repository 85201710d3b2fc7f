-- Document 02 (v): with the window of a true table of the file in which each piece begins, the outcome of `map_block` is the
-- same whatever the rows before the window hold. It relies on the law of the block's slices in `layout`.
--     block-mapped-alike     the answer and the table
use mathlib.Core.Path.{◌≡◌, ap, ◌∙◌}
use mathlib.Core.List.{List, [], ◌∷◌}
use Prim.Native.Nat.{ℕ, ◌*◌}
use lib.Dec.{leb}
use lib.IntN.{ℤ}
use lib.ListN.{length, drop}
use Rattle.types.specs.declared.index.FileSlice.{FileSlice}
use Rattle.tables.specs.declared.storage.FileStorage.{FileStorage}
use Rattle.tables.specs.Rows.{row_width}
use Rattle.rules.specs.Rules.{first_of}
use Rattle.rules.specs.Questions.{short}
use Rattle.layout.specs.Window.{window_for}
use Rattle.layout.specs.declared.slices.Slice.{Slice}
use Rattle.layout.specs.Mapping.{block_of, block_rules}
use Rattle.layout.proofs.Alike.{TrueTable, block-of-alike, block-rules-alike}
use Rattle.mapping.specs.Table.{filled, block_mapped}

pub block-mapped-alike : (fs : FileStorage) (rows others firsts : List ℕ) → TrueTable fs rows firsts → length rows ≡ length others
    → (z offset size : ℤ) → drop ((window_for fs firsts z offset).low * row_width) rows ≡ drop ((window_for fs firsts z offset).low * row_width) others
    → (out : List FileSlice) → block_mapped fs rows (window_for fs firsts z offset) z offset size out ≡ block_mapped fs others (window_for fs firsts z offset) z offset size out
block-mapped-alike fs rows others firsts told l z offset size e out =
    ap (λ (ss : List Slice). filled (first_of (block_rules fs rows z offset size (short (leb (length ss) (length out)) ∷ []))) ss out)
    (block-of-alike fs rows others firsts told z offset size e) ∙
    ap (λ (k : ℕ). filled k (block_of fs others (window_for fs firsts z offset) z offset size) out)
    (block-rules-alike fs rows others l z offset size (short (leb (length (block_of fs others (window_for fs firsts z offset) z offset size)) (length out)) ∷ []))
