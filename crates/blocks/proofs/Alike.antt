-- Document 02 (v): with the window of a true table of the file in which each piece begins, the outcome of `map_block_core`
-- is the same whatever the rows before the window hold. It relies on the law of the block's slices in `layout`.
--     map-block-alike     the answer and the three columns
use mathlib.Core.Path.{◌≡◌, ap, ◌∙◌}
use mathlib.Core.List.{List, [], ◌∷◌}
use Prim.Native.Nat.{ℕ, ◌*◌}
use lib.IntN.{ℤ}
use lib.ListN.{length, drop}
use Rattle.tables.specs.declared.storage.FileStorage.{FileStorage}
use Rattle.tables.specs.Rows.{row_width}
use Rattle.rules.specs.Rules.{first_of}
use Rattle.rules.specs.Questions.{short}
use Rattle.layout.specs.Window.{window_for}
use Rattle.layout.specs.declared.slices.Slice.{Slice}
use Rattle.layout.specs.Mapping.{block_of, block_rules}
use Rattle.layout.proofs.Alike.{TrueTable, block-of-alike, block-rules-alike}
use Rattle.blocks.specs.Block.{mapped, has_places, map_block}

pub map-block-alike : (fs : FileStorage) (rows others firsts : List ℕ) → TrueTable fs rows firsts → length rows ≡ length others
    → (z offset size : ℤ) → drop ((window_for fs firsts z offset).low * row_width) rows ≡ drop ((window_for fs firsts z offset).low * row_width) others
    → (f o s : List ℕ) → map_block fs rows (window_for fs firsts z offset) z offset size f o s ≡ map_block fs others (window_for fs firsts z offset) z offset size f o s
map-block-alike fs rows others firsts told l z offset size e f o s =
    ap (λ (ss : List Slice). mapped (first_of (block_rules fs rows z offset size (short (has_places ss f o s) ∷ []))) ss f o s)
    (block-of-alike fs rows others firsts told z offset size e) ∙
    ap (λ (k : ℕ). mapped k (block_of fs others (window_for fs firsts z offset) z offset size) f o s)
    (block-rules-alike fs rows others l z offset size (short (has_places (block_of fs others (window_for fs firsts z offset) z offset size) f o s) ∷ []))
