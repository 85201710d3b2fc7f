-- `renames::find::rename_at` meets its contract.
use Prim.Native.Nat.{ℕ, ◌+◌, ◌*◌, ◌/◌, ◌<◌, ◌%◌}
use mathlib.Core.Path.{◌≡◌, ap, ◌∙◌}
use mathlib.Core.List.{List, []}
use native.Mathlib.Omega.{arith}
use lib.IntN.{pos}
use lib.ListN.{length, get_or}
use Rattle.renames.specs.Renames.{mode_of}
use Rattle.renames.proofs.Chunks.{chunk-word}
use Rattle.renames.proofs.Finding.{same-rename}
use Rattle.renames.proofs.find.rename_at.Goals as goal

pub returns : goal.returns
returns c =
    let e = c.args.entries.now in
    let i = c.args.i in
    let word : (j : ℕ) → j < 4 → get_or (get_or c.as_chunks.result.0.now i []) j 0 ≡ get_or e (i * 4 + j) 0 =
    λ j l. ap (λ (ws : List (List ℕ)). get_or (get_or ws i []) j 0) c.as_chunks.ensures.front ∙ chunk-word (length e / 4) i j e (omega (arith, c.requires)) l in
    let first : i * 4 + 0 ≡ i * 4 = omega arith in
    same-rename _ _ _ _ _
    (c.new.ensures ∙ ap (λ (n : ℕ). pos (n % 2147483648)) (word 0 (omega arith) ∙ ap (λ (n : ℕ). get_or e n 0) first))
    (c.from.ensures ∙ ap mode_of (word 1 (omega arith)))
    (word 3 (omega arith))
    (word 2 (omega arith))
