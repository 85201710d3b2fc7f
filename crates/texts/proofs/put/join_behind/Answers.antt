-- `texts::put::join_behind` meets its contract: both texts stand before the place where the area is parted.
use mathlib.Core.Path.{◌≡◌, ap, ◌∙◌}
use mathlib.Core.List.{List}
use Prim.Native.Nat.{ℕ}
use Rattle.path.specs.Join.{appended}
use Rattle.tables.specs.Span.{text_at}
use Rattle.texts.proofs.Placed.{text_before, join_behind}
use Rattle.texts.proofs.put.join_behind.Goals as goal

pub returns : goal.returns
returns c =
    let a = c.args in
    let l = a.text.now in
    let m = c.min.result in
    let front = c.split_at_mut-front.ensures.front in
    let d : c.text_at-directory.result.now ≡ text_at l a.branch = c.text_at-directory.ensures ∙ ap (λ (x : List ℕ). text_at x a.branch) front ∙ text_before l a.used m c.min.ensures a.branch c.requires.0 in
    let leaf : c.text_at.result.now ≡ text_at l a.leaf = c.text_at.ensures ∙ ap (λ (x : List ℕ). text_at x a.leaf) front ∙ text_before l a.used m c.min.ensures a.leaf c.requires.1 in
    let joined = rw (d, leaf, c.split_at_mut-front.ensures.back) at c.join_path.ensures in
    rw front (join_behind l a.used m c.min.ensures (appended (text_at l a.branch) (text_at l a.leaf)) c.join_path.result joined)
