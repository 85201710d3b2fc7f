-- `lookup::space::lacks_space` meets its contract: links are counted by the rows alone.
use Prim.Native.Nat.{ℕ}
use mathlib.Core.Path.{◌≡◌, refl, ◌∙◌}
use mathlib.Core.List.{List, []}
use native.Mathlib.Omega.{arith}
use borrow.Author.Tests.{lt-ltb}
use Rattle.tables.specs.declared.storage.FileStorage.{FileStorage}
use Rattle.lookup.specs.Space.{link_count}
use Rattle.lookup.specs.Lookup.{lent, files_in}
use Rattle.lookup.proofs.Spaces.{count-rows, lacks-marks, lacks-room}
use Rattle.lookup.proofs.space.lacks_space.Goals as goal

counted : (fs : FileStorage) (rows dirs text : List ℕ) (n : ℕ) → n ≡ link_count (files_in fs rows [] []) → n ≡ link_count (files_in fs rows dirs text)
counted fs rows dirs text n e = e ∙ count-rows (lent fs rows [] []) (lent fs rows dirs text) refl refl

pub returns-then-marks-count_links : goal.returns-then-marks-count_links
returns-then-marks-count_links c =
    let a = c.args in
    let k = counted a.fs a.rows.now a.dirs.now a.text.now c.count_links.result c.count_links.ensures in
    lt-ltb a.marks c.count_links.result c.if-marks-count_links.true
    ∙ lacks-marks (files_in a.fs a.rows.now a.dirs.now a.text.now) a.marks a.scratch a.walk_path (omega (arith, k, c.if-marks-count_links.true))

pub returns-else-marks-count_links : goal.returns-else-marks-count_links
returns-else-marks-count_links c =
    let a = c.args in
    let k = counted a.fs a.rows.now a.dirs.now a.text.now c.count_links.result c.count_links.ensures in
    c.lacks_bytes.ensures ∙ rw c.new-set.ensures (lacks-room (files_in a.fs a.rows.now a.dirs.now a.text.now) a.marks a.scratch a.walk_path (omega (arith, k, c.if-marks-count_links.false)) c.min-room.result c.min-room.ensures)
