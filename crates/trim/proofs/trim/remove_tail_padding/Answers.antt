-- `trim::trim::remove_tail_padding` meets its contract.
use mathlib.Core.Path.{◌≡◌, sym, ◌∙◌}
use mathlib.Core.Bool.{true, false}
use Rattle.tables.specs.Model.{store_of}
use Rattle.rules.specs.Bounds.{bad_length}
use Rattle.change.specs.Rooms.{holds}
use Rattle.trim.proofs.Trims.{trim-none, trim-done}
use Rattle.trim.proofs.trim.remove_tail_padding.Goals as goal

pub returns-in-Some : goal.returns-in-Some
returns-in-Some c firsts =
    let a = c.args in
    let s = store_of a.fs a.rows.now a.roots.now firsts a.dirs.now a.text.now in
    let good : bad_length a.fs.piece_length ≡ false = sym c.is_bad_length.ensures ∙ c.if-is_bad_length.false in
    let held : holds s ≡ true = sym (rw c.of-rooms.ensures at c.holds.ensures) ∙ c.if-not-holds.false in
    let t = store_of c.remove_file.result c.remove_file.new.rows c.remove_file.new.roots firsts c.remove_file.new.dirs c.remove_file.new.text in
    trim-done s good held c.in-Some.f t c.in-Some.ensures (c.remove_file.ensures firsts)

pub returns-in-None : goal.returns-in-None
returns-in-None c firsts =
    let a = c.args in
    let s = store_of a.fs a.rows.now a.roots.now firsts a.dirs.now a.text.now in
    let good : bad_length a.fs.piece_length ≡ false = sym c.is_bad_length.ensures ∙ c.if-is_bad_length.false in
    let held : holds s ≡ true = sym (rw c.of-rooms.ensures at c.holds.ensures) ∙ c.if-not-holds.false in
    trim-none s good held c.in-None.ensures
