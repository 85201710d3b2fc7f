-- `names::file::hash_path` meets its contract.
use Prim.Native.Nat.{ℕ}
use mathlib.Core.Path.{◌≡◌, ap, ◌∙◌}
use mathlib.Core.Bool.{cond, not, ◌&&◌}
use mathlib.Core.List.{List, [], ◌∷◌, ◌++◌, map}
use Rattle.tables.specs.Rows.{has, is_absolute, is_inside}
use Rattle.tables.specs.Span.{text_at}
use Rattle.crc32c.specs.Crc.{crc_from, lower}
use Rattle.names.specs.Paths.{led, name_of, hash_of}
use Rattle.names.proofs.Paths.{dir_span, hashed-is, hash-four}
use Rattle.names.proofs.file.hash_path.Goals as goal

-- the running hashes, one from the other
fed : (a b c d : List ℕ) (x y z r : ℕ) → x ≡ crc_from 0 (map lower a) → y ≡ crc_from x (map lower b) → z ≡ crc_from y (map lower c)
    → r ≡ crc_from z (map lower d) → r ≡ hash_of (a ++ (b ++ (c ++ d)))
fed a b c d x y z r e f g h = rw (h, g, f, e) (hash-four a b c d)

pub returns : goal.returns
returns c =
    let s = c.args.set in
    let r = c.args.row in
    fed (led (cond (is_absolute r) [] c.args.save_path.now)) (cond (is_inside r && not (has r.flags 32)) (text_at s.lent.text.now s.fs.name ++ (47 ∷ [])) [])
    (led (text_at s.lent.text.now (dir_span s.fs s.lent.dirs.now s.lent.text.now r))) (name_of s.lent.text.now r)
    c.hash_led-crc1.result c.hash_set-crc2.result c.hash_led-crc3.result c.crc32c_append_lowercase.result
    (c.hash_led-crc1.ensures ∙ rw c.save_of-save.ensures) c.hash_set-crc2.ensures
    (c.hash_led-crc3.ensures ∙ rw c.directory_of-directory.ensures)
    (c.crc32c_append_lowercase.ensures ∙ rw c.text_at-name.ensures)
    ∙ ap hash_of (hashed-is s.fs s.lent.dirs.now s.lent.text.now r c.args.save_path.now)
