-- A file that was written to the tables is read back, where the tables have its place and its row's root bit agrees with the
-- presence of its root. It relies on the laws of Words.antt.
use Prim.Native.Nat.{ℕ, ◌+◌, ◌*◌, ◌≤◌}
use mathlib.Core.Path.{◌≡◌, ap, ◌∙◌}
use mathlib.Core.List.{List}
use lib.ListN.{length}
use Rattle.tables.specs.declared.rows.Row.{Row}
use Rattle.tables.specs.declared.rows.Presence.{Presence}
use Rattle.tables.specs.declared.rows.Presence.TheVariants.{Absent, Present}
use Rattle.tables.specs.declared.rows.FileEntry.{FileEntry}
use Rattle.tables.specs.Rows.{row_at, root_at, has, root_bit}
use Rattle.tables.specs.Entry.{presence_if, entry_at, root_if, rows_with, roots_with}
use Rattle.tables.proofs.Words.{InRange, row_back, root-back}

made : {a b : Row} {p q : Presence} {x y : List ℕ} → a ≡ b → p ≡ q → x ≡ y
    → ◌≡◌ {A = FileEntry} (record { row = a; presence = p; root = record { bytes = x } }) (record { row = b; presence = q; root = record { bytes = y } })
made e f g = rw (e, f, g)

module _ (rows roots : List ℕ) (i : ℕ) (file : FileEntry)
    (has-row : i * 8 + 8 ≤ length rows) (has-root : i * 32 + 32 ≤ length roots)
    (in-range : InRange file.row) (bytes : length file.root.bytes ≡ 32)
    (agrees : presence_if (has file.row.flags root_bit) ≡ file.presence) where
  row_is : row_at (rows_with rows i file) i ≡ file.row
  row_is = row_back rows i file.row has-row in-range

  presence-is : presence_if (has (row_at (rows_with rows i file) i).flags root_bit) ≡ file.presence
  presence-is = ap (λ (r : Row). presence_if (has r.flags root_bit)) row_is ∙ agrees

  -- with a root: the very file
  pub entry-back : file.presence ≡ Present → entry_at (rows_with rows i file) (roots_with roots i file) i ≡ file
  entry-back p =
      made row_is presence-is
      (ap (λ (q : Presence). root_at (root_if q roots i file.root.bytes) i) p ∙ root-back roots i file.root.bytes bytes has-root)

  -- without one: its row, no root, and in the root's place what the roots held
  pub rootless-back : file.presence ≡ Absent
      → entry_at (rows_with rows i file) (roots_with roots i file) i ≡ record { row = file.row; presence = Absent; root = record { bytes = root_at roots i } }
  rootless-back p = made row_is (presence-is ∙ p) (ap (λ (q : Presence). root_at (root_if q roots i file.root.bytes) i) p)
