-- Laws of the parts of a link's new text: where they lie. They rely on the laws of `tables`.
use Prim.Native.Nat.{ℕ}
use mathlib.Core.Path.{◌≡◌, refl, sym}
use mathlib.Core.Bool.{Bool, true, false, cond}
use mathlib.Core.List.{List}
use Rattle.path.specs.Join.{appended}
use Rattle.tables.specs.declared.span.Span.{Span}
use Rattle.tables.specs.declared.rows.Row.{Row}
use Rattle.tables.specs.Span.{text_at}
use Rattle.tables.specs.Rows.{row_at, directory_span, link_span, has}
use Rattle.tables.specs.Model.{present_if, Store}
use Rattle.tables.proofs.Paths.{path-parts}
use Rattle.lookup.specs.Lookup.{held_text}
use Rattle.texts.specs.Texts.{own_text, text_beside}

-- a link that holds no text has one of no bytes
held_at : (h : Bool) (text : List ℕ) (c : Span) → held_text (present_if h (text_at text c)) ≡ text_at text (cond h c (record { at = 0; len = 0 }))
held_at true text c = refl
held_at false text c = refl

module _ (s : Store) (i : ℕ) where
  abbrev row : Row
  row = row_at s.rows i

  abbrev branch : List ℕ
  branch = text_at s.text (directory_span s.dirs row)

  -- a link's own path and its text from its directory, by their parts
  pub own-parts : own_text s i ≡ appended branch (text_at s.text row.name)
  own-parts = sym (path-parts s.dirs s.text row (text_at s.text row.name))

  pub beside-parts : text_beside s i ≡ appended branch (text_at s.text (link_span row))
  beside-parts =
      rw (held_at (has row.flags 16) s.text row.link) (sym (path-parts s.dirs s.text row (text_at s.text (link_span row))))
