-- Laws of a file's path and of its hash: parts that a file lacks are read as empty ones, which change neither. They rely on
-- the laws of joins and of running hashes.
use Prim.Native.Nat.{ℕ}
use mathlib.Core.Path.{◌≡◌, refl, sym, ap, ◌∙◌}
use mathlib.Core.Bool.{Bool, true, false, cond, not, ◌&&◌}
use mathlib.Core.List.{List, [], ◌∷◌, ◌++◌, map, append_assoc}
use Rattle.path.specs.Join.{appended}
use Rattle.crc32c.specs.Crc.{crc_from, lower}
use Rattle.crc32c.proofs.Parts.{crc-lower}
use Rattle.tables.specs.declared.storage.FileStorage.{FileStorage}
use Rattle.tables.specs.declared.span.Span.{Span}
use Rattle.tables.specs.declared.rows.Row.{Row}
use Rattle.tables.specs.Span.{text_at}
use Rattle.tables.specs.Rows.{dir_at, is_absolute, is_inside, directory_span, has}
use Rattle.names.specs.Paths.{is_single, name_of, file_path, led, hashed_path, hash_of}
use Rattle.names.proofs.Composed.{append-none}

-- no text
abbrev pub nowhere : Span
nowhere = record { at = 0; len = 0 }

-- by whether the path is absolute, a single name, and outside of the set's name
module _ (text save name : List ℕ) (set dir : Span) where
  path-if : (a s o : Bool)
      → appended (appended (appended (cond a [] save) (text_at text (cond ((not s && not a) && not o) set nowhere))) (text_at text (cond (not s && not a) dir nowhere))) name
      ≡ cond a name (cond s (appended save name) (cond o (appended (appended save (text_at text dir)) name) (appended (appended (appended save (text_at text set)) (text_at text dir)) name)))
  path-if true true o = refl
  path-if true false o = refl
  path-if false true o = append-none (appended save []) name ∙ append-none save name
  path-if false false true = ap (λ (l : List ℕ). appended l name) (append-none save (text_at text dir))
  path-if false false false = refl

  hashed-if : (a s o : Bool)
      → led (cond a [] save) ++ (cond ((not s && not a) && not o) (text_at text set ++ (47 ∷ [])) [] ++ (led (text_at text (cond (not s && not a) dir nowhere)) ++ name))
      ≡ cond a name (cond s (led save ++ name) (cond o (led save ++ led (text_at text dir) ++ name) (led save ++ (text_at text set ++ (47 ∷ [])) ++ led (text_at text dir) ++ name)))
  hashed-if true true o = refl
  hashed-if true false o = refl
  hashed-if false true o = refl
  hashed-if false false true = sym (append_assoc (led save) (led (text_at text dir)) name)
  hashed-if false false false =
      sym (append_assoc (led save ++ (text_at text set ++ (47 ∷ []))) (led (text_at text dir)) name ∙ append_assoc (led save) (text_at text set ++ (47 ∷ [])) (led (text_at text dir) ++ name))

module _ (fs : FileStorage) (dirs text : List ℕ) (r : Row) where
  -- the spans of the set's name and of the directory, where they lead the path
  abbrev pub set_span : Span
  set_span = cond (is_inside r && not (has r.flags 32)) fs.name nowhere

  abbrev pub dir_span : Span
  dir_span = directory_span dirs r

  path-is : (save : List ℕ) → appended (appended (appended (cond (is_absolute r) [] save) (text_at text set_span)) (text_at text dir_span)) (name_of text r) ≡ file_path fs dirs text save r
  path-is save = path-if text save (name_of text r) fs.name (dir_at dirs r.path_index) (is_absolute r) (is_single r) (has r.flags 32)

  -- a path of parts that were read one by one
  pub path-from : {save set dir name : List ℕ} {u : Span} (given : List ℕ) → save ≡ cond (is_absolute r) [] given → set ≡ text_at text u → u ≡ set_span → dir ≡ text_at text dir_span → name ≡ name_of text r
      → appended (appended (appended save set) dir) name ≡ file_path fs dirs text given r
  path-from given e f g h i = rw (e, f, g, h, i) (path-is given)

  pub hashed-is : (save : List ℕ) → led (cond (is_absolute r) [] save) ++ (cond (is_inside r && not (has r.flags 32)) (text_at text fs.name ++ (47 ∷ [])) [] ++ (led (text_at text dir_span) ++ name_of text r)) ≡ hashed_path fs dirs text save r
  hashed-is save = hashed-if text save (name_of text r) fs.name (dir_at dirs r.path_index) (is_absolute r) (is_single r) (has r.flags 32)

-- four parts fed one after the other
pub hash-four : (a b c d : List ℕ)
    → crc_from (crc_from (crc_from (crc_from 0 (map lower a)) (map lower b)) (map lower c)) (map lower d) ≡ hash_of (a ++ (b ++ (c ++ d)))
hash-four a b c d =
    crc-lower (crc_from (crc_from 0 (map lower a)) (map lower b)) c d
    ∙ crc-lower (crc_from 0 (map lower a)) b (c ++ d)
    ∙ crc-lower 0 a (b ++ (c ++ d))
