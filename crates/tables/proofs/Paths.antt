-- The internal path by its parts: what a row says of its directory, joined to a name. These laws rely on nothing else of this crate.
use Prim.Native.Nat.{ℕ}
use mathlib.Core.Path.{◌≡◌, refl}
use mathlib.Core.Bool.{Bool, true, false, cond, not, ◌&&◌}
use mathlib.Core.List.{List}
use lib.Dec.{eqb}
use Rattle.path.specs.Join.{appended}
use Rattle.tables.specs.declared.span.Span.{Span}
use Rattle.tables.specs.declared.rows.Row.{Row}
use Rattle.tables.specs.Span.{text_at}
use Rattle.tables.specs.Rows.{dir_at, no_path, is_absolute, directory_span, has}
use Rattle.tables.specs.Model.{single, absolute, stored, path_in, directory_in}

-- a directory by its path index: of a single name, of an absolute path, or of a file in it
kinds : (a b outside : Bool) (text : List ℕ) (c : Span) (name : List ℕ)
    → appended (text_at text (cond (not a && not b) c (record { at = 0; len = 0 }))) name ≡ path_in (cond a single (cond b absolute (stored (text_at text c) outside))) name
kinds true b outside text c name = refl
kinds false true outside text c name = refl
kinds false false outside text c name = refl

-- a file in no directory has a branch of no bytes, which leaves its name alone
pub path-parts : (dirs text : List ℕ) (r : Row) (name : List ℕ) → appended (text_at text (directory_span dirs r)) name ≡ path_in (directory_in dirs text r) name
path-parts dirs text r name =
    kinds (eqb r.path_index no_path) (is_absolute r) (has r.flags 32) text (dir_at dirs r.path_index) name
