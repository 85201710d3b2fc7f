-- The parts of a path as spans in it. What the spans read is what Addition.antt says of the path: proofs/Texts.antt
-- shows it.
use Rattle.std.specs.Prelude.{ℕ, ◌-◌, Bool, cond, List, eqb, length}
use Rattle.lists.specs.Lists.{equal}
use Rattle.path.specs.Split.{has_parent_path, is_complete, rsplit_branch, lsplit_first, lsplit_rest}
use Rattle.path.specs.Join.{is_empty}
use Rattle.tables.specs.declared.span.Span.{Span}
use Rattle.tables.specs.Span.{leaf_span}
use Rattle.additions.specs.declared.parts.PathKind.{PathKind}
use Rattle.additions.specs.declared.parts.PathKind.TheVariants.{Single, Absolute, Inside, Outside}
use Rattle.additions.specs.declared.parts.PathParts.{PathParts}
use Rattle.additions.specs.Addition.{name_after, without_leading}

-- where a path lies under a set's name
abbrev pub kind_for : List ℕ → List ℕ → PathKind
kind_for name path =
    cond (is_complete path) Absolute
    (cond (is_empty (rsplit_branch path)) Single
    (cond (equal (lsplit_first (rsplit_branch path)) name) Inside Outside))

abbrev pub no_span : Span
no_span = record { at = 0; len = 0 }

abbrev pub whole_span : List ℕ → Span
whole_span path = record { at = 0; len = length path }

-- the first part, a leading separator skipped
abbrev pub first_span : List ℕ → Span
first_span path = record { at = cond (is_complete path) 1 0; len = length (lsplit_first path) }

-- the name that a path gives a set that has `files` files, with a parent or none
abbrev pub set_name_span : ℕ → Bool → List ℕ → Span
set_name_span files parent path = cond (eqb files 0) (cond parent (first_span path) (whole_span path)) no_span

-- an absolute path is its own name
abbrev pub name_span : List ℕ → Span
name_span path = cond (is_complete path) (whole_span path) (leaf_span path)

-- under the set's name, the directory's text is the branch's end
abbrev pub directory_span : PathKind → List ℕ → Span
directory_span Single branch = no_span
directory_span Absolute branch = no_span
directory_span Inside branch =
    record {
      at = length branch - length (without_leading (lsplit_rest branch));
      len = length (without_leading (lsplit_rest branch));
    }
directory_span Outside branch = whole_span branch

-- the parts of the path of a file that is added to a set of `files` files and that name
abbrev pub parts_of : ℕ → List ℕ → List ℕ → PathParts
parts_of files name path =
    record {
      leaf = leaf_span path;
      name = name_span path;
      set_name = set_name_span files (has_parent_path path) path;
      directory = directory_span (kind_for (name_after files name path) path) (rsplit_branch path);
      kind = kind_for (name_after files name path) path;
      has_parent = has_parent_path path;
    }
