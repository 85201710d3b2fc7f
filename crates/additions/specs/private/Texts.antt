-- The texts that an addition keeps, by what a call brings and the parts of its path. What they are is in Addition.antt;
-- proofs/Texts.antt shows that they are the same.
use Rattle.std.specs.Prelude.{Bool, true, false, cond, List, [], ℕ, ◌+◌, ◌≤◌, eqb, Option, Some, None}
use Rattle.path.specs.Split.{rsplit_branch, lsplit_rest}
use Rattle.path.specs.Join.{is_empty}
use Rattle.tables.specs.Model.{Directory, single, absolute, stored}
use Rattle.additions.specs.declared.parts.PathKind.{PathKind}
use Rattle.additions.specs.declared.parts.PathKind.TheVariants.{Single, Absolute, Inside, Outside}
use Rattle.additions.specs.declared.parts.PathParts.{PathParts}
use Rattle.additions.specs.declared.parts.Place.{Place}
use Rattle.additions.specs.Addition.{set_name_of, without_leading, link_is_kept}
use Rattle.additions.specs.Parts.{kind_for, directory_span}

-- the given name where it has bytes, else the path's own
abbrev pub name_from : Option (List ℕ) → List ℕ → List ℕ
name_from None own = own
name_from (Some given) own = cond (is_empty given) own given

-- the link text that is kept where `links` are held
abbrev pub link_text_of : ℕ → List ℕ → List ℕ
link_text_of links link = cond (link_is_kept links link) link []

-- the name that a path gives a set that has `files` files
abbrev pub set_text_of : ℕ → List ℕ → List ℕ
set_text_of files path = cond (eqb files 0) (set_name_of path) []

-- the directory's text, as a part of the path's branch
abbrev pub text_under : PathKind → List ℕ → List ℕ
text_under Single branch = []
text_under Absolute branch = []
text_under Inside branch = without_leading (lsplit_rest branch)
text_under Outside branch = branch

-- the model's directory
abbrev pub directory_at : PathKind → List ℕ → Directory
directory_at Single d = single
directory_at Absolute d = absolute
directory_at Inside d = stored d false
directory_at Outside d = stored d true

abbrev pub outside_kind : PathKind → Bool
outside_kind Single = false
outside_kind Absolute = false
outside_kind Inside = false
outside_kind Outside = true

abbrev pub absolute_kind : PathKind → Bool
absolute_kind Single = false
absolute_kind Absolute = true
absolute_kind Inside = false
absolute_kind Outside = false

-- the parts of a path that are stored lie within its n bytes
pub record PartsWithin (n : ℕ) (p : PathParts) : Type 0 where
  pub set-name : p.set_name.at + p.set_name.len ≤ n
  pub directory : p.directory.at + p.directory.len ≤ n
  pub name : p.name.at + p.name.len ≤ n

-- where a file lies under a set's name, by its path
abbrev pub place_for : List ℕ → List ℕ → Place
place_for name path =
    record { kind = kind_for name path; directory = directory_span (kind_for name path) (rsplit_branch path) }
