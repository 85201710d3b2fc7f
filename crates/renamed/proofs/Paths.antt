-- Laws of a path through the renames: the text composed once nothing stops the question. They rely on what is known once no rule
-- stops a question (proofs/Deciding.antt of `renames`).
use Rattle.std.specs.Prelude.{Option, Some, None, Result, IsErrAnd}
use Prim.Native.Nat.{ℕ}
use mathlib.Core.Path.{◌≡◌, refl, sym, ap, ◌∙◌}
use mathlib.Core.Bool.{Bool, true, false, cond, not, ◌&&◌}
use mathlib.Core.List.{List}
use lib.Dec.{eqb}
use lib.IntN.{ℤ}
use lib.ListN.{length}
use Rattle.types.specs.declared.refusal.Refusal.{Refusal}
use Rattle.types.specs.Refusals.{number_of, outcome, value, refused}
use Rattle.types.proofs.Refusals.{exit}
use Rattle.path.specs.Join.{Joined}
use Rattle.tables.specs.declared.storage.FileStorage.{FileStorage}
use Rattle.rules.specs.Bounds.{bad_length, clamped_of, is_below}
use Rattle.rules.specs.Questions.{few_entries, file_answer}
use Rattle.rules.specs.Composed.{composed_if, composed_file}
use Rattle.rules.proofs.Deciding.{denied}
use Rattle.renames.proofs.Deciding.{asked-good, asked-there, asked-held, asked-few, asked-own}
use Rattle.rules.proofs.Rules.{both_true}
use Rattle.tables.specs.Rows.{row_at}
use Rattle.tables.specs.Span.{text_at}
use Rattle.names.specs.Paths.{file_path, names_held}
use Rattle.renames.specs.declared.rename.Rename.{Rename}
use Rattle.renames.specs.declared.rename.RenamedFiles.{RenamedFiles}
use Rattle.renames.specs.Renames.{Renamed, renames_of, renames_held, in_order}
use Rattle.renames.specs.Finding.{rename_for, rename_found}
use Rattle.renames.proofs.Finding.{read_found, renamed-found}
use Rattle.renamed.specs.Questions.{path_by, renamed_path, path_into}

module _ {A : Type 0} (fs : FileStorage) (z : ℤ) (held order : Bool) (f : ℕ → A) (t : ℕ → List ℕ) (buf : List ℕ) where
  abbrev bad : Bool
  bad = bad_length fs.piece_length

  abbrev missing : Bool
  missing = not (is_below fs.num_files z)

  pub path-refused : (m : ℕ) → refused m ≡ file_answer fs z (held && order) f
      → ◌≡◌ {A = Joined} (record { says = refused m; buf = buf }) (composed_file fs z (held && order) t buf)
  path-refused m e =
      let n : ℕ = cond bad 1 (cond missing 11 (cond (not ((held && order) && few_entries fs)) 10 0)) in
      let d = denied n (f (clamped_of z)) (eqb n 0) m e in
      rw (d.0, d.1)

  module _ (x : A) (e : value x ≡ file_answer fs z (held && order) f) where
    good : bad ≡ false
    good = asked-good fs z (held && order) f x e

    within : missing ≡ false
    within = asked-there fs z (held && order) f x e

    all_held : (held && order) ≡ true
    all_held = asked-held fs z (held && order) f x e

    few : few_entries fs ≡ true
    few = asked-few fs z (held && order) f x e

    pub path-asked : (order ≡ true) × (x ≡ f (clamped_of z))
    path-asked = ((both_true held order all_held).1, asked-own fs z (held && order) f x e)

    pub path-text : (j : Joined) (text : List ℕ) → j ≡ composed_if 0 text buf → text ≡ t (clamped_of z) → j ≡ composed_file fs z (held && order) t buf
    path-text j text h w = h ∙ rw (good, within, all_held, few, w)

    pub path-own : (s : ℕ → List ℕ) (j : Joined) → j ≡ composed_file fs z held s buf → s (clamped_of z) ≡ t (clamped_of z) → j ≡ composed_file fs z (held && order) t buf
    path-own s j h w =
        let b = both_true held order all_held in
        h ∙ rw (good, within, few, b.0, b.1, w)

-- the path of a file that has a rename of the list, or its own
abbrev pub renamed_to : Option Renamed → List ℕ → List ℕ → List ℕ → List ℕ
renamed_to None own save set = own
renamed_to (Some r) own save set = path_by r.mode save set r.name

-- the path of file z through its rename, in a lent buffer
module _ (fs : FileStorage) (rows dirs text : List ℕ) (rf : RenamedFiles) (e t : List ℕ) (z : ℤ) (save buf : List ℕ) where
  abbrev held : Bool
  held = names_held fs rows dirs text

  abbrev order : Bool
  order = renames_held rf e (length t)

  abbrev own : ℕ → List ℕ
  own k = file_path fs dirs text save (row_at rows k)

  abbrev new : ℕ → List ℕ
  new k = renamed_path t (rename_found rf e k) (own k) save (text_at text fs.name)

  pub renamed-refused : (r : Result ℕ Refusal) (x : Refusal) → IsErrAnd r (λ y. y ≡ x)
      → refused (number_of x) ≡ file_answer fs z (held && order) (rename_found rf e)
      → ◌≡◌ {A = Joined} (record { says = outcome r; buf = buf }) (path_into fs rows dirs text rf e t z save buf)
  renamed-refused r x i h = rw (exit r x i) (path-refused fs z held order (rename_found rf e) new buf (number_of x) h)

  module _ (x : Option Rename) (h : value x ≡ file_answer fs z (held && order) (rename_found rf e)) where
    there : (y : Option Rename) → x ≡ y → rename_found rf e (clamped_of z) ≡ y
    there y is = sym (path-asked fs z held order (rename_found rf e) new buf x h).1 ∙ is

    pub renamed-text : (r : Rename) → x ≡ Some r → (set name : List ℕ) → set ≡ text_at text fs.name → name ≡ text_at t r.name
        → (j : Joined) → j ≡ composed_if 0 (path_by r.mode save set name) buf → j ≡ path_into fs rows dirs text rf e t z save buf
    renamed-text r is set name a b j p =
        let one = there (Some r) is in
        path-text fs z held order (rename_found rf e) new buf x h j (path_by r.mode save set name) p (rw (one, a, b))

    pub renamed-own : x ≡ None → (j : Joined) → j ≡ composed_file fs z held own buf → j ≡ path_into fs rows dirs text rf e t z save buf
    renamed-own is j p =
        let none = there None is in
        path-own fs z held order (rename_found rf e) new buf x h own j p (rw none)

-- on tables in order it is the path of the file's rename in the list of renames, or its own
pub path-said : (rf : RenamedFiles) (e t : List ℕ) (k : ℕ) (own save set : List ℕ) → in_order rf e t ≡ true
    → renamed_path t (rename_found rf e k) own save set ≡ renamed_to (rename_for k (renames_of rf e t)) own save set
path-said rf e t k own save set h = at (rename_found rf e k) ∙ ap (λ (o : Option Renamed). renamed_to o own save set) (sym (renamed-found rf e t k h))
  where
    at : (o : Option Rename) → renamed_path t o own save set ≡ renamed_to (read_found t o) own save set
    at None = refl
    at (Some r) = refl
