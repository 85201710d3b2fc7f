-- What an addition writes by its plan is what the public definitions say is written, table by table.
use Prim.Native.Nat.{ℕ, ◌+◌}
use mathlib.Core.Path.{◌≡◌, refl, sym, subst, ◌∙◌, ap}
use mathlib.Core.Bool.{Bool, true, false, cond, not, ◌&&◌}
use mathlib.Core.List.{List, []}
use lib.Dec.{eqb}
use lib.ListN.{length}
use lib.Seq.{sets}
use Rattle.std.specs.Bool.{then_some}
use Rattle.lists.specs.Decimal.{decimal}
use Rattle.tables.specs.declared.rows.Row.{Row}
use Rattle.tables.specs.declared.storage.FileStorage.{FileStorage}
use Rattle.tables.specs.Rows.{put_row}
use Rattle.tables.specs.Model.{Directory, Model, Store}
use Rattle.additions.specs.declared.parts.PathKind.{PathKind}
use Rattle.additions.specs.declared.parts.PathKind.TheVariants.{Single, Absolute, Inside, Outside}
use Rattle.additions.specs.Addition.{Addition, pad_directory_name, pad_of, is_among, directory_added, with_directory_of}
use Rattle.additions.specs.private.Texts.{directory_at}
use Rattle.plan.specs.Write.{new_text_of, is_new_directory, new_texts, directory_new, pad_directory_new, pad_text, old_name, text_kept, directory_start, put_dir_if, name_start, link_start, pad_directory_start, pad_name_start, is_new_pad, row_added, row_of_pad, text_added, rows_added, dirs_added}
use Rattle.plan.specs.declared.plan.NewDir.{NewDir}
use Rattle.plan.specs.private.Steps.{TextsOf}
use Rattle.plan.specs.Plan.{plan_of}
use Rattle.plan.proofs.Joined.{sets-joined}
use Rattle.storage.specs.private.Written.{renamed, dirs_renamed, dir_text_written, dir_written, text_before_pad, pad_text_written, text_written, dirs_before_pad, pad_dir_written, dirs_written, pad_row_written, rows_written}

-- ---- the text area

new-text : (t : Bool) (d : List ℕ) → cond (not t) d [] ≡ cond t [] d
new-text true d = refl
new-text false d = refl

new-dir : (kind : PathKind) (d : List ℕ) (ds : List (List ℕ)) → cond (is_new_directory (directory_at kind d) ds) d [] ≡ new_text_of (directory_at kind d) ds
new-dir Single d ds = refl
new-dir Absolute d ds = refl
new-dir Inside d ds = new-text (is_among d ds) d
new-dir Outside d ds = new-text (is_among d ds) d

new-pad : (t u : Bool) (d : List ℕ) → cond (not t && not u) d [] ≡ cond t [] (cond u [] d)
new-pad true u d = refl
new-pad false u d = new-text u d

-- a directory's text and row, where that is new
dir-text : (t : Bool) (d : NewDir) (text x : List ℕ) → dir_text_written (then_some t d) text x ≡ sets text d.text.at (cond t x [])
dir-text true d text x = refl
dir-text false d text x = refl

dir-row : (t : Bool) (d : NewDir) (dirs : List ℕ) → dir_written (then_some t d) dirs ≡ put_dir_if t dirs d.slot d.text
dir-row true d dirs = refl
dir-row false d dirs = refl

-- where there is no pad, none of its texts and rows has bytes
pad-texts : (t u : Bool) (r : Row) (d : NewDir) (l : List ℕ)
    → pad_text_written (then_some (not t) r) (then_some (not t && not u) d) l
    ≡ sets (sets l d.text.at (cond (not t && not u) pad_directory_name [])) r.name.at (cond t [] (decimal r.size))
pad-texts true u r d l = refl
pad-texts false u r d l = ap (λ (m : List ℕ). sets m r.name.at (decimal r.size)) (dir-text (not u) d l pad_directory_name)

pad-dirs : (t u : Bool) (r : Row) (d : NewDir) (l : List ℕ)
    → pad_dir_written (then_some (not t) r) (then_some (not t && not u) d) l ≡ put_dir_if (not t && not u) l d.slot d.text
pad-dirs true u r d l = refl
pad-dirs false u r d l = dir-row (not u) d l

pad-rows : (t : Bool) (r : Row) (n : ℕ) (l : List ℕ) → pad_row_written n (then_some (not t) r) l ≡ cond t l (put_row l (n + 1) r)
pad-rows true r n l = refl
pad-rows false r n l = refl

module _ (s : Store) (m : Model) (a : Addition) where
  abbrev fs : FileStorage
  fs = s.fs

  abbrev own : NewDir
  own = record { slot = fs.num_paths; text = record { at = directory_start fs m a; len = length (directory_new m a) } }

  abbrev pads : NewDir
  pads = record { slot = length (with_directory_of (directory_added m a) m.directories); text = record { at = pad_directory_start fs m a; len = 4 } }

  abbrev new : Bool
  new = is_new_directory (directory_added m a) m.directories

  abbrev pad_there : Bool
  pad_there = is_among pad_directory_name (with_directory_of (directory_added m a) m.directories)

  abbrev area : List ℕ
  area = renamed fs.num_files (old_name fs) fs.text_len s.text

  pub text-is : (x dir name link : List ℕ) (kind : PathKind) → TextsOf m a x kind dir name link
      → text_written fs.num_files fs.text_len (plan_of fs m a) s.text x dir name link ≡ text_added s m a
  text-is x dir name link kind t =
      let d : cond new dir [] ≡ directory_new m a =
      subst (λ (p : Directory). cond (is_new_directory p m.directories) dir [] ≡ new_text_of p m.directories) t.dir-is (new-dir kind dir m.directories) in
      let p : cond (is_new_pad m a) pad_directory_name [] ≡ pad_directory_new m a = new-pad (eqb (pad_of m a) 0) pad_there pad_directory_name in
      pad-texts (eqb (pad_of m a) 0) pad_there (row_of_pad fs m a) pads
      (text_before_pad fs.num_files fs.text_len (plan_of fs m a) s.text x dir name link)
      ∙ ap (λ (l : List ℕ). sets (sets (sets (sets l (name_start fs m a) name) (link_start fs m a) link) (pad_directory_start fs m a) (cond (is_new_pad m a) pad_directory_name [])) (pad_name_start fs m a) (pad_text m a))
      (dir-text new own (sets area (text_kept fs) x) dir)
      ∙ all area t.set_is d t.name-is t.link-is p
      ∙ sym (sets-joined area (text_kept fs) (new_texts m a))
    where
      all : (t : List ℕ) {c d n l p c' d' n' l' p' : List ℕ} → c ≡ c' → d ≡ d' → n ≡ n' → l ≡ l' → p ≡ p'
          → sets (sets (sets (sets (sets (sets t (text_kept fs) c) (directory_start fs m a) d) (name_start fs m a) n) (link_start fs m a) l) (pad_directory_start fs m a) p) (pad_name_start fs m a) (pad_text m a)
          ≡ sets (sets (sets (sets (sets (sets t (text_kept fs) c') (directory_start fs m a) d') (name_start fs m a) n') (link_start fs m a) l') (pad_directory_start fs m a) p') (pad_name_start fs m a) (pad_text m a)
      all t e f g h i = rw (e, f, g, h, i)

  -- ---- rows and directory rows

  pub rows_are : rows_written fs.num_files (plan_of fs m a) s.rows ≡ rows_added s m a
  rows_are = pad-rows (eqb (pad_of m a) 0) (row_of_pad fs m a) fs.num_files (put_row s.rows fs.num_files (row_added fs m a))

  pub dirs-are : dirs_written fs.num_files fs.num_paths (plan_of fs m a) s.dirs ≡ dirs_added s m a
  dirs-are =
      pad-dirs (eqb (pad_of m a) 0) pad_there (row_of_pad fs m a) pads (dirs_before_pad fs.num_files fs.num_paths (plan_of fs m a) s.dirs)
      ∙ ap (λ (l : List ℕ). put_dir_if (is_new_pad m a) l pads.slot pads.text) (dir-row new own (dirs_renamed fs.num_files (old_name fs) fs.num_paths s.dirs))
