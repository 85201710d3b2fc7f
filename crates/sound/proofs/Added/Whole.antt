-- An addition as a whole is its stages one after the other. Relies on Added/Stages.antt and on the law of texts in a row of `plan`.
use Rattle.std.specs.Prelude.{None}
use mathlib.Core.Path.{◌≡◌, refl, ap, ◌∙◌}
use mathlib.Core.Bool.{Bool, true, false, cond, not, ◌&&◌}
use mathlib.Core.List.{List, [], ◌∷◌, ◌++◌}
use Prim.Native.Nat.{ℕ, ◌+◌, ◌%◌}
use native.Mathlib.Omega.{arith}
use lib.Dec.{eqb}
use lib.ListN.{length, length-append}
use Rattle.types.specs.Signed.{zigzag}
use Rattle.tables.specs.declared.storage.FileStorage.{FileStorage}
use Rattle.tables.specs.Span.{slid}
use Rattle.tables.specs.Rows.{has}
use Rattle.tables.specs.Model.{Directory, single, absolute, stored, Model, Store, store_of}
use Rattle.additions.specs.Addition.{Addition, added, files_of, size_added, keeps, is_v2, pad_of, directory_added, file_added, pad_added, pad_directory_name, flags_kept, is_among, with_directory, with_directory_of, is_present}
use Rattle.plan.specs.Write.{directory_index, path_index_of, is_outside, text_if_new, new_texts, set_text, directory_new, name_text, link_new, pad_directory_new, pad_text, old_name, text_kept, put_dir_if, is_new, is_new_directory, is_new_pad, roots_added, storage_added, firsts_added, store_added}
use Rattle.plan.proofs.Joined.{sets-joined}
use Rattle.sound.proofs.Added.SetName.{name_stage}
use Rattle.sound.proofs.Added.Directories.{dir_stage}
use Rattle.sound.proofs.Added.Files.{NewFile, with_file, pad_stage}
use Rattle.sound.proofs.Added.Stages.{settled}
use Rattle.sound.proofs.Added.Places.{flags_of, flags-one, kept_small, kept-one}

-- ---- the stages

abbrev pub new_file : Model → Addition → NewFile
new_file m a =
    record {
      size = size_added a;
      name = name_text m a;
      link = link_new m a;
      index = path_index_of (directory_added m a) m.directories;
      flags = flags_of (flags_kept a.flags (keeps m a)) (keeps m a) (is_outside (directory_added m a)) (is_present a.root);
      time = zigzag a.time;
      root = a.root;
    }

abbrev pub new_pad : Model → Addition → NewFile
new_pad m a =
    record {
      size = pad_of m a;
      name = pad_text m a;
      link = [];
      index = directory_index pad_directory_name (with_directory_of (directory_added m a) m.directories);
      flags = 65;
      time = 0;
      root = None;
    }

abbrev pub stage1 : Store → Model → Addition → Store
stage1 s m a = name_stage (eqb s.fs.num_files 0) s (old_name s.fs) (set_text m a)

abbrev pub stage2 : Store → Model → Addition → Store
stage2 s m a = dir_stage (is_new_directory (directory_added m a) m.directories) (stage1 s m a) (directory_new m a)

abbrev pub stage3 : Store → Model → Addition → Store
stage3 s m a = with_file (stage2 s m a) (new_file m a)

abbrev pub stage4 : Store → Model → Addition → Store
stage4 s m a = dir_stage (is_new_pad m a) (stage3 s m a) (pad_directory_new m a)

abbrev pub stage5 : Store → Model → Addition → Store
stage5 s m a = pad_stage (eqb (pad_of m a) 0) (stage4 s m a) (new_pad m a)

abbrev pub stage6 : Store → Model → Addition → Store
stage6 s m a =
    settled
    (stage5 s m a)
    (is_v2 m a)
    (s.fs.num_symlinks + cond (keeps m a) 1 0)
    (firsts_added s m a)

-- ---- counts

count-new : (b : Bool) (d : List ℕ) (ds : List (List ℕ)) → length (cond b ds (ds ++ (d ∷ []))) ≡ length ds + cond (not b) 1 0
count-new true d ds = omega arith
count-new false d ds = omega (arith, length-append ds (d ∷ []))

pub count-place : (p : Directory) (ds : List (List ℕ)) → length (with_directory_of p ds) ≡ length ds + cond (is_new_directory p ds) 1 0
count-place single ds = omega arith
count-place absolute ds = omega arith
count-place (stored d o) ds = count-new (is_among d ds) d ds

pub count-pad : (b : Bool) (d : List ℕ) (ds : List (List ℕ)) → length (cond b ds (with_directory d ds)) ≡ length ds + cond (not b && is_new d ds) 1 0
count-pad true d ds = omega arith
count-pad false d ds = count-new (is_among d ds) d ds

pub count-files : (m : Model) (a : Addition) → files_of (added m a) ≡ files_of m + 1 + cond (eqb (pad_of m a) 0) 0 1
count-files m a =
    length-append m.files (file_added m a ∷ pad_added (m.total + size_added a) (pad_of m a))
    ∙ at (eqb (pad_of m a) 0) refl
  where
    at : (b : Bool) → eqb (pad_of m a) 0 ≡ b → length m.files + length (file_added m a ∷ pad_added (m.total + size_added a) (pad_of m a)) ≡ files_of m + 1 + cond (eqb (pad_of m a) 0) 0 1
    at true e = rw e (omega arith)
    at false e = rw e (omega arith)

rows-count : (b : Bool) (n : ℕ) → n + cond b 1 2 ≡ n + 1 + cond b 0 1
rows-count true n = omega arith
rows-count false n = omega arith

-- ---- the same store

always : {A : Type 0} (b : Bool) (x : A) → x ≡ cond b x x
always true x = refl
always false x = refl

same_store : {f f' : FileStorage} {r o o' t d d' x x' : List ℕ} → f ≡ f' → o ≡ o' → d ≡ d' → x ≡ x' → store_of f r o t d x ≡ store_of f' r o' t d' x'
same_store ef eo ed ex = cc

pad-dirs : (b : Bool) (dirs : List ℕ) (i j at : ℕ) (t : List ℕ) → i ≡ j → (b ≡ true → length t ≡ 4)
    → put_dir_if b dirs i (record { at = at; len = 4 }) ≡ put_dir_if b dirs j (record { at = at; len = length t })
pad-dirs true dirs i j at t e f = rw (e, f refl)
pad-dirs false dirs i j at t e f = refl

pad-four : (b : Bool) (ds : List (List ℕ)) → (not b && is_new pad_directory_name ds) ≡ true → length (cond b [] (text_if_new pad_directory_name ds)) ≡ 4
pad-four true ds e = let z : ◌≡◌ {A = ℕ} 0 1 = cc in absurd (omega arith)
pad-four false ds e = at (is_among pad_directory_name ds) refl
  where
    at : (b : Bool) → is_among pad_directory_name ds ≡ b → length (text_if_new pad_directory_name ds) ≡ 4
    at true q = let r : not true ≡ true = rw q at e in let z : ◌≡◌ {A = ℕ} 0 1 = cc in absurd (omega arith)
    at false q = rw q

module _ (s : Store) (m : Model) (a : Addition) (e : length m.directories ≡ s.fs.num_paths)
    (plain : (storage_added s.fs m a).size_on_disk ≡ s.fs.size_on_disk + cond (eqb (a.flags % 2) 1) 0 (size_added a))
  where
    pub on-disk-is : s.fs.size_on_disk + cond (eqb (a.flags % 2) 1) 0 (size_added a) ≡ (stage6 s m a).fs.size_on_disk
    on-disk-is =
        let p : has (new_file m a).flags 1 ≡ eqb (a.flags % 2) 1 =
        flags-one (flags_kept a.flags (keeps m a)) (keeps m a) (is_outside (directory_added m a)) (is_present a.root) (kept_small a.flags (keeps m a))
        ∙ ap (λ (x : ℕ). eqb x 1) (kept-one a.flags (keeps m a)) in
        rw p (omega arith)

    pub paths-is : length (added m a).directories ≡ (stage6 s m a).fs.num_paths
    paths-is =
        omega (
          arith,
          count-place (directory_added m a) m.directories,
          count-pad (eqb (pad_of m a) 0) pad_directory_name (with_directory_of (directory_added m a) m.directories),
        )

    dirs-is : (store_added s m a).dirs ≡ (stage6 s m a).dirs
    dirs-is =
        pad-dirs (is_new_pad m a) (stage3 s m a).dirs (length (with_directory_of (directory_added m a) m.directories)) (stage3 s m a).fs.num_paths (stage3 s m a).fs.text_len (pad_directory_new m a)
        (omega (arith, count-place (directory_added m a) m.directories))
        (pad-four (eqb (pad_of m a) 0) (with_directory_of (directory_added m a) m.directories))

    text-is : (store_added s m a).text ≡ (stage6 s m a).text
    text-is =
        sets-joined (cond (eqb s.fs.num_files 0) (slid (old_name s.fs) s.fs.text_len s.text) s.text) (text_kept s.fs) (new_texts m a)

    -- the set's record by what is computed in another way
    abbrev storage : ℕ → ℕ → ℕ → ℕ → FileStorage
    storage files paths text disk =
        record {
          piece_length = s.fs.piece_length;
          v2 = is_v2 m a;
          num_files = files;
          num_paths = paths;
          num_symlinks = s.fs.num_symlinks + cond (keeps m a) 1 0;
          name = cond (eqb s.fs.num_files 0) (record { at = text_kept s.fs; len = length (set_text m a) }) s.fs.name;
          text_len = text;
          total_size = s.fs.total_size + size_added a + pad_of m a;
          size_on_disk = disk;
          trimmed = s.fs.trimmed;
          indexed = s.fs.indexed;
        }

    same-storage : {f f' p p' t t' d d' : ℕ} → f ≡ f' → p ≡ p' → t ≡ t' → d ≡ d' → storage f p t d ≡ storage f' p' t' d'
    same-storage {f} {f'} {p} {p'} {t} {t'} {d} {d'} ef ep et ed =
        ap (λ (x : ℕ). storage x p t d) ef
        ∙ ap (λ (x : ℕ). storage f' x t d) ep
        ∙ ap (λ (x : ℕ). storage f' p' x d) et
        ∙ ap (storage f' p' t') ed

    fs-is : storage_added s.fs m a ≡ (stage6 s m a).fs
    fs-is = same-storage (rows-count (eqb (pad_of m a) 0) s.fs.num_files) paths-is (omega arith) (plain ∙ on-disk-is)

    pub whole : store_added s m a ≡ stage6 s m a
    whole = same_store fs-is (always (eqb (pad_of m a) 0) (roots_added s.roots s.fs.num_files a.root)) dirs-is text-is
