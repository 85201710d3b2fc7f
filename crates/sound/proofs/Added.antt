-- An addition that is not refused: on tables in order it leaves tables in order, and they mean the set that the model adds
-- to. Relies on Added/Answer.antt for the bounds and on the stages of an addition.
pub mod TextNeeded
pub mod Answer
pub mod Texts
pub mod Directories
pub mod Files
pub mod SetName
pub mod Stages
pub mod Places
pub mod Whole
use Rattle.std.specs.Prelude.{Option, Some, None}
use mathlib.Core.Path.{◌≡◌, refl, sym, ap, ◌∙◌}
use mathlib.Core.Bool.{Bool, true, false, cond, not, ◌&&◌}
use mathlib.Core.List.{List, [], ◌∷◌, ◌++◌, append_assoc}
use Prim.Native.Nat.{ℕ, ◌+◌, ◌-◌, ◌*◌, ◌%◌, ◌≤◌, ◌<◌}
use native.Mathlib.Omega.{arith}
use lib.Dec.{eqb}
use lib.IntN.{ℤ, pos}
use lib.ListN.{length}
use lib.Seq.{sets, length-sets}
use borrow.Author.Tests.{eqb-true}
use Rattle.lists.specs.Decimal.{decimal}
use Rattle.types.proofs.Zigzag.{zigzag-back}
use Rattle.tables.specs.declared.span.Span.{Span}
use Rattle.tables.specs.Span.{slid}
use Rattle.tables.specs.Rows.{has, root_at, dir_words, dirs_lowered}
use Rattle.tables.specs.Model.{present_if, Directory, single, absolute, stored, is_pad, File, Model, Store, file_of, directory_text, view_of}
use Rattle.tables.proofs.Spans.{clip-same, length-slid}
use Rattle.tables.proofs.Tabled.{length-tabled}
use Rattle.additions.specs.Addition.{Addition, added, files_of, size_added, keeps, pad_of, new_name, directory_added, file_added, pad_added, pad_directory_name, flags_kept, is_among, with_directory, with_directory_of, directories_after, is_present}
use Rattle.plan.specs.Write.{is_outside, text_if_new, new_text_of, set_text, directory_new, name_text, link_new, pad_directory_new, old_name, text_kept, put_dir_if, is_new, is_new_directory, is_new_pad, roots_added, on_disk_added, storage_added, store_added}
use Rattle.rules.specs.Bounds.{limit}
use Rattle.plan.specs.Outcomes.{adding_number}
use Rattle.sound.specs.Sound.{set_name, Sound}
use Rattle.sound.proofs.Added.Answer.{Fits, fits}
use Rattle.sound.proofs.Added.Files.{row_for, Fitting, length-roots, sound-file, file-name, file-directories, file-files, file-root}
use Rattle.sound.proofs.Added.Stages.{Named, again, stays, sound-name-stage, name-stage-name, name-stage-directories, name-stage-files, sound-dir-stage, dir-stage-name, dir-stage-directories, dir-stage-files, Padded, none, some, file_in, sound-pad-stage, pad-stage-name, pad-stage-directories, pad-stage-files, sound-settled}
use Rattle.sound.proofs.Added.Places.{leads, index-placed, index-small, place_at_lem, flags-small, flags-low, flags-link, flags-outside, flags-made, flags-root, kept_small}
use Rattle.sound.proofs.Added.Whole.{new_file, new_pad, stage1, stage2, stage3, stage4, stage5, stage6, count-place, count-pad, count-files, on-disk-is, whole}

-- ---- what is not put is empty

missing-none : (d : List ℕ) (ds : List (List ℕ)) → is_new d ds ≡ false → text_if_new d ds ≡ []
missing-none d ds e = at (is_among d ds) e
  where
    at : (b : Bool) → not b ≡ false → cond b [] d ≡ []
    at true q = refl
    at false q = let z : ◌≡◌ {A = ℕ} 0 1 = cc in absurd (omega arith)

place_none : (p : Directory) (ds : List (List ℕ)) → is_new_directory p ds ≡ false → new_text_of p ds ≡ []
place_none single ds e = refl
place_none absolute ds e = refl
place_none (stored d o) ds e = missing-none d ds e

pad-none : (b : Bool) (d : List ℕ) (ds : List (List ℕ)) → (not b && is_new d ds) ≡ false → cond b [] (text_if_new d ds) ≡ []
pad-none true d ds e = refl
pad-none false d ds e = missing-none d ds e

-- ---- lengths that stay

length-put : (b : Bool) (dirs : List ℕ) (i : ℕ) (x : Span) → length (put_dir_if b dirs i x) ≡ length dirs
length-put true dirs i x = length-sets dirs (i * 2) (dir_words x)
length-put false dirs i x = refl

length-lowered : (dirs : List ℕ) (k : ℕ) (c : Span) → length (dirs_lowered dirs k c) ≡ length dirs
length-lowered dirs k c = simp length-sets

length-either : (b : Bool) (x y : List ℕ) → length x ≡ length y → length (cond b x y) ≡ length y
length-either true x y e = e
length-either false x y e = refl

-- ---- directories and files as the model adds them

one-put : (b : Bool) (d : List ℕ) (ds : List (List ℕ)) → cond (not b) (ds ++ (cond b [] d ∷ [])) ds ≡ cond b ds (ds ++ (d ∷ []))
one-put true d ds = refl
one-put false d ds = refl

place-put : (p : Directory) (ds : List (List ℕ)) → cond (is_new_directory p ds) (ds ++ (new_text_of p ds ∷ [])) ds ≡ with_directory_of p ds
place-put single ds = refl
place-put absolute ds = refl
place-put (stored d o) ds = one-put (is_among d ds) d ds

pad-put : (b : Bool) (d : List ℕ) (ds : List (List ℕ)) → cond (not b && is_new d ds) (ds ++ (cond b [] (text_if_new d ds) ∷ [])) ds ≡ cond b ds (with_directory d ds)
pad-put true d ds = refl
pad-put false d ds = one-put (is_among d ds) d ds

link-there : (b : Bool) (l : List ℕ) → present_if b (cond b l []) ≡ present_if b l
link-there true l = refl
link-there false l = refl

abbrev file : ℕ → ℕ → List ℕ → Directory → ℕ → ℤ → Option (List ℕ) → Option (List ℕ) → Bool → File
file o z t d g h l r k =
    record { offset = o; size = z; name = t; directory = d; flags = g; time = h; link = l; root = r; made = k }

same-file : {o o' z g g' : ℕ} {t t' : List ℕ} {d d' : Directory} {h h' : ℤ} {l l' r r' : Option (List ℕ)} {k k' : Bool} → o ≡ o' → t ≡ t' → d ≡ d' → g ≡ g' → h ≡ h' → l ≡ l' → r ≡ r' → k ≡ k' → file o z t d g h l r k ≡ file o' z t' d' g' h' l' r' k'
same-file eo et ed eg eh el er ek = cc

abbrev pad_file : ℕ → ℕ → File
pad_file o k = file o k (decimal k) (stored pad_directory_name false) 1 (pos 0) None None true

pad-there : (o k : ℕ) (x : File) → (eqb k 0 ≡ false → x ≡ pad_file o k) → cond (eqb k 0) [] (x ∷ []) ≡ pad_added o k
pad-there o k x e = at (eqb k 0) e
  where
    at : (b : Bool) → (b ≡ false → x ≡ pad_file o k) → cond b [] (x ∷ []) ≡ cond b [] (pad_file o k ∷ [])
    at true f = refl
    at false f = ap (λ (y : File). y ∷ []) (f refl)

abbrev model : ℕ → Bool → List ℕ → List File → List (List ℕ) → ℕ → ℕ → ℕ → Bool → Model
model p v t f d l z o b =
    record { piece_length = p; v2 = v; name = t; files = f; directories = d; links = l; total = z; on_disk = o; trimmed = b }

same-model : {p p' l l' z z' o o' : ℕ} {v b b' : Bool} {t t' : List ℕ} {f f' : List File} {d d' : List (List ℕ)}
    → p ≡ p' → t ≡ t' → f ≡ f' → d ≡ d' → l ≡ l' → z ≡ z' → o ≡ o' → b ≡ b' → model p v t f d l z o b ≡ model p' v t' f' d' l' z' o' b'
same-model ep et ef ed el ez eo eb = cc

-- ---- the size on disk

disk-held : (b : Bool) (disk size : ℕ) → disk + size ≤ limit → on_disk_added disk (cond b 0 size) ≡ disk + cond b 0 size
disk-held true disk size h = omega arith
disk-held false disk size h = omega arith

-- on tables in order 64 bits hold the size on disk after an addition: it is the sum itself
pub disk-plain : (s : Store) (a : Addition) → Sound s → s.fs.total_size + size_added a ≤ limit
    → on_disk_added s.fs.size_on_disk (cond (is_pad a.flags) 0 (size_added a))
    ≡ s.fs.size_on_disk + cond (is_pad a.flags) 0 (size_added a)
disk-plain s a ok h = disk-held (is_pad a.flags) s.fs.size_on_disk (size_added a) (omega (arith, ok.on-disk))

module _ (s : Store) (m : Model) (a : Addition) (ok : Sound s) (is : view_of s ≡ m) (fit : Fits s m a) (rooted : (r : List ℕ) → a.root ≡ Some r → length r ≡ 32) where
  abbrev n : ℕ
  n = s.fs.num_files

  abbrev ds : List (List ℕ)
  ds = m.directories

  abbrev place : Directory
  place = directory_added m a

  files-count : files_of m ≡ n
  files-count = ap files_of (sym is) ∙ length-tabled n (file_of s)

  dirs-count : length ds ≡ s.fs.num_paths
  dirs-count = ap (λ (x : Model). length x.directories) (sym is) ∙ length-tabled s.fs.num_paths (directory_text s)

  -- ---- the set's name

  naming : Named s (old_name s.fs) (set_text m a) (eqb n 0)
  naming = at (eqb n 0) refl
    where
      at : (b : Bool) → eqb n 0 ≡ b → Named s (old_name s.fs) (set_text m a) b
      at true q = again (rw q (clip-same s.fs.text_len s.fs.name (ok.within set_name))) (eqb-true n 0 q)
      at false q = stays (rw q) (rw (files-count, q))

  space1 : s.fs.text_len - (old_name s.fs).len + length (set_text m a) ≤ length s.text
  space1 = omega (arith, fit.text-holds)

  sound1 : Sound (stage1 s m a)
  sound1 = sound-name-stage s (old_name s.fs) (set_text m a) ok space1 (eqb n 0) naming

  text1 : length (stage1 s m a).text ≡ length s.text
  text1 =
      length-sets (cond (eqb n 0) (slid (old_name s.fs) s.fs.text_len s.text) s.text) (text_kept s.fs) (set_text m a)
      ∙ length-either (eqb n 0) (slid (old_name s.fs) s.fs.text_len s.text) s.text (length-slid (old_name s.fs) s.fs.text_len s.text)

  dirs1 : length (stage1 s m a).dirs ≡ length s.dirs
  dirs1 =
      length-either (eqb n 0) (dirs_lowered s.dirs s.fs.num_paths (old_name s.fs)) s.dirs (length-lowered s.dirs s.fs.num_paths (old_name s.fs))

  -- ---- the file's directory

  abbrev new2 : Bool
  new2 = is_new_directory place ds

  paths2 : s.fs.num_paths + cond new2 1 0 ≡ length (with_directory_of place ds)
  paths2 = omega (arith, dirs-count, count-place place ds)

  paths4 : length (with_directory_of place ds) + cond (is_new_pad m a) 1 0 ≡ length (added m a).directories
  paths4 = omega (arith, count-pad (eqb (pad_of m a) 0) pad_directory_name (with_directory_of place ds))

  few2 : s.fs.num_paths + cond new2 1 0 ≤ 65535
  few2 = omega (arith, paths2, paths4, fit.few-paths)

  room2 : (s.fs.num_paths + cond new2 1 0) * 2 ≤ length (stage1 s m a).dirs
  room2 = omega (arith, paths2, paths4, fit.dirs-hold, dirs1)

  space2 : (stage1 s m a).fs.text_len + length (directory_new m a) ≤ length (stage1 s m a).text
  space2 = omega (arith, fit.text-holds, text1)

  sound2 : Sound (stage2 s m a)
  sound2 = sound-dir-stage (stage1 s m a) (directory_new m a) sound1 space2 new2 (place_none place ds) few2 room2

  text2 : length (stage2 s m a).text ≡ length s.text
  text2 = length-sets (stage1 s m a).text (stage1 s m a).fs.text_len (directory_new m a) ∙ text1

  dirs2 : length (stage2 s m a).dirs ≡ length s.dirs
  dirs2 = length-put new2 (stage1 s m a).dirs s.fs.num_paths _ ∙ dirs1

  -- ---- the file

  abbrev kept_flags : ℕ
  kept_flags = flags_kept a.flags (keeps m a)

  links-is : has (new_file m a).flags 16 ≡ keeps m a
  links-is = flags-link kept_flags (keeps m a) (is_outside place) (is_present a.root) (kept_small a.flags (keeps m a))

  fitting3 : Fitting (stage2 s m a) (new_file m a)
  fitting3 =
      record {
        few = omega (arith, fit.few-files, count-files m a, files-count);
        rows-hold = omega (arith, fit.rows-hold, count-files m a, files-count);
        roots-hold = omega (arith, fit.roots-hold, count-files m a, files-count);
        text-holds = omega (arith, fit.text-holds, text2);
        limited = omega (arith, fit.limited, ap (λ (x : Model). x.total) is);
        flagged = flags-small kept_flags (keeps m a) (is_outside place) (is_present a.root) (kept_small a.flags (keeps m a));
        rooted = rooted;
        unlinked = λ e. unlinked (keeps m a) (sym links-is ∙ e);
        placed = λ h. omega (arith, index-placed place ds h, paths2);
        indexed = index-small place ds (omega (arith, paths4, fit.few-paths));
      }
    where
      unlinked : (b : Bool) → b ≡ false → length (cond b a.link []) ≡ 0
      unlinked true e = let z : ◌≡◌ {A = ℕ} 0 1 = cc in absurd (omega arith)
      unlinked false e = refl

  sound3 : Sound (stage3 s m a)
  sound3 = sound-file (stage2 s m a) (new_file m a) sound2 fitting3

  -- ---- the pad's directory

  few4 : (stage3 s m a).fs.num_paths + cond (is_new_pad m a) 1 0 ≤ 65535
  few4 = omega (arith, paths2, paths4, fit.few-paths)

  room4 : ((stage3 s m a).fs.num_paths + cond (is_new_pad m a) 1 0) * 2 ≤ length (stage3 s m a).dirs
  room4 = omega (arith, paths2, paths4, fit.dirs-hold, dirs2)

  text3 : length (stage3 s m a).text ≡ length s.text
  text3 =
      length-sets (sets (stage2 s m a).text (stage2 s m a).fs.text_len (name_text m a)) ((stage2 s m a).fs.text_len + length (name_text m a)) (link_new m a)
      ∙ length-sets (stage2 s m a).text (stage2 s m a).fs.text_len (name_text m a)
      ∙ text2

  space4 : (stage3 s m a).fs.text_len + length (pad_directory_new m a) ≤ length (stage3 s m a).text
  space4 = omega (arith, fit.text-holds, text3)

  pad-missing : is_new_pad m a ≡ false → pad_directory_new m a ≡ []
  pad-missing = pad-none (eqb (pad_of m a) 0) pad_directory_name (with_directory_of place ds)

  sound4 : Sound (stage4 s m a)
  sound4 = sound-dir-stage (stage3 s m a) (pad_directory_new m a) sound3 space4 (is_new_pad m a) pad-missing few4 room4

  -- ---- the pad

  text4 : length (stage4 s m a).text ≡ length s.text
  text4 = length-sets (stage3 s m a).text (stage3 s m a).fs.text_len (pad_directory_new m a) ∙ text3

  rows4 : length (stage4 s m a).rows ≡ length s.rows
  rows4 = simp length-sets

  roots4 : length (stage4 s m a).roots ≡ length s.roots
  roots4 = length-roots s.roots n a.root

  padding : Padded (stage4 s m a) (new_pad m a) (eqb (pad_of m a) 0)
  padding = at (eqb (pad_of m a) 0) refl
    where
      at : (b : Bool) → eqb (pad_of m a) 0 ≡ b → Padded (stage4 s m a) (new_pad m a) b
      at true q = none (record { name = rw q; link = refl; size = eqb-true (pad_of m a) 0 q })
      at false q =
          let files : files_of (added m a) ≡ n + 1 + 1 = count-files m a ∙ ap (λ (c : Bool). files_of m + 1 + cond c 0 1) q ∙ omega (arith, files-count) in
          let dirs : (added m a).directories ≡ with_directory pad_directory_name (with_directory_of place ds) = rw q in
          let paths = paths2 in
          let more = paths4 in
          some (record {
            few = omega (arith, fit.few-files);
            rows-hold = omega (arith, fit.rows-hold, rows4);
            roots-hold = omega (arith, fit.roots-hold, roots4);
            text-holds = omega (arith, fit.text-holds, text4);
            limited = omega (arith, fit.limited, ap (λ (x : Model). x.total) is);
            flagged = omega arith;
            rooted = λ r e. let z : ◌≡◌ {A = ℕ} 0 1 = cc in absurd (omega arith);
            unlinked = λ e. refl;
            placed = λ h. omega (arith, (place_at_lem pad_directory_name (with_directory_of place ds)).0, ap length dirs);
            indexed = omega (arith, (place_at_lem pad_directory_name (with_directory_of place ds)).0, ap length dirs, fit.few-paths);
          })

  sound5 : Sound (stage5 s m a)
  sound5 = sound-pad-stage (stage4 s m a) (new_pad m a) sound4 (eqb (pad_of m a) 0) padding

  -- ---- the rest

  sound6 : Sound (stage6 s m a)
  sound6 = sound-settled (stage5 s m a) _ _ _ sound5

  plain : (storage_added s.fs m a).size_on_disk ≡ s.fs.size_on_disk + cond (is_pad a.flags) 0 (size_added a)
  plain = disk-plain s a ok (omega (arith, fit.limited, ap (λ (x : Model). x.total) is))

  sound-whole : Sound (store_added s m a)
  sound-whole = rw (whole s m a dirs-count plain) sound6

  -- ---- what the tables mean

  name-is : (view_of (stage6 s m a)).name ≡ new_name m a
  name-is =
      pad-stage-name (stage4 s m a) (new_pad m a) sound4 (eqb (pad_of m a) 0) padding
      ∙ dir-stage-name (stage3 s m a) (pad_directory_new m a) sound3 space4 (is_new_pad m a) pad-missing few4 room4
      ∙ file-name (stage2 s m a) (new_file m a) sound2 fitting3
      ∙ dir-stage-name (stage1 s m a) (directory_new m a) sound1 space2 new2 (place_none place ds) few2 room2
      ∙ name-stage-name s (old_name s.fs) (set_text m a) ok space1 (eqb n 0) naming
      ∙ at (eqb n 0) refl
    where
      at : (b : Bool) → eqb n 0 ≡ b → cond (eqb n 0) (set_text m a) (view_of s).name ≡ new_name m a
      at true q = rw (files-count, q)
      at false q = rw (files-count, q) (ap (λ (x : Model). x.name) is)

  directories2 : (view_of (stage2 s m a)).directories ≡ with_directory_of place ds
  directories2 =
      dir-stage-directories (stage1 s m a) (directory_new m a) sound1 space2 new2 (place_none place ds) few2 room2
      ∙ ap (λ (l : List (List ℕ)). cond new2 (l ++ (directory_new m a ∷ [])) l)
      (name-stage-directories s (old_name s.fs) (set_text m a) ok space1 (eqb n 0) naming ∙ ap (λ (x : Model). x.directories) is)
      ∙ place-put place ds

  directories4 : (view_of (stage4 s m a)).directories ≡ directories_after m a
  directories4 =
      dir-stage-directories (stage3 s m a) (pad_directory_new m a) sound3 space4 (is_new_pad m a) pad-missing few4 room4
      ∙ ap (λ (l : List (List ℕ)). cond (is_new_pad m a) (l ++ (pad_directory_new m a ∷ [])) l)
      (file-directories (stage2 s m a) (new_file m a) sound2 fitting3 ∙ directories2)
      ∙ pad-put (eqb (pad_of m a) 0) pad_directory_name (with_directory_of place ds)

  directories-is : (view_of (stage6 s m a)).directories ≡ directories_after m a
  directories-is = pad-stage-directories (stage4 s m a) (new_pad m a) sound4 (eqb (pad_of m a) 0) padding ∙ directories4

  file-is : file_in (stage2 s m a) (new_file m a) ≡ file_added m a
  file-is =
      same-file
      (ap (λ (x : Model). x.total) is)
      refl
      (leads (stage2 s m a) ds sound2.few-paths place (row_for (stage2 s m a).fs.total_size (stage2 s m a).fs.text_len (new_file m a)) directories2 refl (flags-outside kept_flags (keeps m a) (is_outside place) (is_present a.root) small))
      (flags-low kept_flags (keeps m a) (is_outside place) (is_present a.root) small)
      (zigzag-back a.time)
      (ap (λ (b : Bool). present_if b (link_new m a)) links-is ∙ link-there (keeps m a) a.link)
      (ap (λ (b : Bool). present_if b (root_at (roots_added (stage2 s m a).roots n a.root) n)) (flags-root kept_flags (keeps m a) (is_outside place) (is_present a.root) small) ∙ file-root (stage2 s m a) (new_file m a) sound2 fitting3)
      (flags-made kept_flags (keeps m a) (is_outside place) (is_present a.root) small)
    where
      small : kept_flags < 16
      small = kept_small a.flags (keeps m a)

  pad-is : cond (eqb (pad_of m a) 0) [] (file_in (stage4 s m a) (new_pad m a) ∷ []) ≡ pad_added (m.total + size_added a) (pad_of m a)
  pad-is = pad-there (m.total + size_added a) (pad_of m a) (file_in (stage4 s m a) (new_pad m a)) there
    where
      there : eqb (pad_of m a) 0 ≡ false → file_in (stage4 s m a) (new_pad m a) ≡ pad_file (m.total + size_added a) (pad_of m a)
      there q =
          same-file
          (ap (λ (x : Model). x.total + size_added a) is)
          (ap (λ (b : Bool). cond b [] (decimal (pad_of m a))) q)
          (leads (stage4 s m a) (with_directory_of place ds) sound4.few-paths (stored pad_directory_name false) (row_for (stage4 s m a).fs.total_size (stage4 s m a).fs.text_len (new_pad m a))
          (directories4 ∙ ap (λ (b : Bool). cond b (with_directory_of place ds) (with_directory pad_directory_name (with_directory_of place ds))) q)
          refl
          refl)
          refl
          refl
          refl
          refl
          refl

  files-is : (view_of (stage6 s m a)).files ≡ (added m a).files
  files-is =
      pad-stage-files (stage4 s m a) (new_pad m a) sound4 (eqb (pad_of m a) 0) padding
      ∙ ap (λ (l : List File). (view_of (stage4 s m a)).files ++ l) pad-is
      ∙ ap (λ (l : List File). l ++ pad_added (m.total + size_added a) (pad_of m a)) before
      ∙ append_assoc m.files (file_added m a ∷ []) (pad_added (m.total + size_added a) (pad_of m a))
    where
      before : (view_of (stage4 s m a)).files ≡ m.files ++ (file_added m a ∷ [])
      before =
          dir-stage-files (stage3 s m a) (pad_directory_new m a) sound3 space4 (is_new_pad m a) pad-missing few4 room4
          ∙ file-files (stage2 s m a) (new_file m a) sound2 fitting3
          ∙ ap (λ (l : List File). l ++ (file_in (stage2 s m a) (new_file m a) ∷ []))
          (dir-stage-files (stage1 s m a) (directory_new m a) sound1 space2 new2 (place_none place ds) few2 room2
          ∙ name-stage-files s (old_name s.fs) (set_text m a) ok space1 (eqb n 0) naming
          ∙ ap (λ (x : Model). x.files) is)
          ∙ ap (λ (f : File). m.files ++ (f ∷ [])) file-is

  view-whole : view_of (store_added s m a) ≡ added m a
  view-whole =
      ap view_of (whole s m a dirs-count plain)
      ∙ same-model
      (ap (λ (x : Model). x.piece_length) is)
      name-is
      files-is
      directories-is
      (ap (λ (x : Model). x.links + cond (keeps m a) 1 0) is)
      (ap (λ (x : Model). x.total + size_added a + pad_of m a) is)
      (sym (on-disk-is s m a dirs-count plain) ∙ ap (λ (x : Model). x.on_disk + cond (eqb (a.flags % 2) 1) 0 (size_added a)) is)
      (ap (λ (x : Model). x.trimmed) is)

-- ---- the laws

module _ (s : Store) (a : Addition) (ok : Sound s) (zero : adding_number s (view_of s) a ≡ 0) (rooted : (r : List ℕ) → a.root ≡ Some r → length r ≡ 32) where
  pub view-added : view_of (store_added s (view_of s) a) ≡ added (view_of s) a
  view-added = view-whole s (view_of s) a ok refl (fits s (view_of s) a zero) rooted

  pub sound-added : Sound (store_added s (view_of s) a)
  sound-added = sound-whole s (view_of s) a ok refl (fits s (view_of s) a zero) rooted
