-- An addition in stages, each of which may leave the tables as they are: the set's name, the file's directory, its row, the
-- pad's directory and the pad's row, and last what no text or row depends on. Each keeps the tables in order. Relies on
-- Added/SetName.antt, Added/Directories.antt and Added/Files.antt.
use mathlib.Core.Path.{◌≡◌, refl, sym, ap, ◌∙◌}
use mathlib.Core.Bool.{Bool, true, false, cond}
use mathlib.Core.List.{List, [], ◌∷◌, ◌++◌, append-nil}
use Prim.Native.Nat.{ℕ, ◌+◌, ◌-◌, ◌*◌, ◌≤◌}
use native.Mathlib.Omega.{arith}
use lib.ListN.{length}
use Rattle.tables.specs.declared.span.Span.{Span}
use Rattle.tables.specs.Rows.{root_at, has}
use Rattle.tables.specs.Model.{File, Store, directory_of, view_of}
use Rattle.plan.specs.Write.{roots_added}
use Rattle.sound.specs.Sound.{TextId, set_name, dir_name, file_name, link_text, nowhere, span_of, Sound}
use Rattle.sound.proofs.Added.Texts.{file_from}
use Rattle.sound.proofs.Added.SetName.{name_stage, sound-named, named-name, named-directories, named-files}
use Rattle.sound.proofs.Added.Directories.{dir_stage, sound-dir, dir-name, dir-directories, dir-files}
use Rattle.sound.proofs.Added.Files.{NewFile, row_for, pad_stage, Fitting, sound-file, file-name, file-directories, file-files}

-- ---- the set's name

name-stays : (s : Store) (c : Span) (t : List ℕ) → c ≡ nowhere → t ≡ [] → name_stage false s c t ≡ s
name-stays s c t e f =
    rw (e, f)
    (let p : s.fs.text_len - 0 + 0 ≡ s.fs.text_len = omega arith in
    rw p)

-- the stage is one or the other
pub data Named (s : Store) (c : Span) (t : List ℕ) : Bool → Type 0 where
  again : c ≡ s.fs.name → s.fs.num_files ≡ 0 → Named s c t true
  stays : c ≡ nowhere → t ≡ [] → Named s c t false

module _ (s : Store) (c : Span) (t : List ℕ) (ok : Sound s) (space : s.fs.text_len - c.len + length t ≤ length s.text) where
  pub sound-name-stage : (b : Bool) → Named s c t b → Sound (name_stage b s c t)
  sound-name-stage true (again e z) = rw e (sound-named s t ok z (rw e at space))
  sound-name-stage false (stays e f) = rw (name-stays s c t e f) ok

  pub name-stage-name : (b : Bool) → Named s c t b → (view_of (name_stage b s c t)).name ≡ cond b t (view_of s).name
  name-stage-name true (again e z) = rw e (named-name s t ok z (rw e at space))
  name-stage-name false (stays e f) = ap (λ (x : Store). (view_of x).name) (name-stays s c t e f)

  pub name-stage-directories : (b : Bool) → Named s c t b → (view_of (name_stage b s c t)).directories ≡ (view_of s).directories
  name-stage-directories true (again e z) = rw e (named-directories s t ok z (rw e at space))
  name-stage-directories false (stays e f) = ap (λ (x : Store). (view_of x).directories) (name-stays s c t e f)

  pub name-stage-files : (b : Bool) → Named s c t b → (view_of (name_stage b s c t)).files ≡ (view_of s).files
  name-stage-files true (again e z) = rw e (named-files s t ok z (rw e at space))
  name-stage-files false (stays e f) = ap (λ (x : Store). (view_of x).files) (name-stays s c t e f)

-- ---- a directory

dir-stays : (s : Store) (d : List ℕ) → d ≡ [] → dir_stage false s d ≡ s
dir-stays s d e =
    rw e
    (let p : s.fs.text_len + 0 ≡ s.fs.text_len = omega arith in
    let q : s.fs.num_paths + 0 ≡ s.fs.num_paths = omega arith in
    rw (p, q))

module _ (s : Store) (d : List ℕ) (ok : Sound s) (space : s.fs.text_len + length d ≤ length s.text) where
  pub sound-dir-stage : (b : Bool) → (b ≡ false → d ≡ []) → s.fs.num_paths + cond b 1 0 ≤ 65535 → (s.fs.num_paths + cond b 1 0) * 2 ≤ length s.dirs → Sound (dir_stage b s d)
  sound-dir-stage true e few room = sound-dir s d ok few room space
  sound-dir-stage false e few room = rw (dir-stays s d (e refl)) ok

  pub dir-stage-name : (b : Bool) → (b ≡ false → d ≡ []) → s.fs.num_paths + cond b 1 0 ≤ 65535 → (s.fs.num_paths + cond b 1 0) * 2 ≤ length s.dirs → (view_of (dir_stage b s d)).name ≡ (view_of s).name
  dir-stage-name true e few room = dir-name s d ok few room space
  dir-stage-name false e few room = ap (λ (x : Store). (view_of x).name) (dir-stays s d (e refl))

  pub dir-stage-files : (b : Bool) → (b ≡ false → d ≡ []) → s.fs.num_paths + cond b 1 0 ≤ 65535 → (s.fs.num_paths + cond b 1 0) * 2 ≤ length s.dirs → (view_of (dir_stage b s d)).files ≡ (view_of s).files
  dir-stage-files true e few room = dir-files s d ok few room space
  dir-stage-files false e few room = ap (λ (x : Store). (view_of x).files) (dir-stays s d (e refl))

  pub dir-stage-directories : (b : Bool) → (b ≡ false → d ≡ []) → s.fs.num_paths + cond b 1 0 ≤ 65535 → (s.fs.num_paths + cond b 1 0) * 2 ≤ length s.dirs
      → (view_of (dir_stage b s d)).directories ≡ cond b ((view_of s).directories ++ (d ∷ [])) (view_of s).directories
  dir-stage-directories true e few room = dir-directories s d ok few room space
  dir-stage-directories false e few room = ap (λ (x : Store). (view_of x).directories) (dir-stays s d (e refl))

-- ---- the pad's row, unless there is no pad

-- no pad
pub record Bare (f : NewFile) : Type 0 where
  pub name : f.name ≡ []
  pub link : f.link ≡ []
  pub size : f.size ≡ 0

nothing : (b : Bool) (n : ℕ) → n ≡ 0 → cond b 0 n ≡ 0
nothing true n e = refl
nothing false n e = e

pad-stays : (s : Store) (f : NewFile) → Bare f → pad_stage true s f ≡ s
pad-stays s f e =
    rw (e.name, e.link, nothing (has f.flags 1) f.size e.size, e.size)
    (let o : s.fs.size_on_disk + 0 ≡ s.fs.size_on_disk = omega arith in
    let p : s.fs.text_len + 0 + 0 ≡ s.fs.text_len = omega arith in
    let q : s.fs.num_files + 0 ≡ s.fs.num_files = omega arith in
    let r : s.fs.total_size + 0 ≡ s.fs.total_size = omega arith in
    rw (o, p, q, r))

-- the stage is one or the other
pub data Padded (s : Store) (f : NewFile) : Bool → Type 0 where
  none : Bare f → Padded s f true
  some : Fitting s f → Padded s f false

abbrev pub file_in : Store → NewFile → File
file_in s f =
    file_from
    (row_for s.fs.total_size s.fs.text_len f)
    f.name
    (directory_of s (row_for s.fs.total_size s.fs.text_len f))
    f.link
    (root_at (roots_added s.roots s.fs.num_files f.root) s.fs.num_files)

module _ (s : Store) (f : NewFile) (ok : Sound s) where
  pub sound-pad-stage : (b : Bool) → Padded s f b → Sound (pad_stage b s f)
  sound-pad-stage true (none e) = rw (pad-stays s f e) ok
  sound-pad-stage false (some fit) = sound-file s f ok fit

  pub pad-stage-name : (b : Bool) → Padded s f b → (view_of (pad_stage b s f)).name ≡ (view_of s).name
  pad-stage-name true (none e) = ap (λ (x : Store). (view_of x).name) (pad-stays s f e)
  pad-stage-name false (some fit) = file-name s f ok fit

  pub pad-stage-directories : (b : Bool) → Padded s f b → (view_of (pad_stage b s f)).directories ≡ (view_of s).directories
  pad-stage-directories true (none e) = ap (λ (x : Store). (view_of x).directories) (pad-stays s f e)
  pad-stage-directories false (some fit) = file-directories s f ok fit

  pub pad-stage-files : (b : Bool) → Padded s f b → (view_of (pad_stage b s f)).files ≡ (view_of s).files ++ cond b [] (file_in s f ∷ [])
  pad-stage-files true (none e) = ap (λ (x : Store). (view_of x).files) (pad-stays s f e) ∙ sym (append-nil (view_of s).files)
  pad-stage-files false (some fit) = file-files s f ok fit

-- ---- what no text or row depends on

abbrev pub settled : Store → Bool → ℕ → List ℕ → Store
settled s v2 links firsts =
    record {
      fs = record {
        piece_length = s.fs.piece_length;
        v2 = v2;
        num_files = s.fs.num_files;
        num_paths = s.fs.num_paths;
        num_symlinks = links;
        name = s.fs.name;
        text_len = s.fs.text_len;
        total_size = s.fs.total_size;
        size_on_disk = s.fs.size_on_disk;
        trimmed = s.fs.trimmed;
        indexed = s.fs.indexed;
      };
      rows = s.rows;
      roots = s.roots;
      firsts = firsts;
      dirs = s.dirs;
      text = s.text;
    }

span-settled : (s : Store) (v2 : Bool) (links : ℕ) (firsts : List ℕ) (p : TextId) → span_of (settled s v2 links firsts) p ≡ span_of s p
span-settled s v2 links firsts set_name = refl
span-settled s v2 links firsts (dir_name k) = refl
span-settled s v2 links firsts (file_name k) = refl
span-settled s v2 links firsts (link_text k) = refl

pub sound-settled : (s : Store) (v2 : Bool) (links : ℕ) (firsts : List ℕ) → Sound s → Sound (settled s v2 links firsts)
sound-settled s v2 links firsts ok =
    record {
      rows-hold = ok.rows-hold;
      roots-hold = ok.roots-hold;
      dirs-hold = ok.dirs-hold;
      text-holds = ok.text-holds;
      few-files = ok.few-files;
      few-paths = ok.few-paths;
      within = λ p. rw (span-settled s v2 links firsts p) (ok.within p);
      apart = λ p q d. rw (span-settled s v2 links firsts p, span-settled s v2 links firsts q) (ok.apart p q d);
      full = ok.full;
      offsets = ok.offsets;
      total = ok.total;
      limited = ok.limited;
      on-disk = ok.on-disk;
      unlinked = ok.unlinked;
      placed = ok.placed;
      indexed = ok.indexed;
    }
