-- What the answers mean: the set that the tables mean (specs/Model.antt of `tables`) has as many files and directories as the
-- answers say, and its file k has the size, offset, name, flags, time, link text, root and paths that they say. Where an
-- answer is a place, the set's text stands there. These laws rely on those of `tables` about places.
use Rattle.std.specs.Prelude.{Option, Some, None}
use Prim.Native.Nat.{ℕ, ◌%◌, ◌/◌, ◌<◌}
use mathlib.Core.Path.{◌≡◌, refl, ap}
use mathlib.Core.Bool.{Bool, true, false, cond, ◌&&◌}
use mathlib.Core.List.{List, [], ◌∷◌}
use native.Mathlib.Omega.{arith}
use lib.Dec.{eqb}
use lib.IntN.{ℤ}
use lib.ListN.{length, get_or, replicate}
use borrow.Author.Tests.{eqb-true}
use Rattle.types.specs.Refusals.{Outcome, value, refused}
use Rattle.path.specs.Join.{appended}
use Rattle.tables.specs.declared.storage.FileStorage.{FileStorage}
use Rattle.tables.specs.declared.span.Span.{Span}
use Rattle.tables.specs.Span.{text_at}
use Rattle.tables.specs.Rows.{row_at, dir_at, no_path, root_at, has}
use Rattle.tables.specs.Model.{present_if, Directory, single, absolute, stored, path_in, File, Store, directory_text, file_of, view_of}
use Rattle.tables.proofs.Tabled.{length-tabled, get_or-tabled}
use Rattle.rules.specs.Rules.{first_of, outcome_of}
use Rattle.rules.specs.Bounds.{clamped_of}
use Rattle.rules.specs.Questions.{bad_piece_length, no_directory, short, few_entries, held_answer, directory_answer, file_answer, link_answer}
use Rattle.answers.specs.Answers.{time_of, root_of, is_absolute, internal_path, symlink_path}
use Rattle.rules.proofs.Deciding.{file_number, link_number}

-- something that may be missing, or what stands for it
abbrev pub or_else : {A : Type 0} → Option A → A → A
or_else None d = d
or_else (Some x) d = x

abbrev pub is_absolute_in : Directory → Bool
is_absolute_in single = false
is_absolute_in absolute = true
is_absolute_in (stored d b) = false

-- the path that a link leads to, with the set's name
abbrev pub link_in : List ℕ → Option (List ℕ) → List ℕ
link_in name None = []
link_in name (Some t) = appended name t

-- an answer that is a place, as the text that stands there
abbrev pub text_said : List ℕ → Outcome Span → Outcome (List ℕ)
text_said text (value s) = value (text_at text s)
text_said text (refused n) = refused n

text-if : (b : Bool) (n : ℕ) (text : List ℕ) (s : Span) → text_said text (cond b (value s) (refused n)) ≡ cond b (value (text_at text s)) (refused n)
text-if true n text s = refl
text-if false n text s = refl

said : (n : ℕ) (text : List ℕ) (s : Span) → text_said text (outcome_of n s) ≡ outcome_of n (text_at text s)
said n text s = text-if (eqb n 0) n text s

-- a question whose answer is a place is the same question for the text there: of the set, a directory, a file, a link
module _ (fs : FileStorage) (held : Bool) (text : List ℕ) where
  pub set-text : (s : Span) → text_said text (held_answer fs held s) ≡ held_answer fs held (text_at text s)
  set-text s = said (first_of (bad_piece_length fs ∷ short (held && few_entries fs) ∷ [])) text s

  pub directory-text : (i : ℕ) (s : Span) → text_said text (directory_answer fs i held s) ≡ directory_answer fs i held (text_at text s)
  directory-text i s = said (first_of (bad_piece_length fs ∷ no_directory fs i ∷ short (held && few_entries fs) ∷ [])) text s

  pub file-text : (z : ℤ) (a : ℕ → Span) → text_said text (file_answer fs z held a) ≡ file_answer fs z held (λ k. text_at text (a k))
  file-text z a = said (file_number fs z held) text (a (clamped_of z))

  pub link-text : (z : ℤ) (there linked : ℕ → Bool) (a : ℕ → Span)
      → text_said text (link_answer fs z there linked held a) ≡ link_answer fs z there linked held (λ k. text_at text (a k))
  link-text z there linked a = said (link_number fs z there linked held) text (a (clamped_of z))

-- by whether a bit of the flags is set, and by what the path index says
root-if : (b : Bool) (x d : List ℕ) → cond b x d ≡ or_else (present_if b x) d
root-if true x d = refl
root-if false x d = refl

link-if : (b : Bool) (name t : List ℕ) → cond b (appended name t) [] ≡ link_in name (present_if b t)
link-if true name t = refl
link-if false name t = refl

absolute-if : (a b o : Bool) (d : List ℕ) → (a ≡ true → b ≡ false) → b ≡ is_absolute_in (cond a single (cond b absolute (stored d o)))
absolute-if true b o d h = h refl
absolute-if false true o d h = refl
absolute-if false false o d h = refl

-- the set, and its file k
module _ (s : Store) where
  pub count-is : length (view_of s).files ≡ s.fs.num_files
  count-is = length-tabled s.fs.num_files (file_of s)

  pub directories-is : length (view_of s).directories ≡ s.fs.num_paths
  directories-is = length-tabled s.fs.num_paths (directory_text s)

  pub directory-is : (i : ℕ) (d : List ℕ) → i < s.fs.num_paths → get_or (view_of s).directories i d ≡ text_at s.text (dir_at s.dirs i)
  directory-is i d h = get_or-tabled s.fs.num_paths (directory_text s) i d h

  pub set-name-is : text_at s.text s.fs.name ≡ (view_of s).name
  set-name-is = refl

  pub file-is : (k : ℕ) (d : File) → k < s.fs.num_files → get_or (view_of s).files k d ≡ file_of s k
  file-is k d h = get_or-tabled s.fs.num_files (file_of s) k d h

  module _ (k : ℕ) where
    pub size_is : (row_at s.rows k).size ≡ (file_of s k).size
    size_is = refl

    pub offset-is : (row_at s.rows k).offset ≡ (file_of s k).offset
    offset-is = refl

    pub name-is : text_at s.text (row_at s.rows k).name ≡ (file_of s k).name
    name-is = refl

    pub flags-is : (row_at s.rows k).flags % 16 ≡ (file_of s k).flags
    flags-is = refl

    pub pad-is : has (row_at s.rows k).flags 1 ≡ has (file_of s k).flags 1
    pad-is =
        let f = (row_at s.rows k).flags in
        let e : f / 1 % 2 ≡ (f % 16) / 1 % 2 = omega arith in
        ap (λ (n : ℕ). eqb n 1) e

    pub time-is : time_of s.rows k ≡ (file_of s k).time
    time-is = refl

    pub root_is : root_of s.rows s.roots k ≡ or_else (file_of s k).root (replicate 32 0)
    root_is = root-if (has (row_at s.rows k).flags 128) (root_at s.roots k) (replicate 32 0)

    pub link-held : (file_of s k).link ≡ present_if (has (row_at s.rows k).flags 16) (text_at s.text (row_at s.rows k).link)
    link-held = refl

    pub symlink-is : symlink_path s.fs s.text (row_at s.rows k) ≡ link_in (view_of s).name (file_of s k).link
    symlink-is = link-if (has (row_at s.rows k).flags 16) (view_of s).name (text_at s.text (row_at s.rows k).link)

    pub absolute-is : is_absolute (row_at s.rows k) ≡ is_absolute_in (file_of s k).directory
    absolute-is =
        let r = row_at s.rows k in
        absolute-if (eqb r.path_index no_path) (is_absolute r) (has r.flags 32) (directory_text s r.path_index) (λ e. rw (eqb-true r.path_index no_path e))

    pub path-is : internal_path s.dirs s.text (row_at s.rows k) ≡ path_in (file_of s k).directory (file_of s k).name
    path-is = refl
