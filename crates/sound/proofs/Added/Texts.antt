-- What stays when texts are put behind the used part and rows behind those held: the places of all texts are still within the
-- used part and apart, and every text and file reads as before. Relies on the laws of spans of `tables`.
use mathlib.Core.Path.{◌≡◌, sym, ap, ◌∙◌}
use mathlib.Core.List.{List}
use Prim.Native.Nat.{ℕ, ◌+◌, ◌%◌, ◌≤◌, ◌<◌}
use native.Mathlib.Omega.{arith}
use Rattle.types.specs.Signed.{unzigzag}
use Rattle.tables.specs.declared.span.Span.{Span}
use Rattle.tables.specs.declared.rows.Row.{Row}
use Rattle.tables.specs.Span.{end_of, text_at, Apart}
use Rattle.tables.specs.Rows.{row_at, dir_at, root_at, has}
use Rattle.tables.specs.Model.{Store, Directory, present_if, File, directory_text, directory_of, file_of, tabled}
use Rattle.tables.proofs.Spans.{apart-before, apart-sym}
use Rattle.tables.proofs.Tabled.{tabled-same}
use Rattle.sound.specs.Sound.{TextId, set_name, dir_name, file_name, link_text, Sound}
use Rattle.sound.proofs.Texts.{dir-span, name-span, link-span, directory-same}

-- two texts put behind the used part, one after the other: a place holds what it held, or is that of a new one
pub data Put (s t : TextId → Span) (u n k : ℕ) (x y : TextId) (p : TextId) : Type 0 where
  old : t p ≡ s p → Put s t u n k x y p
  first : p ≡ x → t p ≡ record { at = u; len = n } → Put s t u n k x y p
  second : p ≡ y → t p ≡ record { at = u + n; len = k } → Put s t u n k x y p

module _ (s t : TextId → Span) (u n k : ℕ) (x y : TextId) (within : (p : TextId) → end_of (s p) ≤ u) where
  pub within-put : (p : TextId) → Put s t u n k x y p → end_of (t p) ≤ u + n + k
  within-put p (old e) = rw e (omega (arith, within p))
  within-put p (first i e) = rw e (omega arith)
  within-put p (second i e) = rw e (omega arith)

  pub apart-put : ((p q : TextId) → (p ≡ q → ⊥) → Apart (s p) (s q)) → (p q : TextId) → (p ≡ q → ⊥) → Put s t u n k x y p → Put s t u n k x y q → Apart (t p) (t q)
  apart-put apart p q d (old e) (old f) = rw (e, f) (apart p q d)
  apart-put apart p q d (old e) (first j f) = rw (e, f) (apart-before (s p) _ (within p))
  apart-put apart p q d (old e) (second j f) = rw (e, f) (apart-before (s p) _ (omega (arith, within p)))
  apart-put apart p q d (first i e) (old f) = rw (e, f) (apart-sym (s q) _ (apart-before (s q) _ (within q)))
  apart-put apart p q d (first i e) (first j f) = absurd (d (i ∙ sym j))
  apart-put apart p q d (first i e) (second j f) = rw (e, f) (apart-before _ _ (omega arith))
  apart-put apart p q d (second i e) (old f) = rw (e, f) (apart-sym (s q) _ (apart-before (s q) _ (omega (arith, within q))))
  apart-put apart p q d (second i e) (first j f) = rw (e, f) (apart-sym _ _ (apart-before _ _ (omega arith)))
  apart-put apart p q d (second i e) (second j f) = absurd (d (i ∙ sym j))

-- t holds what s holds, and may hold more
pub record Extends (s t : Store) : Type 0 where
  pub rows : (k : ℕ) → k < s.fs.num_files → row_at t.rows k ≡ row_at s.rows k
  pub roots : (k : ℕ) → k < s.fs.num_files → root_at t.roots k ≡ root_at s.roots k
  pub dirs : (k : ℕ) → k < s.fs.num_paths → dir_at t.dirs k ≡ dir_at s.dirs k
  pub text : (x : Span) → end_of x ≤ s.fs.text_len → text_at t.text x ≡ text_at s.text x

-- a file by its row and what that leads to
abbrev pub file_from : Row → List ℕ → Directory → List ℕ → List ℕ → File
file_from r name directory link root =
    record {
      offset = r.offset;
      size = r.size;
      name = name;
      directory = directory;
      flags = r.flags % 16;
      time = unzigzag r.time;
      link = present_if (has r.flags 16) link;
      root = present_if (has r.flags 128) root;
      made = has r.flags 64;
    }

pub same-file : {r r' : Row} {n n' l l' o o' : List ℕ} {d d' : Directory} → r ≡ r' → n ≡ n' → d ≡ d' → l ≡ l' → o ≡ o' → file_from r n d l o ≡ file_from r' n' d' l' o'
same-file {r} {r'} {n} {n'} {l} {l'} {o} {o'} {d} {d'} er en ed el eo =
    ap (λ (x : Row). file_from x n d l o) er
    ∙ ap (λ (x : List ℕ). file_from r' x d l o) en
    ∙ ap (λ (x : Directory). file_from r' n' x l o) ed
    ∙ ap (λ (x : List ℕ). file_from r' n' d' x o) el
    ∙ ap (file_from r' n' d' l') eo

module _ (s t : Store) (ok : Sound s) (more : Extends s t) where
  same_text : (x y : Span) → y ≡ x → end_of x ≤ s.fs.text_len → text_at t.text y ≡ text_at s.text x
  same_text x y e h = ap (text_at t.text) e ∙ more.text x h

  pub set-name-kept : t.fs.name ≡ s.fs.name → text_at t.text t.fs.name ≡ text_at s.text s.fs.name
  set-name-kept e = same_text s.fs.name t.fs.name e (ok.within set_name)

  pub dir-kept : (k : ℕ) → k < s.fs.num_paths → directory_text t k ≡ directory_text s k
  dir-kept k h = same_text (dir_at s.dirs k) (dir_at t.dirs k) (more.dirs k h) (rw (dir-span s k h) at (ok.within (dir_name k)))

  name-kept : (k : ℕ) → k < s.fs.num_files → text_at t.text (row_at t.rows k).name ≡ text_at s.text (row_at s.rows k).name
  name-kept k h =
      same_text (row_at s.rows k).name (row_at t.rows k).name (ap (λ (r : Row). r.name) (more.rows k h))
      (rw (name-span s k h) at (ok.within (file_name k)))

  link-kept : (k : ℕ) → k < s.fs.num_files → text_at t.text (row_at t.rows k).link ≡ text_at s.text (row_at s.rows k).link
  link-kept k h =
      same_text (row_at s.rows k).link (row_at t.rows k).link (ap (λ (r : Row). r.link) (more.rows k h))
      (rw (link-span s k h) at (ok.within (link_text k)))

  -- a row whose directory is there has the same one
  pub place_kept : (r : Row) → (r.path_index < 1073741822 → r.path_index < s.fs.num_paths) → r.path_index ≤ 1073741823 → directory_of t r ≡ directory_of s r
  place_kept = directory-same s t dir-kept

  pub file-kept : (k : ℕ) → k < s.fs.num_files → file_of t k ≡ file_of s k
  file-kept k h =
      same-file
      (more.rows k h)
      (name-kept k h)
      (ap (directory_of t) (more.rows k h) ∙ place_kept (row_at s.rows k) (ok.placed k h) (ok.indexed k h))
      (link-kept k h)
      (more.roots k h)

  -- whole tables
  pub dirs-kept : tabled s.fs.num_paths (directory_text t) ≡ tabled s.fs.num_paths (directory_text s)
  dirs-kept = tabled-same s.fs.num_paths (directory_text t) (directory_text s) dir-kept

  pub files-kept : tabled s.fs.num_files (file_of t) ≡ tabled s.fs.num_files (file_of s)
  files-kept = tabled-same s.fs.num_files (file_of t) (file_of s) file-kept
