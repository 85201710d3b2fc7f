-- Tables in which one link's text changes: where every other text reads what it read, and the places of all texts are in
-- order, the tables are in order and mean the set with that link's text. It relies on Texts.antt and on the laws of sums here.
--     Area, over          a store with other places of texts
--     Relinks             what is asked of them
--     Turned, turn        what then holds
use Rattle.std.specs.Prelude.{Some}
use mathlib.Core.Path.{◌≡◌, refl, sym, ap, ◌∙◌}
use mathlib.Core.Bool.{Bool, true, false, cond, false≢true}
use mathlib.Core.List.{List}
use Prim.Native.Nat.{ℕ, ◌+◌, ◌-◌, ◌≤◌, ◌<◌}
use native.Mathlib.Omega.{arith}
use lib.Dec.{eqb}
use lib.ListN.{length}
use borrow.Author.Tests.{lt-ltb, eq-eqb, ne_eqb, eqb-true, eqb-false}
use Rattle.tables.specs.declared.span.Span.{Span}
use Rattle.tables.specs.declared.rows.Row.{Row}
use Rattle.tables.specs.declared.storage.FileStorage.{FileStorage}
use Rattle.tables.specs.Span.{end_of, text_at, Apart}
use Rattle.tables.specs.Rows.{row_at, root_at, has, skip}
use Rattle.tables.specs.Model.{present_if, File, Model, Store, tabled, directory_text, directory_of, file_of, view_of}
use Rattle.tables.proofs.Tabled.{tabled-same}
use Rattle.links.specs.Clean.{linked_to}
use Rattle.texts.specs.Texts.{storage_with, row_with}
use Rattle.sound.specs.Sound.{TextId, set_name, dir_name, file_name, link_text, span_of, sum_to, text_at_row, lengths, size_of_row, pad_of_row, Sound}
use Rattle.sound.proofs.Common.{sum_same}
use Rattle.sound.proofs.Files.{sum-skip}
use Rattle.sound.proofs.Texts.{link-span, directory-same}
use Rattle.sound.proofs.Added.Texts.{file_from, same-file}

-- ---- places

-- whether a place is that of file i's link text
abbrev pub is_link : ℕ → TextId → Bool
is_link i set_name = false
is_link i (dir_name k) = false
is_link i (file_name k) = false
is_link i (link_text k) = eqb k i

-- which one it is, and that no other is it
pub link-is : (i : ℕ) (p : TextId) → is_link i p ≡ true → p ≡ link_text i
link-is i set_name e = absurd (false≢true e)
link-is i (dir_name k) e = absurd (false≢true e)
link-is i (file_name k) e = absurd (false≢true e)
link-is i (link_text k) e = ap link_text (eqb-true k i e)

pub link-not : (i : ℕ) (p : TextId) → is_link i p ≡ false → link_text i ≡ p → ⊥
link-not i p e q = false≢true (sym e ∙ ap (is_link i) (sym q) ∙ eq-eqb i i refl)

-- ---- sums that differ at one place

skip-other : (f k : ℕ) → skip f k ≡ f → ⊥
skip-other f k e = omega arith

pub sum-but : (n i : ℕ) (v w : ℕ → ℕ) → i < n → ((k : ℕ) → k < n → (k ≡ i → ⊥) → v k ≡ w k) → sum_to n v + w i ≡ sum_to n w + v i
sum-but n i v w h e =
    omega (
      arith,
      sum-skip n i v h,
      sum-skip n i w h,
      sum_same (n - 1) (λ k. v (skip i k)) (λ k. w (skip i k)) (λ k b. e (skip i k) (omega arith) (skip-other i k)),
    )

-- ---- other places of texts

-- where the set's name lies, the used part, and the tables that say where texts lie or hold them
pub record Area : Type 0 where
  pub name : Span
  pub used : ℕ
  pub rows : List ℕ
  pub dirs : List ℕ
  pub text : List ℕ

abbrev pub over : Store → Area → Store
over s a =
    record {
      fs = storage_with s.fs a.name a.used;
      rows = a.rows;
      roots = s.roots;
      firsts = s.firsts;
      dirs = a.dirs;
      text = a.text;
    }

-- file i's link text is l then, and every other text is what it was
pub record Relinks (s : Store) (i : ℕ) (l : List ℕ) (a : Area) : Type 0 where
  pub row : (k : ℕ) → k < s.fs.num_files → row_at a.rows k ≡ row_with (row_at s.rows k) (row_at a.rows k).name (row_at a.rows k).link
  pub rows_long : length a.rows ≡ length s.rows
  pub dirs-long : length a.dirs ≡ length s.dirs
  pub text-long : length a.text ≡ length s.text
  pub holds : a.used ≤ length s.text
  pub used : a.used + (row_at s.rows i).link.len ≡ s.fs.text_len + length l
  pub size : (row_at a.rows i).link.len ≡ length l
  pub says : text_at a.text (row_at a.rows i).link ≡ l
  pub sizes : (p : TextId) → is_link i p ≡ false → (span_of (over s a) p).len ≡ (span_of s p).len
  pub reads : (p : TextId) → is_link i p ≡ false → text_at a.text (span_of (over s a) p) ≡ text_at s.text (span_of s p)
  pub within : (p : TextId) → end_of (span_of (over s a) p) ≤ a.used
  pub apart : (p q : TextId) → (p ≡ q → ⊥) → Apart (span_of (over s a) p) (span_of (over s a) q)

-- t is s with the files that g gives, and otherwise the same set; its tables are in order and as long
pub record Turned (s t : Store) (g : ℕ → File → File) : Type 0 where
  pub sound : Sound t
  pub record_is : t.fs ≡ storage_with s.fs t.fs.name t.fs.text_len
  pub long : length t.text ≡ length s.text
  pub name : text_at t.text t.fs.name ≡ text_at s.text s.fs.name
  pub directories : (k : ℕ) → k < s.fs.num_paths → directory_text t k ≡ directory_text s k
  pub files : (k : ℕ) → k < s.fs.num_files → file_of t k ≡ g k (file_of s k)

-- no change
pub turned-self : (s : Store) → Sound s → Turned s s (λ k f. f)
turned-self s ok =
    record {
      sound = ok;
      record_is = refl;
      long = refl;
      name = refl;
      directories = λ k h. refl;
      files = λ k h. refl;
    }

-- the same change of every file
pub turned_same : {s t : Store} {g h : ℕ → File → File} → ((k : ℕ) → k < s.fs.num_files → g k (file_of s k) ≡ h k (file_of s k)) → Turned s t g → Turned s t h
turned_same {s} {t} {g} {h} e p =
    record {
      sound = p.sound;
      record_is = p.record_is;
      long = p.long;
      name = p.name;
      directories = p.directories;
      files = λ k b. p.files k b ∙ e k b;
    }

-- one change after another
pub turned_then : {s t u : Store} {g h : ℕ → File → File} → Turned s t g → Turned t u h → Turned s u (λ k f. h k (g k f))
turned_then {s} {t} {u} {g} {h} p q =
    let d : t.fs.num_paths ≡ s.fs.num_paths = ap (λ (x : FileStorage). x.num_paths) p.record_is in
    let n : t.fs.num_files ≡ s.fs.num_files = ap (λ (x : FileStorage). x.num_files) p.record_is in
    record {
      sound = q.sound;
      record_is = q.record_is ∙ ap (λ (x : FileStorage). storage_with x u.fs.name u.fs.text_len) p.record_is;
      long = q.long ∙ p.long;
      name = q.name ∙ p.name;
      directories = λ k b. q.directories k (omega arith) ∙ p.directories k b;
      files = λ k b. q.files k (omega arith) ∙ ap (h k) (p.files k b);
    }

-- what the tables mean then
pub turned-view : {s t : Store} {g : ℕ → File → File} → Turned s t g
    → view_of t ≡
    record {
      piece_length = (view_of s).piece_length;
      v2 = (view_of s).v2;
      name = (view_of s).name;
      files = tabled s.fs.num_files (λ k. g k (file_of s k));
      directories = (view_of s).directories;
      links = (view_of s).links;
      total = (view_of s).total;
      on_disk = (view_of s).on_disk;
      trimmed = (view_of s).trimmed;
    }
turned-view {s} {t} {g} p =
    ap by p.record_is
    ∙ rw (
      p.name,
      tabled-same s.fs.num_files (file_of t) (λ k. g k (file_of s k)) p.files,
      tabled-same s.fs.num_paths (directory_text t) (directory_text s) p.directories,
    )
  where
    by : FileStorage → Model
    by fs =
        record {
          piece_length = fs.piece_length;
          v2 = fs.v2;
          name = text_at t.text t.fs.name;
          files = tabled fs.num_files (file_of t);
          directories = tabled fs.num_paths (directory_text t);
          links = fs.num_symlinks;
          total = fs.total_size;
          on_disk = fs.size_on_disk;
          trimmed = fs.trimmed;
        }

-- a change of file i alone
abbrev pub at_file : ℕ → (File → File) → ℕ → File → File
at_file i g k f = cond (eqb k i) (g f) f

module _ (s : Store) (ok : Sound s) (i : ℕ) (h : i < s.fs.num_files) (l : List ℕ) (a : Area) (r : Relinks s i l a) (held : has (row_at s.rows i).flags 16 ≡ true) where
  abbrev n : ℕ
  n = s.fs.num_files

  abbrev t : Store
  t = over s a

  -- rows
  flags-is : (k : ℕ) → k < n → (row_at a.rows k).flags ≡ (row_at s.rows k).flags
  flags-is k b = ap (λ (x : Row). x.flags) (r.row k b)

  path-is : (k : ℕ) → k < n → (row_at a.rows k).path_index ≡ (row_at s.rows k).path_index
  path-is k b = ap (λ (x : Row). x.path_index) (r.row k b)

  size_is : (k : ℕ) → k < n → size_of_row t k ≡ size_of_row s k
  size_is k b = ap (λ (x : Row). x.size) (r.row k b)

  pad-is : (k : ℕ) → k < n → pad_of_row t k ≡ pad_of_row s k
  pad-is k b = ap (λ (x : Row). cond (has x.flags 1) x.size 0) (r.row k b)

  -- lengths
  link-size : (k : ℕ) → k < n → (k ≡ i → ⊥) → (row_at a.rows k).link.len ≡ (row_at s.rows k).link.len
  link-size k b d =
      ap (λ (x : Span). x.len) (sym (link-span t k b)) ∙ r.sizes (link_text k) (ne_eqb k i d) ∙ ap (λ (x : Span). x.len) (link-span s k b)

  row-size : (k : ℕ) → k < n → (k ≡ i → ⊥) → text_at_row t k ≡ text_at_row s k
  row-size k b d = omega (arith, r.sizes (file_name k) refl, r.sizes (link_text k) (ne_eqb k i d))

  full-after : lengths t ≡ a.used
  full-after =
      omega (
        arith,
        ok.full,
        r.used,
        r.size,
        r.sizes set_name refl,
        sum_same s.fs.num_paths (λ k. (span_of t (dir_name k)).len) (λ k. (span_of s (dir_name k)).len) (λ k b. r.sizes (dir_name k) refl),
        sum-but n i (text_at_row t) (text_at_row s) h row-size,
        r.sizes (file_name i) refl,
        ap (λ (x : Span). x.len) (link-span t i h),
        ap (λ (x : Span). x.len) (link-span s i h),
      )

  unlinked-after : (k : ℕ) → k < n → has (row_at a.rows k).flags 16 ≡ false → (row_at a.rows k).link.len ≡ 0
  unlinked-after k b e = at (eqb k i) refl
    where
      bare : has (row_at s.rows k).flags 16 ≡ false
      bare = ap (λ (x : ℕ). has x 16) (sym (flags-is k b)) ∙ e

      at : (c : Bool) → eqb k i ≡ c → (row_at a.rows k).link.len ≡ 0
      at true q = absurd (false≢true (sym bare ∙ ap (λ (j : ℕ). has (row_at s.rows j).flags 16) (eqb-true k i q) ∙ held))
      at false q = link-size k b (eqb-false k i q) ∙ ok.unlinked k b bare

  sound-after : Sound t
  sound-after =
      record {
        rows-hold = omega (arith, ok.rows-hold, r.rows_long);
        roots-hold = ok.roots-hold;
        dirs-hold = omega (arith, ok.dirs-hold, r.dirs-long);
        text-holds = omega (arith, r.holds, r.text-long);
        few-files = ok.few-files;
        few-paths = ok.few-paths;
        within = r.within;
        apart = r.apart;
        full = full-after;
        offsets = λ k b.
            ap (λ (x : Row). x.offset) (r.row k b)
            ∙ ok.offsets k b
            ∙ sym (sum_same k (size_of_row t) (size_of_row s) (λ j c. size_is j (omega arith)));
        total = ok.total ∙ sym (sum_same n (size_of_row t) (size_of_row s) size_is);
        limited = ok.limited;
        on-disk = omega (arith, ok.on-disk, sum_same n (pad_of_row t) (pad_of_row s) pad-is);
        unlinked = unlinked-after;
        placed = λ k b e. let q = path-is k b in omega (arith, ok.placed k b (omega arith));
        indexed = λ k b. omega (arith, path-is k b, ok.indexed k b);
      }

  -- what the texts read
  directory-kept : (k : ℕ) → k < s.fs.num_paths → directory_text t k ≡ directory_text s k
  directory-kept k b = let e = lt-ltb k s.fs.num_paths b in rw e at (r.reads (dir_name k) refl)

  name-kept : (k : ℕ) → k < n → text_at a.text (row_at a.rows k).name ≡ text_at s.text (row_at s.rows k).name
  name-kept k b = let e = lt-ltb k n b in rw e at (r.reads (file_name k) refl)

  link-kept : (k : ℕ) → k < n → (k ≡ i → ⊥) → text_at a.text (row_at a.rows k).link ≡ text_at s.text (row_at s.rows k).link
  link-kept k b d = let e = lt-ltb k n b in rw e at (r.reads (link_text k) (ne_eqb k i d))

  place_kept : (k : ℕ) → k < n → directory_of t (row_at a.rows k) ≡ directory_of s (row_at s.rows k)
  place_kept k b =
      ap (directory_of t) (r.row k b) ∙ directory-same s t directory-kept (row_at s.rows k) (ok.placed k b) (ok.indexed k b)

  -- a file, by its link text
  abbrev with : ℕ → List ℕ → File
  with k x = file_from (row_at s.rows k) (text_at s.text (row_at s.rows k).name) (directory_of s (row_at s.rows k)) x (root_at s.roots k)

  file-after : (k : ℕ) → k < n → (x : List ℕ) → text_at a.text (row_at a.rows k).link ≡ x → file_of t k ≡ with k x
  file-after k b x e = same-file (r.row k b) (name-kept k b) (place_kept k b) e refl

  files-after : (k : ℕ) → k < n → file_of t k ≡ at_file i (linked_to (Some l)) k (file_of s k)
  files-after k b = at (eqb k i) refl
    where
      at : (c : Bool) → eqb k i ≡ c → file_of t k ≡ cond c (linked_to (Some l) (file_of s k)) (file_of s k)
      at true q =
          let e : text_at a.text (row_at a.rows k).link ≡ l = rw (eqb-true k i q) r.says in
          let f : has (row_at s.rows k).flags 16 ≡ true = rw (eqb-true k i q) held in
          file-after k b l e ∙ ap (λ (c : Bool). linked_to (present_if c l) (file_of s k)) f
      at false q = file-after k b (text_at s.text (row_at s.rows k).link) (link-kept k b (eqb-false k i q))

  -- together
  pub turn : Turned s (over s a) (at_file i (linked_to (Some l)))
  turn =
      record {
        sound = sound-after;
        record_is = refl;
        long = r.text-long;
        name = r.reads set_name refl;
        directories = directory-kept;
        files = files-after;
      }
