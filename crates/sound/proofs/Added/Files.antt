-- A file's row put behind those held, with its name, link text and root: the tables stay in order, and mean the set with one
-- more file. Relies on Added/Texts.antt.
use Rattle.std.specs.Prelude.{Option, Some, None}
use mathlib.Core.Path.{◌≡◌, refl, sym, ap, ◌∙◌}
use mathlib.Core.Logic.{◌⊎◌, inl, inr}
use mathlib.Core.Bool.{Bool, true, false, cond}
use mathlib.Core.List.{List, [], ◌∷◌, ◌++◌}
use Prim.Native.Nat.{ℕ, ◌+◌, ◌*◌, ◌^◌, ◌≤◌, ◌<◌}
use native.Mathlib.Omega.{arith}
use native.Mathlib.Numerals.{add-one}
use lib.Dec.{ltb}
use lib.ListN.{length}
use lib.Seq.{sets, length-sets}
use borrow.Author.Tests.{lt-ltb, le-ltb}
use Rattle.lists.proofs.Orders.{le-or-lt}
use Rattle.tables.specs.declared.span.Span.{Span}
use Rattle.tables.specs.declared.rows.Row.{Row}
use Rattle.tables.specs.Span.{text_at}
use Rattle.tables.specs.Rows.{row_at, put_row, root_at, has}
use Rattle.tables.specs.Model.{present_if, File, Store, tabled, directory_of, file_of, view_of}
use Rattle.tables.proofs.Spans.{read-before, read-new}
use Rattle.tables.proofs.Words.{InRange, row_back, row_other, root-back, root-other}
use Rattle.tables.proofs.Tabled.{tabled-more}
use Rattle.rules.specs.Bounds.{limit}
use Rattle.additions.specs.Addition.{is_present}
use Rattle.plan.specs.Write.{roots_added}
use Rattle.sound.specs.Sound.{TextId, set_name, dir_name, file_name, link_text, nowhere, span_of, sum_to, text_at_row, size_of_row, pad_of_row, Sound}
use Rattle.sound.proofs.Common.{sum_same, sum_more}
use Rattle.sound.proofs.Added.Texts.{Put, old, first, second, within-put, apart-put, Extends, set-name-kept, dirs-kept, files-kept, place_kept, file_from, same-file}

-- what a new row is made of
pub record NewFile : Type 0 where
  pub size : ℕ
  pub name : List ℕ
  pub link : List ℕ
  pub index : ℕ
  pub flags : ℕ
  pub time : ℕ
  pub root : Option (List ℕ)

-- the row of a new file that begins at byte o and whose texts begin at byte u of the text area
abbrev pub row_for : ℕ → ℕ → NewFile → Row
row_for o u f =
    record {
      offset = o;
      size = f.size;
      name = record { at = u; len = length f.name };
      link = record { at = u + length f.name; len = length f.link };
      path_index = f.index;
      flags = f.flags;
      time = f.time;
    }

-- the set as it was, as where there is no pad, or with one more file
abbrev pub pad_stage : Bool → Store → NewFile → Store
pad_stage b s f =
    record {
      fs = record {
        piece_length = s.fs.piece_length;
        v2 = s.fs.v2;
        num_files = s.fs.num_files + cond b 0 1;
        num_paths = s.fs.num_paths;
        num_symlinks = s.fs.num_symlinks;
        name = s.fs.name;
        text_len = s.fs.text_len + length f.name + length f.link;
        total_size = s.fs.total_size + f.size;
        size_on_disk = s.fs.size_on_disk + cond (has f.flags 1) 0 f.size;
        trimmed = s.fs.trimmed;
        indexed = s.fs.indexed;
      };
      rows = cond b s.rows (put_row s.rows s.fs.num_files (row_for s.fs.total_size s.fs.text_len f));
      roots = cond b s.roots (roots_added s.roots s.fs.num_files f.root);
      firsts = s.firsts;
      dirs = s.dirs;
      text = sets (sets s.text s.fs.text_len f.name) (s.fs.text_len + length f.name) f.link;
    }

abbrev pub with_file : Store → NewFile → Store
with_file s f = pad_stage false s f

-- what a new file must be
pub record Fitting (s : Store) (f : NewFile) : Type 0 where
  pub few : s.fs.num_files + 1 ≤ 65535
  pub rows-hold : (s.fs.num_files + 1) * 8 ≤ length s.rows
  pub roots-hold : (s.fs.num_files + 1) * 32 ≤ length s.roots
  pub text-holds : s.fs.text_len + length f.name + length f.link ≤ length s.text
  pub limited : s.fs.total_size + f.size ≤ limit
  pub flagged : f.flags < 2 ^ 16
  pub rooted : (root : List ℕ) → f.root ≡ Some root → length root ≡ 32
  pub unlinked : has f.flags 16 ≡ false → length f.link ≡ 0
  pub placed : f.index < 1073741822 → f.index < s.fs.num_paths
  pub indexed : f.index ≤ 1073741823

-- roots
pub length-roots : (roots : List ℕ) (i : ℕ) (root : Option (List ℕ)) → length (roots_added roots i root) ≡ length roots
length-roots roots i None = refl
length-roots roots i (Some root) = length-sets roots (i * 32) root

roots-other : (roots : List ℕ) (i k : ℕ) (root : Option (List ℕ)) → ((r : List ℕ) → root ≡ Some r → length r ≡ 32) → (k ≡ i → ⊥) → root_at (roots_added roots i root) k ≡ root_at roots k
roots-other roots i k None l d = refl
roots-other roots i k (Some root) l d = root-other roots i root (l root refl) k d

root-there : (roots : List ℕ) (i : ℕ) (root : Option (List ℕ)) → ((r : List ℕ) → root ≡ Some r → length r ≡ 32) → i * 32 + 32 ≤ length roots → present_if (is_present root) (root_at (roots_added roots i root) i) ≡ root
root-there roots i None l h = refl
root-there roots i (Some root) l h = ap Some (root-back roots i root (l root refl) h)

module _ (s : Store) (f : NewFile) (ok : Sound s) (fit : Fitting s f) where
  abbrev new : Store
  new = with_file s f

  abbrev n : ℕ
  n = s.fs.num_files

  abbrev u : ℕ
  u = s.fs.text_len

  abbrev row : Row
  row = row_for s.fs.total_size u f

  in-range : InRange row
  in-range = record { offset = omega (arith, fit.limited); size = omega (arith, fit.limited); flags = fit.flagged }

  row_new : row_at new.rows n ≡ row
  row_new = row_back s.rows n row (omega (arith, fit.rows-hold)) in-range

  more : Extends s new
  more =
      record {
        rows = λ k h. row_other s.rows n row k (λ e. omega arith);
        roots = λ k h. roots-other s.roots n k f.root fit.rooted (λ e. omega arith);
        dirs = λ k h. refl;
        text = λ x h. read-before (sets s.text u f.name) f.link (u + length f.name) x (omega arith) ∙ read-before s.text f.name u x h;
      }

  -- where the texts of rows lie
  module _ (v : Row → Span) where
    abbrev span_in : Store → ℕ → Span
    span_in t k = cond (ltb k t.fs.num_files) (v (row_at t.rows k)) nowhere

    row-span-new : span_in new n ≡ v row
    row-span-new = rw (lt-ltb n (n + 1) (omega arith)) (ap v row_new)

    row-span-old : (k : ℕ) → k < n → span_in new k ≡ span_in s k
    row-span-old k h = rw (lt-ltb k n h, lt-ltb k (n + 1) (omega arith)) (ap v (more.rows k h))

    row-span : (k : ℕ) → (span_in new k ≡ span_in s k) ⊎ (k ≡ n)
    row-span k = at (le-or-lt n k) (le-or-lt (n + 1) k)
      where
        at : (n ≤ k) ⊎ (k < n) → (n + 1 ≤ k) ⊎ (k < n + 1) → (span_in new k ≡ span_in s k) ⊎ (k ≡ n)
        at (inr h) y = inl (row-span-old k h)
        at (inl h) (inr l) = inr (omega arith)
        at (inl h) (inl g) = inl (rw (le-ltb k n h, le-ltb k (n + 1) g))

  abbrev name_in : Row → Span
  name_in r = r.name

  abbrev link_in : Row → Span
  link_in r = r.link

  abbrev PutHere : TextId → Type 0
  PutHere p = Put (span_of s) (span_of new) u (length f.name) (length f.link) (file_name n) (link_text n) p

  put : (p : TextId) → PutHere p
  put set_name = old refl
  put (dir_name k) = old refl
  put (file_name k) = at (row-span name_in k)
    where
      at : (span_of new (file_name k) ≡ span_of s (file_name k)) ⊎ (k ≡ n) → PutHere (file_name k)
      at (inl e) = old e
      at (inr e) = first (ap file_name e) (rw e (row-span-new name_in))
  put (link_text k) = at (row-span link_in k)
    where
      at : (span_of new (link_text k) ≡ span_of s (link_text k)) ⊎ (k ≡ n) → PutHere (link_text k)
      at (inl e) = old e
      at (inr e) = second (ap link_text e) (rw e (row-span-new link_in))

  -- sums
  module _ (w : Store → ℕ → ℕ) where
    sums : ((k : ℕ) → k < n → w new k ≡ w s k) → sum_to (n + 1) (w new) ≡ sum_to n (w s) + w new n
    sums e = omega (arith, sum_more n (w new), sum_same n (w new) (w s) e)

  texts : sum_to (n + 1) (text_at_row new) ≡ sum_to n (text_at_row s) + (length f.name + length f.link)
  texts =
      omega (
        arith,
        sums text_at_row (λ k h. cc (ap (λ (x : Span). x.len) (row-span-old name_in k h), ap (λ (x : Span). x.len) (row-span-old link_in k h))),
        ap (λ (x : Span). x.len) (row-span-new name_in),
        ap (λ (x : Span). x.len) (row-span-new link_in),
      )

  size-old : (k : ℕ) → k < n → size_of_row new k ≡ size_of_row s k
  size-old k h = ap (λ (r : Row). r.size) (more.rows k h)

  sizes : sum_to (n + 1) (size_of_row new) ≡ sum_to n (size_of_row s) + f.size
  sizes = omega (arith, sums size_of_row size-old, ap (λ (r : Row). r.size) row_new)

  abbrev pad_in : Row → ℕ
  pad_in r = cond (has r.flags 1) r.size 0

  pads : sum_to (n + 1) (pad_of_row new) ≡ sum_to n (pad_of_row s) + cond (has f.flags 1) f.size 0
  pads = omega (arith, sums pad_of_row (λ k h. ap pad_in (more.rows k h)), ap pad_in row_new)

  -- a fact of every row that holds of the old ones and of the new one
  each : (P : Row → Type 0) → ((k : ℕ) → k < n → P (row_at s.rows k)) → P row → (k : ℕ) → k < n + 1 → P (row_at new.rows k)
  each P olds news k h = at (le-or-lt n k)
    where
      at : (n ≤ k) ⊎ (k < n) → P (row_at new.rows k)
      at (inl g) = let e : k ≡ n = omega arith in rw (e, row_new) news
      at (inr g) = rw (more.rows k g) (olds k g)

  pub sound-file : Sound new
  sound-file =
      record {
        rows-hold = rw length-sets fit.rows-hold;
        roots-hold = rw (length-roots s.roots n f.root) fit.roots-hold;
        dirs-hold = ok.dirs-hold;
        text-holds = rw (length-sets, length-sets) fit.text-holds;
        few-files = fit.few;
        few-paths = ok.few-paths;
        within = λ p. within-put (span_of s) (span_of new) u (length f.name) (length f.link) (file_name n) (link_text n) ok.within p (put p);
        apart = λ p q e. apart-put (span_of s) (span_of new) u (length f.name) (length f.link) (file_name n) (link_text n) ok.within ok.apart p q e (put p) (put q);
        full = omega (arith, ok.full, texts);
        offsets = offsets;
        total = omega (arith, ok.total, sizes);
        limited = fit.limited;
        on-disk = disk (has f.flags 1) pads;
        unlinked = each (λ (r : Row). has r.flags 16 ≡ false → r.link.len ≡ 0) ok.unlinked fit.unlinked;
        placed = each (λ (r : Row). r.path_index < 1073741822 → r.path_index < s.fs.num_paths) ok.placed fit.placed;
        indexed = each (λ (r : Row). r.path_index ≤ 1073741823) ok.indexed fit.indexed;
      }
    where
      offsets : (k : ℕ) → k < n + 1 → (row_at new.rows k).offset ≡ sum_to k (size_of_row new)
      offsets k h = at (le-or-lt n k)
        where
          sums-old : (j : ℕ) → j ≤ n → sum_to j (size_of_row new) ≡ sum_to j (size_of_row s)
          sums-old j b = sum_same j (size_of_row new) (size_of_row s) (λ i c. size-old i (omega arith))

          at : (n ≤ k) ⊎ (k < n) → (row_at new.rows k).offset ≡ sum_to k (size_of_row new)
          at (inl g) =
              let e : k ≡ n = omega arith in
              rw e (ap (λ (r : Row). r.offset) row_new ∙ ok.total ∙ sym (sums-old n (omega arith)))
          at (inr g) = ap (λ (r : Row). r.offset) (more.rows k g) ∙ ok.offsets k g ∙ sym (sums-old k (omega arith))

      disk : (b : Bool) → sum_to (n + 1) (pad_of_row new) ≡ sum_to n (pad_of_row s) + cond b f.size 0
          → s.fs.size_on_disk + cond b 0 f.size + sum_to (n + 1) (pad_of_row new) ≡ s.fs.total_size + f.size
      disk true e = omega (arith, ok.on-disk)
      disk false e = omega (arith, ok.on-disk)

  -- what the tables mean then
  pub file-name : (view_of new).name ≡ (view_of s).name
  file-name = set-name-kept s new ok more refl

  pub file-directories : (view_of new).directories ≡ (view_of s).directories
  file-directories = dirs-kept s new ok more

  name-text : text_at new.text row.name ≡ f.name
  name-text =
      read-before (sets s.text u f.name) f.link (u + length f.name) row.name (omega arith)
      ∙ read-new s.text f.name u (omega (arith, fit.text-holds))

  link-text : text_at new.text row.link ≡ f.link
  link-text = read-new (sets s.text u f.name) f.link (u + length f.name) (rw length-sets fit.text-holds)

  file-new : file_of new n ≡ file_from row f.name (directory_of s row) f.link (root_at new.roots n)
  file-new =
      same-file
      row_new
      (ap (λ (r : Row). text_at new.text r.name) row_new ∙ name-text)
      (ap (directory_of new) row_new ∙ place_kept s new ok more row fit.placed fit.indexed)
      (ap (λ (r : Row). text_at new.text r.link) row_new ∙ link-text)
      refl

  pub file-files : (view_of new).files ≡ (view_of s).files ++ (file_from row f.name (directory_of s row) f.link (root_at new.roots n) ∷ [])
  file-files =
      ap (λ (k : ℕ). tabled k (file_of new)) (add-one n)
      ∙ tabled-more n (file_of new)
      ∙ ap (λ (l : List File). l ++ (file_of new n ∷ [])) (files-kept s new ok more)
      ∙ ap (λ (x : File). (view_of s).files ++ (x ∷ [])) file-new

  pub file-root : present_if (is_present f.root) (root_at new.roots n) ≡ f.root
  file-root = root-there s.roots n f.root fit.rooted (omega (arith, fit.roots-hold))
