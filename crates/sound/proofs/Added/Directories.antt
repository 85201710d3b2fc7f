-- A directory put behind those held: the tables stay in order, and mean the set with one more directory. Relies on
-- Added/Texts.antt.
use mathlib.Core.Path.{◌≡◌, refl, ap, ◌∙◌}
use mathlib.Core.Logic.{◌⊎◌, inl, inr}
use mathlib.Core.Bool.{Bool, true, cond}
use mathlib.Core.List.{List, [], ◌∷◌, ◌++◌}
use Prim.Native.Nat.{ℕ, ◌+◌, ◌*◌, ◌≤◌, ◌<◌}
use native.Mathlib.Omega.{arith}
use native.Mathlib.Numerals.{add-one}
use lib.ListN.{length}
use lib.Seq.{sets, length-sets}
use borrow.Author.Tests.{lt-ltb, le-ltb}
use Rattle.lists.proofs.Orders.{le-or-lt}
use Rattle.tables.specs.declared.span.Span.{Span}
use Rattle.tables.specs.Span.{text_at}
use Rattle.tables.specs.Rows.{dir_at}
use Rattle.tables.specs.Model.{Store, tabled, directory_text, view_of}
use Rattle.tables.proofs.Spans.{read-before, read-new}
use Rattle.tables.proofs.Words.{dir-back, dir-other}
use Rattle.tables.proofs.Tabled.{tabled-more}
use Rattle.plan.specs.Write.{put_dir_if}
use Rattle.sound.specs.Sound.{TextId, set_name, dir_name, file_name, link_text, span_of, sum_to, Sound}
use Rattle.sound.proofs.Common.{sum_same, sum_more}
use Rattle.sound.proofs.Added.Texts.{Put, old, first, within-put, apart-put, Extends, set-name-kept, dirs-kept, files-kept}

-- the set with one more directory, or as it was
abbrev pub dir_stage : Bool → Store → List ℕ → Store
dir_stage b s d =
    record {
      fs = record {
        piece_length = s.fs.piece_length;
        v2 = s.fs.v2;
        num_files = s.fs.num_files;
        num_paths = s.fs.num_paths + cond b 1 0;
        num_symlinks = s.fs.num_symlinks;
        name = s.fs.name;
        text_len = s.fs.text_len + length d;
        total_size = s.fs.total_size;
        size_on_disk = s.fs.size_on_disk;
        trimmed = s.fs.trimmed;
        indexed = s.fs.indexed;
      };
      rows = s.rows;
      roots = s.roots;
      firsts = s.firsts;
      dirs = put_dir_if b s.dirs s.fs.num_paths (record { at = s.fs.text_len; len = length d });
      text = sets s.text s.fs.text_len d;
    }

abbrev pub with_dir : Store → List ℕ → Store
with_dir s d = dir_stage true s d

module _ (s : Store) (d : List ℕ) (ok : Sound s) (few : s.fs.num_paths + 1 ≤ 65535) (room : (s.fs.num_paths + 1) * 2 ≤ length s.dirs) (space : s.fs.text_len + length d ≤ length s.text) where
  abbrev new : Store
  new = with_dir s d

  abbrev n : ℕ
  n = s.fs.num_paths

  abbrev here : Span
  here = record { at = s.fs.text_len; len = length d }

  dir-new : dir_at new.dirs n ≡ here
  dir-new = dir-back s.dirs n here (omega arith)

  more : Extends s new
  more =
      record {
        rows = λ k h. refl;
        roots = λ k h. refl;
        dirs = λ k h. dir-other s.dirs n here k (λ e. omega arith);
        text = λ x h. read-before s.text d s.fs.text_len x h;
      }

  span-new : span_of new (dir_name n) ≡ here
  span-new = rw (lt-ltb n (n + 1) (omega arith)) dir-new

  span-old : (k : ℕ) → k < n → span_of new (dir_name k) ≡ span_of s (dir_name k)
  span-old k h = rw (lt-ltb k n h, lt-ltb k (n + 1) (omega arith)) (more.dirs k h)

  put : (p : TextId) → Put (span_of s) (span_of new) s.fs.text_len (length d) 0 (dir_name n) (dir_name n) p
  put set_name = old refl
  put (file_name k) = old refl
  put (link_text k) = old refl
  put (dir_name k) = at (le-or-lt n k) (le-or-lt (n + 1) k)
    where
      at : (n ≤ k) ⊎ (k < n) → (n + 1 ≤ k) ⊎ (k < n + 1) → Put (span_of s) (span_of new) s.fs.text_len (length d) 0 (dir_name n) (dir_name n) (dir_name k)
      at (inr h) y = old (span-old k h)
      at (inl h) (inr l) = let e : k ≡ n = omega arith in first (ap dir_name e) (rw e span-new)
      at (inl h) (inl g) = old (rw (le-ltb k n h, le-ltb k (n + 1) g))

  dir-lengths : sum_to (n + 1) (λ k. (span_of new (dir_name k)).len) ≡ sum_to n (λ k. (span_of s (dir_name k)).len) + length d
  dir-lengths =
      omega (
        arith,
        sum_more n (λ k. (span_of new (dir_name k)).len),
        sum_same n (λ k. (span_of new (dir_name k)).len) (λ k. (span_of s (dir_name k)).len) (λ k h. ap (λ (x : Span). x.len) (span-old k h)),
        ap (λ (x : Span). x.len) span-new,
      )

  pub sound-dir : Sound new
  sound-dir =
      record {
        rows-hold = ok.rows-hold;
        roots-hold = ok.roots-hold;
        dirs-hold = rw length-sets room;
        text-holds = rw length-sets space;
        few-files = ok.few-files;
        few-paths = few;
        within = λ p. omega (arith, within-put (span_of s) (span_of new) s.fs.text_len (length d) 0 (dir_name n) (dir_name n) ok.within p (put p));
        apart = λ p q e. apart-put (span_of s) (span_of new) s.fs.text_len (length d) 0 (dir_name n) (dir_name n) ok.within ok.apart p q e (put p) (put q);
        full = omega (arith, ok.full, dir-lengths);
        offsets = ok.offsets;
        total = ok.total;
        limited = ok.limited;
        on-disk = ok.on-disk;
        unlinked = ok.unlinked;
        placed = λ k h b. omega (arith, ok.placed k h b);
        indexed = ok.indexed;
      }

  pub dir-name : (view_of new).name ≡ (view_of s).name
  dir-name = set-name-kept s new ok more refl

  pub dir-files : (view_of new).files ≡ (view_of s).files
  dir-files = files-kept s new ok more

  pub dir-directories : (view_of new).directories ≡ (view_of s).directories ++ (d ∷ [])
  dir-directories =
      ap (λ (k : ℕ). tabled k (directory_text new)) (add-one n)
      ∙ tabled-more n (directory_text new)
      ∙ ap (λ (l : List (List ℕ)). l ++ (directory_text new n ∷ [])) (dirs-kept s new ok more)
      ∙ ap (λ (t : List ℕ). (view_of s).directories ++ (t ∷ [])) (ap (text_at new.text) dir-new ∙ read-new s.text d s.fs.text_len space)
