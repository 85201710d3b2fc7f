-- A set without files named again: the old name goes, the new one is put behind what stays, the directories are lowered, and
-- the tables stay in order. Relies on the laws of spans and rows of `tables`.
use mathlib.Core.Path.{◌≡◌, refl, sym, ap, ◌∙◌}
use mathlib.Core.Logic.{◌⊎◌, inl, inr}
use mathlib.Core.Bool.{Bool, true, cond}
use mathlib.Core.List.{List}
use Prim.Native.Nat.{ℕ, ◌+◌, ◌-◌, ◌*◌, ◌/◌, ◌≤◌, ◌<◌, min}
use native.Mathlib.Omega.{arith}
use lib.ListN.{length}
use lib.Seq.{sets, length-sets}
use borrow.Author.Tests.{lt-ltb, le-ltb}
use Rattle.lists.proofs.Orders.{le-or-lt}
use Rattle.tables.specs.declared.span.Span.{Span}
use Rattle.tables.specs.Span.{end_of, text_at, Apart, lower, low, slid}
use Rattle.tables.specs.Rows.{dir_at, dir_words, filled, dirs_lowered}
use Rattle.tables.specs.Model.{Store, tabled, directory_text, view_of}
use Rattle.tables.proofs.Spans.{apart-before, apart-sym, apart-kept, within-kept, read_kept, read-before, read-new, length-slid}
use Rattle.tables.proofs.Words.{dir-words}
use Rattle.tables.proofs.Filled.{word-filled}
use Rattle.tables.proofs.Tabled.{tabled-same}
use Rattle.sound.specs.Sound.{TextId, set_name, dir_name, file_name, link_text, nowhere, span_of, sum_to, text_at_row, Sound}
use Rattle.sound.proofs.Common.{sum_same}
use Rattle.sound.proofs.Texts.{dir-span}

-- the set with the name t in place of the one at span c, or as it was
abbrev pub name_stage : Bool → Store → Span → List ℕ → Store
name_stage b s c t =
    record {
      fs = record {
        piece_length = s.fs.piece_length;
        v2 = s.fs.v2;
        num_files = s.fs.num_files;
        num_paths = s.fs.num_paths;
        num_symlinks = s.fs.num_symlinks;
        name = cond b (record { at = s.fs.text_len - c.len; len = length t }) s.fs.name;
        text_len = s.fs.text_len - c.len + length t;
        total_size = s.fs.total_size;
        size_on_disk = s.fs.size_on_disk;
        trimmed = s.fs.trimmed;
        indexed = s.fs.indexed;
      };
      rows = s.rows;
      roots = s.roots;
      firsts = s.firsts;
      dirs = cond b (dirs_lowered s.dirs s.fs.num_paths c) s.dirs;
      text = sets (cond b (slid c s.fs.text_len s.text) s.text) (s.fs.text_len - c.len) t;
    }

abbrev pub named : Store → Span → List ℕ → Store
named s c t = name_stage true s c t

-- a directory row once span c is removed
pub dir-lowered : (dirs : List ℕ) (n : ℕ) (c : Span) (k : ℕ) → n * 2 ≤ length dirs → k < n → dir_at (dirs_lowered dirs n c) k ≡ low c (dir_at dirs k)
dir-lowered dirs n c k h b =
    let e : min n (length dirs / 2) ≡ n = omega arith in
    rw e
    (dir-words (sets dirs 0 (filled (λ i. dir_words (low c (dir_at dirs i))) 0 n)) k (low c (dir_at dirs k))
    (λ j l. word-filled 2 (λ i. dir_words (low c (dir_at dirs i))) (λ i. refl) dirs n k j l h b))

low-nowhere : (c : Span) → low c nowhere ≡ nowhere
low-nowhere c = let e : lower c 0 ≡ 0 = omega arith in rw e

module _ (s : Store) (t : List ℕ) (ok : Sound s) (none : s.fs.num_files ≡ 0) (space : s.fs.text_len - s.fs.name.len + length t ≤ length s.text) where
  abbrev u : ℕ
  u = s.fs.text_len

  abbrev c : Span
  c = s.fs.name

  abbrev new : Store
  new = named s c t

  abbrev n : ℕ
  n = s.fs.num_paths

  -- every other text is lowered
  span-low : (p : TextId) → (set_name ≡ p → ⊥) → span_of new p ≡ low c (span_of s p)
  span-low set_name d = absurd (d refl)
  span-low (dir_name k) d = at (le-or-lt n k)
    where
      at : (n ≤ k) ⊎ (k < n) → span_of new (dir_name k) ≡ low c (span_of s (dir_name k))
      at (inl h) = rw (le-ltb k n h) (sym (low-nowhere c))
      at (inr h) = rw (lt-ltb k n h) (dir-lowered s.dirs n c k ok.dirs-hold h)
  span-low (file_name k) d = rw (none, le-ltb k 0 (omega arith)) (sym (low-nowhere c))
  span-low (link_text k) d = rw (none, le-ltb k 0 (omega arith)) (sym (low-nowhere c))

  -- a place is the set's name, or another
  data Sort (p : TextId) : Type 0 where
    is : p ≡ set_name → Sort p
    other : (set_name ≡ p → ⊥) → Sort p

  sort : (p : TextId) → Sort p
  sort set_name = is refl
  sort (dir_name k) = other (λ e. let z : ◌≡◌ {A = ℕ} 0 1 = cc in omega arith)
  sort (file_name k) = other (λ e. let z : ◌≡◌ {A = ℕ} 0 1 = cc in omega arith)
  sort (link_text k) = other (λ e. let z : ◌≡◌ {A = ℕ} 0 1 = cc in omega arith)

  low-within : (p : TextId) → (set_name ≡ p → ⊥) → end_of (low c (span_of s p)) ≤ u - c.len
  low-within p d = within-kept c (span_of s p) u (ok.within set_name) (ok.within p) (ok.apart set_name p d)

  in-used : (p : TextId) → Sort p → end_of (span_of new p) ≤ u - c.len + length t
  in-used p (is e) = rw e (omega arith)
  in-used p (other d) = rw (span-low p d) (omega (arith, low-within p d))

  asunder : (p q : TextId) → (p ≡ q → ⊥) → Sort p → Sort q → Apart (span_of new p) (span_of new q)
  asunder p q d (is e) (is f) = absurd (d (e ∙ sym f))
  asunder p q d (is e) (other g) = rw (e, span-low q g) (apart-sym (low c (span_of s q)) _ (apart-before (low c (span_of s q)) _ (low-within q g)))
  asunder p q d (other g) (is f) = rw (f, span-low p g) (apart-before (low c (span_of s p)) _ (low-within p g))
  asunder p q d (other g) (other h) =
      rw (span-low p g, span-low q h)
      (apart-kept c (span_of s p) (span_of s q) (ok.apart set_name p g) (ok.apart set_name q h) (ok.apart p q d))

  dir-not : (k : ℕ) → set_name ≡ dir_name k → ⊥
  dir-not k e = let z : ◌≡◌ {A = ℕ} 0 1 = cc in omega arith

  dir-lengths : sum_to n (λ k. (span_of new (dir_name k)).len) ≡ sum_to n (λ k. (span_of s (dir_name k)).len)
  dir-lengths =
      sum_same n (λ k. (span_of new (dir_name k)).len) (λ k. (span_of s (dir_name k)).len)
      (λ k h. ap (λ (x : Span). x.len) (span-low (dir_name k) (dir-not k)))

  file-lengths : sum_to s.fs.num_files (text_at_row new) ≡ sum_to s.fs.num_files (text_at_row s)
  file-lengths = sum_same s.fs.num_files (text_at_row new) (text_at_row s) (λ k h. refl)

  pub sound-named : Sound new
  sound-named =
      record {
        rows-hold = ok.rows-hold;
        roots-hold = ok.roots-hold;
        dirs-hold = rw length-sets ok.dirs-hold;
        text-holds = rw (length-sets, length-slid) space;
        few-files = ok.few-files;
        few-paths = ok.few-paths;
        within = λ p. in-used p (sort p);
        apart = λ p q d. asunder p q d (sort p) (sort q);
        full = omega (arith, ok.full, dir-lengths, file-lengths);
        offsets = ok.offsets;
        total = ok.total;
        limited = ok.limited;
        on-disk = ok.on-disk;
        unlinked = ok.unlinked;
        placed = ok.placed;
        indexed = ok.indexed;
      }

  -- what the tables mean then
  pub named-name : (view_of new).name ≡ t
  named-name = read-new (slid c u s.text) t (u - c.len) (rw length-slid space)

  pub named-directories : (view_of new).directories ≡ (view_of s).directories
  named-directories = tabled-same n (directory_text new) (directory_text s) same
    where
      same : (k : ℕ) → k < n → directory_text new k ≡ directory_text s k
      same k h =
          let e = dir-span s k h in
          let l : end_of (low c (dir_at s.dirs k)) ≤ u - c.len = rw e at (low-within (dir_name k) (dir-not k)) in
          ap (text_at new.text) (dir-lowered s.dirs n c k ok.dirs-hold h)
          ∙ read-before (slid c u s.text) t (u - c.len) (low c (dir_at s.dirs k)) l
          ∙ read_kept c u s.text (dir_at s.dirs k) (rw e at (ok.apart set_name (dir_name k) (dir-not k))) (ok.within set_name) (rw e at (ok.within (dir_name k))) ok.text-holds

  pub named-files : (view_of new).files ≡ (view_of s).files
  unfolding tabled
  named-files = rw none
