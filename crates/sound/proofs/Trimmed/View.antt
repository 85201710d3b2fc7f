-- What tables in order mean once row f is removed: the set without file f. It relies on Trimmed/Texts.antt and on the laws of
-- spans in `tables`, which serve the roots as well.
use Rattle.std.specs.Prelude.{Option}
use mathlib.Core.Path.{◌≡◌, refl, sym, ap, ◌∙◌}
use mathlib.Core.Bool.{Bool, true, false, cond}
use mathlib.Core.List.{List, ◌++◌, map}
use mathlib.Core.Logic.{◌⊎◌, inl, inr}
use Prim.Native.Nat.{ℕ, suc, ◌+◌, ◌-◌, ◌*◌, ◌%◌, ◌≤◌, ◌<◌}
use native.Mathlib.Omega.{arith}
use lib.Dec.{eqb, ltb}
use lib.IntN.{ℤ}
use lib.ListN.{length, take, drop, replicate, length-drop}
use lib.Seq.{take-append-le}
use borrow.Author.Tests.{lt-ltb, le-ltb, eqb-false}
use Rattle.lists.proofs.Orders.{le-or-lt}
use Rattle.types.specs.Signed.{unzigzag}
use Rattle.tables.specs.declared.span.Span.{Span}
use Rattle.tables.specs.declared.rows.Row.{Row}
use Rattle.tables.specs.Span.{text_at, Apart, low, lower, slid}
use Rattle.tables.specs.Rows.{row_at, root_at, has, skip}
use Rattle.tables.specs.Model.{present_if, Directory, single, absolute, stored, File, Store, tabled, directory_text, file_of, view_of}
use Rattle.tables.proofs.Spans.{read_kept, length-slid}
use Rattle.tables.proofs.Tabled.{tabled-same}
use Rattle.trim.specs.Trim.{beginning_at, without_file}
use Rattle.sound.specs.Sound.{set_name, dir_name, file_name, link_text, Sound}
use Rattle.sound.proofs.Files.{number-tabled, tabled-except}
use Rattle.sound.proofs.Trimmed.Texts.{l, new, row_is, text-after}

-- ---- roots

root-part : (roots : List ℕ) (i : ℕ) → i * 32 + 32 ≤ length roots → root_at roots i ≡ text_at roots (record { at = i * 32; len = 32 })
root-part roots i h = take-append-le 32 (drop (i * 32) roots) (replicate 32 0) (omega (arith, length-drop (i * 32) roots))

module _ (roots : List ℕ) (n f k : ℕ) (hf : f < n) (hk : k < n - 1) (hold : n * 32 ≤ length roots) where
  abbrev gone : Span
  gone = record { at = f * 32; len = 32 }

  abbrev moved : Span
  moved = record { at = skip f k * 32; len = 32 }

  aside : Apart gone moved
  aside = at (le-or-lt f k)
    where
      at : (f ≤ k) ⊎ (k < f) → Apart gone moved
      at (inl a) = let e : skip f k ≡ k + 1 = omega arith in rw e (omega arith)
      at (inr a) = let e : skip f k ≡ k = omega arith in rw e (omega arith)

  lowered : low gone moved ≡ record { at = k * 32; len = 32 }
  lowered = at (le-or-lt f k)
    where
      at : (f ≤ k) ⊎ (k < f) → low gone moved ≡ record { at = k * 32; len = 32 }
      at (inl a) =
          let e : skip f k ≡ k + 1 = omega arith in
          let q : lower gone ((k + 1) * 32) ≡ k * 32 = omega arith in
          rw (e, q)
      at (inr a) =
          let e : skip f k ≡ k = omega arith in
          let q : lower gone (k * 32) ≡ k * 32 = omega arith in
          rw (e, q)

  pub root-after : root_at (slid gone (n * 32) roots) k ≡ root_at roots (skip f k)
  root-after =
      let b : skip f k < n = omega arith in
      root-part (slid gone (n * 32) roots) k (omega (arith, length-slid gone (n * 32) roots))
      ∙ ap (text_at (slid gone (n * 32) roots)) (sym lowered)
      ∙ read_kept gone (n * 32) roots moved aside (omega arith) (omega arith) hold
      ∙ sym (root-part roots (skip f k) (omega arith))

-- ---- equal records from equal fields

abbrev file : ℕ → ℕ → List ℕ → Directory → ℕ → ℤ → Option (List ℕ) → Option (List ℕ) → Bool → File
file o s n d g t l r m =
    record { offset = o; size = s; name = n; directory = d; flags = g; time = t; link = l; root = r; made = m }

same-file : {o o' s s' g g' : ℕ} {n n' : List ℕ} {d d' : Directory} {t t' : ℤ} {l l' r r' : Option (List ℕ)} {m m' : Bool}
    → o ≡ o' → s ≡ s' → n ≡ n' → d ≡ d' → g ≡ g' → t ≡ t' → l ≡ l' → r ≡ r' → m ≡ m' → file o s n d g t l r m ≡ file o' s' n' d' g' t' l' r' m'
same-file o s n d g t l r m = cc

-- a file's directory by its path index and flags
abbrev place_at : Store → ℕ → ℕ → Directory
place_at s i flags =
    cond (eqb i 1073741823) single (cond (eqb i 1073741822) absolute (stored (directory_text s i) (has flags 32)))

-- ---- the files

module _ (s : Store) (f : ℕ) (h : f < s.fs.num_files) (ok : Sound s) where
  abbrev after : Store
  after = new s f h ok

  directory-kept : (k : ℕ) → k < s.fs.num_paths → directory_text after k ≡ directory_text s k
  directory-kept k b = let e = lt-ltb k s.fs.num_paths b in rw e at (text-after s f h ok (dir_name k))

  name-kept : (k : ℕ) → k < s.fs.num_files - 1 → text_at after.text (row_at after.rows k).name ≡ text_at s.text (row_at s.rows (skip f k)).name
  name-kept k b =
      let e = lt-ltb k (s.fs.num_files - 1) b in
      let e' = lt-ltb (skip f k) s.fs.num_files (omega arith) in
      rw (e, e') at (text-after s f h ok (file_name k))

  link-kept : (k : ℕ) → k < s.fs.num_files - 1 → text_at after.text (row_at after.rows k).link ≡ text_at s.text (row_at s.rows (skip f k)).link
  link-kept k b =
      let e = lt-ltb k (s.fs.num_files - 1) b in
      let e' = lt-ltb (skip f k) s.fs.num_files (omega arith) in
      rw (e, e') at (text-after s f h ok (link_text k))

  place_kept : (k flags : ℕ) → k < s.fs.num_files → place_at after (row_at s.rows k).path_index flags ≡ place_at s (row_at s.rows k).path_index flags
  place_kept k flags b = at (eqb i 1073741823) (eqb i 1073741822) refl refl
    where
      i : ℕ
      i = (row_at s.rows k).path_index

      at : (x y : Bool) → eqb i 1073741823 ≡ x → eqb i 1073741822 ≡ y
          → cond x single (cond y absolute (stored (directory_text after i) (has flags 32))) ≡ cond x single (cond y absolute (stored (directory_text s i) (has flags 32)))
      at true y p q = refl
      at false true p q = refl
      at false false p q =
          let a = eqb-false i 1073741823 p in
          let c = eqb-false i 1073741822 q in
          ap (λ (t : List ℕ). stored t (has flags 32)) (directory-kept i (ok.placed k b (omega (arith, ok.indexed k b))))

  abbrev total : ℕ
  total = s.fs.total_size - (row_at s.rows f).size

  file-after : (k : ℕ) → k < s.fs.num_files - 1 → file_of after k ≡ beginning_at (cond (ltb k f) (row_at s.rows (skip f k)).offset total) (file_of s (skip f k))
  file-after k b =
      let r = row_is s f h ok k b in
      let i : (row_at after.rows k).path_index ≡ (row_at s.rows (skip f k)).path_index = ap (λ (x : Row). x.path_index) r in
      let g : (row_at after.rows k).flags ≡ (row_at s.rows (skip f k)).flags = ap (λ (x : Row). x.flags) r in
      same-file
      (ap (λ (x : Row). x.offset) r)
      (ap (λ (x : Row). x.size) r)
      (name-kept k b)
      (ap (λ (j : ℕ). place_at after j (row_at after.rows k).flags) i
      ∙ ap (place_at after (row_at s.rows (skip f k)).path_index) g
      ∙ place_kept (skip f k) (row_at s.rows (skip f k)).flags (omega arith))
      (ap (λ (x : ℕ). x % 16) g)
      (ap (λ (x : Row). unzigzag x.time) r)
      (ap (λ (x : ℕ). present_if (has x 16) (text_at after.text (row_at after.rows k).link)) g ∙ ap (present_if (has (row_at s.rows (skip f k)).flags 16)) (link-kept k b))
      (ap (λ (x : ℕ). present_if (has x 128) (root_at after.roots k)) g
      ∙ ap (present_if (has (row_at s.rows (skip f k)).flags 128)) (root-after s.roots s.fs.num_files f k h b ok.roots-hold))
      (ap (λ (x : ℕ). has x 64) g)

  files-after : tabled (s.fs.num_files - 1) (file_of after) ≡ take f (view_of s).files ++ map (beginning_at total) (drop (f + 1) (view_of s).files)
  files-after = tabled-except (beginning_at total) s.fs.num_files f (file_of s) (file_of after) h front behind
    where
      front : (k : ℕ) → k < f → file_of after k ≡ file_of s k
      front k a =
          let e : skip f k ≡ k = omega arith in
          file-after k (omega arith) ∙ rw (lt-ltb k f a, e)

      behind : (k : ℕ) → f ≤ k → k < s.fs.num_files - 1 → file_of after k ≡ beginning_at total (file_of s (suc k))
      behind k a b =
          let e : skip f k ≡ suc k = omega arith in
          file-after k b ∙ rw (le-ltb k f a, e)

  pub view-after : view_of after ≡ without_file f (view_of s)
  view-after =
      rw (number-tabled (λ (g : File). g.size) s.fs.num_files (file_of s) f h)
      (rw (
        text-after s f h ok set_name,
        tabled-same s.fs.num_paths (directory_text after) (directory_text s) directory-kept,
        files-after,
      ))
