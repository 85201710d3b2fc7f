-- What the removal of row f does to the texts of tables in order: every other text reads what it read, and no two have a
-- byte in common. It relies on Trimmed/Spans.antt and on the laws of rows in `tables`.
use mathlib.Core.Path.{◌≡◌, refl, sym, ap, ◌∙◌}
use mathlib.Core.Bool.{cond}
use mathlib.Core.Logic.{◌⊎◌, inl, inr}
use Prim.Native.Nat.{ℕ, ◌+◌, ◌-◌, ◌*◌, ◌≤◌, ◌<◌}
use native.Mathlib.Omega.{arith}
use lib.Dec.{ltb}
use lib.ListN.{length}
use borrow.Author.Tests.{lt-ltb, le-ltb}
use Rattle.lists.proofs.Orders.{le-or-lt}
use Rattle.tables.specs.declared.span.Span.{Span}
use Rattle.tables.specs.declared.rows.Row.{Row}
use Rattle.tables.specs.Span.{end_of, text_at, Apart, low, clip}
use Rattle.tables.specs.Rows.{row_at, dir_at, skip, row_moved, dirs_lowered}
use Rattle.tables.specs.Model.{Store}
use Rattle.tables.proofs.Spans.{clip-same}
use Rattle.tables.proofs.Moves.{row_moved_lem, dir-lowered, length-lowered}
use Rattle.trim.specs.Removal.{first_gone, second_gone, store_without, store_trimmed}
use Rattle.sound.specs.Sound.{TextId, set_name, dir_name, file_name, link_text, nowhere, span_of, sum_to, text_at_row, lengths, Sound}
use Rattle.sound.proofs.Common.{sum_same}
use Rattle.sound.proofs.Files.{sum-skip}
use Rattle.sound.proofs.Trimmed.Spans.{low_twice, low-twice-nowhere, next-in, two-within, two-read, two-apart}

-- ---- places

-- what stands at a place after row f is removed stood here before
abbrev pub back : ℕ → TextId → TextId
back f set_name = set_name
back f (dir_name k) = dir_name k
back f (file_name k) = file_name (skip f k)
back f (link_text k) = link_text (skip f k)

-- and the way there
abbrev fore : ℕ → TextId → TextId
fore f set_name = set_name
fore f (dir_name k) = dir_name k
fore f (file_name k) = file_name (k - (1 - (f + 1 - k)))
fore f (link_text k) = link_text (k - (1 - (f + 1 - k)))

there : (f k : ℕ) → skip f k - (1 - (f + 1 - skip f k)) ≡ k
there f k = omega arith

fore-back : (f : ℕ) (p : TextId) → fore f (back f p) ≡ p
fore-back f set_name = refl
fore-back f (dir_name k) = refl
fore-back f (file_name k) = ap file_name (there f k)
fore-back f (link_text k) = ap link_text (there f k)

back-apart : (f : ℕ) (p q : TextId) → (p ≡ q → ⊥) → back f p ≡ back f q → ⊥
back-apart f p q n e = n (sym (fore-back f p) ∙ ap (fore f) e ∙ fore-back f q)

pub skip-not : (f k : ℕ) → skip f k ≡ f → ⊥
skip-not f k e = omega arith

abbrev row_of : TextId → ℕ → ℕ
row_of set_name f = f + 1
row_of (dir_name k) f = f + 1
row_of (file_name k) f = k
row_of (link_text k) f = k

-- no place leads back to a text of row f
back-not : (f : ℕ) (p q : TextId) → row_of q f ≡ f → q ≡ back f p → ⊥
back-not f set_name q n e = let m = ap (λ (x : TextId). row_of x f) e in omega arith
back-not f (dir_name k) q n e = let m = ap (λ (x : TextId). row_of x f) e in omega arith
back-not f (file_name k) q n e = let m = ap (λ (x : TextId). row_of x f) e in skip-not f k (sym m ∙ n)
back-not f (link_text k) q n e = let m = ap (λ (x : TextId). row_of x f) e in skip-not f k (sym m ∙ n)

name-link : (f : ℕ) → file_name f ≡ link_text f → ⊥
name-link f e = let z : ◌≡◌ {A = ℕ} 0 1 = cc in omega arith

-- the lengths together, without the c and l bytes of one row
lengths-less : (n c l : ℕ) {a b x y z v used : ℕ} → a ≡ b → x ≡ y → y + z ≡ v → z ≡ c + l → n + b + v ≡ used → n + a + x ≡ used - c - l
lengths-less n c l p q r t k = omega arith

-- ---- the tables without row f

module _ (s : Store) (f : ℕ) (h : f < s.fs.num_files) (ok : Sound s) where
  abbrev u : ℕ
  u = s.fs.text_len

  abbrev pub c : Span
  c = (row_at s.rows f).name

  abbrev pub l : Span
  l = (row_at s.rows f).link

  abbrev pub new : Store
  new = store_without s f (row_at s.rows f) c (low c l)

  name-is : span_of s (file_name f) ≡ c
  name-is = rw (lt-ltb f s.fs.num_files h)

  link-is : span_of s (link_text f) ≡ l
  link-is = rw (lt-ltb f s.fs.num_files h)

  hc : end_of c ≤ u
  hc = rw name-is at (ok.within (file_name f))

  hl : end_of l ≤ u
  hl = rw link-is at (ok.within (link_text f))

  cl : Apart c l
  cl = rw (name-is, link-is) at (ok.apart (file_name f) (link_text f) (name-link f))

  cs : (p : TextId) → Apart c (span_of s (back f p))
  cs p = rw name-is at (ok.apart (file_name f) (back f p) (back-not f p (file_name f) refl))

  ls : (p : TextId) → Apart l (span_of s (back f p))
  ls p = rw link-is at (ok.apart (link_text f) (back f p) (back-not f p (link_text f) refl))

  -- nothing is clipped
  first-is : first_gone s.fs (row_at s.rows f) ≡ c
  first-is = clip-same u c hc

  second_is : second_gone s.fs (row_at s.rows f) ≡ low c l
  second_is =
      ap (λ (x : Span). clip (u - x.len) (low x l)) first-is
      ∙ clip-same (u - c.len) (low c l) (next-in c l u s.text hc hl ok.text-holds cl)

  pub removed-is : store_trimmed s f ≡ new
  removed-is =
      ap (λ (x : Span). store_without s f (row_at s.rows f) (first_gone s.fs (row_at s.rows f)) x) second_is
      ∙ ap (λ (x : Span). store_without s f (row_at s.rows f) x (low c l)) first-is

  abbrev total : ℕ
  total = s.fs.total_size - (row_at s.rows f).size

  -- each row, and each directory row
  pub row_is : (k : ℕ) → k < s.fs.num_files - 1 → row_at new.rows k ≡ row_moved f total c (low c l) k (row_at s.rows (skip f k))
  row_is k b =
      row_moved_lem s.rows (s.fs.num_files - 1) f total c (low c l) k b (omega (arith, ok.rows-hold)) (omega (arith, ok.limited))

  pub dir-is : (k : ℕ) → k < s.fs.num_paths → dir_at new.dirs k ≡ low_twice c (low c l) (dir_at s.dirs k)
  dir-is k b =
      dir-lowered (dirs_lowered s.dirs s.fs.num_paths c) s.fs.num_paths (low c l) k b (within-dirs (length-lowered s.dirs s.fs.num_paths c))
      ∙ ap (low (low c l)) (dir-lowered s.dirs s.fs.num_paths c k b (within-dirs refl))
    where
      within-dirs : {n : ℕ} → n ≡ length s.dirs → k * 2 + 2 ≤ n
      within-dirs e = omega (arith, ok.dirs-hold)

  row-span : (v : Row → Span) → ((i : ℕ) (r : Row) → v (row_moved f total c (low c l) i r) ≡ low_twice c (low c l) (v r)) → (k : ℕ)
      → cond (ltb k (s.fs.num_files - 1)) (v (row_at new.rows k)) nowhere ≡ low_twice c (low c l) (cond (ltb (skip f k) s.fs.num_files) (v (row_at s.rows (skip f k))) nowhere)
  row-span v e k = at (le-or-lt (s.fs.num_files - 1) k)
    where
      at : (s.fs.num_files - 1 ≤ k) ⊎ (k < s.fs.num_files - 1)
          → cond (ltb k (s.fs.num_files - 1)) (v (row_at new.rows k)) nowhere ≡ low_twice c (low c l) (cond (ltb (skip f k) s.fs.num_files) (v (row_at s.rows (skip f k))) nowhere)
      at (inl b) =
          rw (le-ltb k (s.fs.num_files - 1) b, le-ltb (skip f k) s.fs.num_files (omega arith)) (sym (low-twice-nowhere c (low c l)))
      at (inr b) =
          rw (lt-ltb k (s.fs.num_files - 1) b, lt-ltb (skip f k) s.fs.num_files (omega arith))
          (ap v (row_is k b) ∙ e k (row_at s.rows (skip f k)))

  -- where each text lies then
  pub span-after : (p : TextId) → span_of new p ≡ low_twice c (low c l) (span_of s (back f p))
  span-after set_name = refl
  span-after (dir_name k) = at (le-or-lt s.fs.num_paths k)
    where
      at : (s.fs.num_paths ≤ k) ⊎ (k < s.fs.num_paths) → span_of new (dir_name k) ≡ low_twice c (low c l) (span_of s (dir_name k))
      at (inl b) = rw (le-ltb k s.fs.num_paths b) (sym (low-twice-nowhere c (low c l)))
      at (inr b) = rw (lt-ltb k s.fs.num_paths b) (dir-is k b)
  span-after (file_name k) = row-span (λ (r : Row). r.name) (λ i r. refl) k
  span-after (link_text k) = row-span (λ (r : Row). r.link) (λ i r. refl) k

  pub within-after : (p : TextId) → end_of (span_of new p) ≤ new.fs.text_len
  within-after p =
      rw (span-after p) (two-within c l u s.text hc hl ok.text-holds cl (span_of s (back f p)) (ok.within (back f p)) (cs p) (ls p))

  pub apart-after : (p q : TextId) → (p ≡ q → ⊥) → Apart (span_of new p) (span_of new q)
  apart-after p q n =
      rw (span-after p, span-after q)
      (two-apart c l u s.text hc hl ok.text-holds cl (span_of s (back f p)) (ok.within (back f p)) (cs p) (ls p) (span_of s (back f q)) (cs q) (ls q) (ok.apart (back f p) (back f q) (back-apart f p q n)))

  pub text-after : (p : TextId) → text_at new.text (span_of new p) ≡ text_at s.text (span_of s (back f p))
  text-after p =
      ap (text_at new.text) (span-after p)
      ∙ two-read c l u s.text hc hl ok.text-holds cl (span_of s (back f p)) (ok.within (back f p)) (cs p) (ls p)

  -- the lengths
  dir-lengths : sum_to s.fs.num_paths (λ k. (span_of new (dir_name k)).len) ≡ sum_to s.fs.num_paths (λ k. (span_of s (dir_name k)).len)
  dir-lengths =
      sum_same s.fs.num_paths (λ k. (span_of new (dir_name k)).len) (λ k. (span_of s (dir_name k)).len) (λ k b. ap (λ (x : Span). x.len) (span-after (dir_name k)))

  row-lengths : sum_to (s.fs.num_files - 1) (text_at_row new) ≡ sum_to (s.fs.num_files - 1) (λ k. text_at_row s (skip f k))
  row-lengths =
      sum_same (s.fs.num_files - 1) (text_at_row new) (λ k. text_at_row s (skip f k))
      (λ k b. cc (ap (λ (x : Span). x.len) (span-after (file_name k)), ap (λ (x : Span). x.len) (span-after (link_text k))))

  here : text_at_row s f ≡ c.len + l.len
  here = cc (ap (λ (x : Span). x.len) name-is, ap (λ (x : Span). x.len) link-is)

  pub full-after : lengths new ≡ new.fs.text_len
  full-after =
      lengths-less s.fs.name.len c.len l.len dir-lengths row-lengths (sum-skip s.fs.num_files f (text_at_row s) h) here ok.full
