-- Other tables that hold the same set as tables in order are in order too, and mean the same: every row, place and text
-- that the set uses reads alike in both, and nothing else is read. Relies on the laws of reading in `lists` and `tables`, and
-- on those of `sound` for tables that hold what others hold.
--     lent-sound, lent_view       in order, and the same meaning
--     same_self, same-through     a lending of the same tables, and two lendings in a row
--     longer                      tables that begin with tables in order hold the same set
use mathlib.Core.Path.{◌≡◌, refl, sym, ap, subst, ◌∙◌}
use mathlib.Core.Bool.{Bool, true, false, cond}
use mathlib.Core.List.{List}
use Prim.Native.Nat.{ℕ, ◌+◌, ◌*◌, ◌≤◌, ◌<◌}
use native.Mathlib.Omega.{arith}
use lib.Dec.{ltb}
use lib.ListN.{length, get_or, take, length-take}
use lib.Seq.{get_or-take, take-take}
use borrow.Author.Tests.{ltb-true}
use Rattle.lists.specs.Lists.{part_of}
use Rattle.lists.proofs.Parts.{part-part-within}
use Rattle.tables.specs.declared.span.Span.{Span}
use Rattle.tables.specs.declared.rows.Row.{Row}
use Rattle.tables.specs.declared.storage.FileStorage.{FileStorage}
use Rattle.tables.specs.Rows.{row_at, has}
use Rattle.tables.specs.Model.{Store, store_of, view_of}
use Rattle.tables.proofs.Words.{row-ext, dir-ext, root-ext}
use Rattle.sound.specs.Sound.{TextId, set_name, dir_name, file_name, link_text, nowhere, span_of, text_at_row, size_of_row, pad_of_row, Sound}
use Rattle.sound.proofs.Common.{sum_same}
use Rattle.sound.proofs.Added.Texts.{Extends, set-name-kept, dirs-kept, files-kept}
use Rattle.book.specs.Calls.{places_used, SameSet, Renames, SameRenames}

-- ---- two lists that begin alike: one is long enough if the other is, and both read the same there

module _ {A : Type 0} (n : ℕ) (l l₀ : List A) (e : take n l ≡ take n l₀) where
  pub as_long : n ≤ length l₀ → n ≤ length l
  as_long h = omega (arith, length-take n l, length-take n l₀, ap length e)

  pub get_or-below : (k : ℕ) (d : A) → k < n → get_or l k d ≡ get_or l₀ k d
  get_or-below k d h = sym (get_or-take n l k d h) ∙ ap (λ (x : List A). get_or x k d) e ∙ get_or-take n l₀ k d h

  part-below : (at k : ℕ) → at + k ≤ n → part_of l at k ≡ part_of l₀ at k
  part-below at k h =
      let z : 0 + at ≡ at = omega arith in
      rw z at (sym (part-part-within l 0 n at k h) ∙ ap (λ (x : List A). part_of x at k) e ∙ part-part-within l₀ 0 n at k h)

-- ---- the other tables, beside the same record

-- what is read only below n
here : {A : Type 0} (k n : ℕ) (x y z : A) → (k < n → x ≡ y) → cond (ltb k n) x z ≡ cond (ltb k n) y z
here k n x y z e = at (ltb k n) refl
  where
    at : (b : Bool) → ltb k n ≡ b → cond b x z ≡ cond b y z
    at true q = e (ltb-true k n q)
    at false q = refl

module _ (s t : Store) (ok : Sound s) (same : SameSet s t) where
  abbrev beside : FileStorage → Store
  beside fs = store_of fs t.rows t.roots t.firsts t.dirs t.text

  abbrev lent : Store
  lent = beside s.fs

  -- which is the record that was lent with them
  lent_is : lent ≡ t
  lent_is = ap beside (sym same.fs)

  -- rows, roots, directories and texts
  alike : Extends s lent
  alike =
      record {
        rows = λ k h. row-ext t.rows s.rows k k (λ j b. get_or-below (s.fs.num_files * 8) t.rows s.rows same.rows (k * 8 + j) 0 (omega arith));
        roots = λ k h. root-ext t.roots s.roots k k (λ j b. get_or-below (s.fs.num_files * 32) t.roots s.roots same.roots (k * 32 + j) 0 (omega arith));
        dirs = λ k h. dir-ext t.dirs s.dirs k k (λ j b. get_or-below (s.fs.num_paths * 2) t.dirs s.dirs same.dirs (k * 2 + j) 0 (omega arith));
        text = λ x h. part-below _ t.text s.text same.text x.at x.len h;
      }

  -- every place is where it was
  span-kept : (p : TextId) → span_of lent p ≡ span_of s p
  span-kept set_name = refl
  span-kept (dir_name k) = here k _ _ _ nowhere (alike.dirs k)
  span-kept (file_name k) = here k _ _ _ nowhere (λ h. ap (λ (r : Row). r.name) (alike.rows k h))
  span-kept (link_text k) = here k _ _ _ nowhere (λ h. ap (λ (r : Row). r.link) (alike.rows k h))

  -- and every row says what it said
  size-kept : (k : ℕ) → k < s.fs.num_files → size_of_row lent k ≡ size_of_row s k
  size-kept k h = ap (λ (r : Row). r.size) (alike.rows k h)

  pad-kept : (k : ℕ) → k < s.fs.num_files → pad_of_row lent k ≡ pad_of_row s k
  pad-kept k h = ap (λ (r : Row). cond (has r.flags 1) r.size 0) (alike.rows k h)

  path-kept : (k : ℕ) → k < s.fs.num_files → (row_at t.rows k).path_index ≡ (row_at s.rows k).path_index
  path-kept k h = ap (λ (r : Row). r.path_index) (alike.rows k h)

  sound-beside : Sound lent
  sound-beside =
      record {
        rows-hold = as_long _ t.rows s.rows same.rows ok.rows-hold;
        roots-hold = as_long _ t.roots s.roots same.roots ok.roots-hold;
        dirs-hold = as_long _ t.dirs s.dirs same.dirs ok.dirs-hold;
        text-holds = as_long _ t.text s.text same.text ok.text-holds;
        few-files = ok.few-files;
        few-paths = ok.few-paths;
        within = λ p. rw (span-kept p) (ok.within p);
        apart = λ p q d. rw (span-kept p, span-kept q) (ok.apart p q d);
        full =
            omega (
              arith,
              ok.full,
              sum_same s.fs.num_paths (λ k. (span_of lent (dir_name k)).len) (λ k. (span_of s (dir_name k)).len) (λ k h. ap (λ (x : Span). x.len) (span-kept (dir_name k))),
              sum_same s.fs.num_files (text_at_row lent) (text_at_row s) (λ k h. rw (span-kept (file_name k), span-kept (link_text k))),
            );
        offsets = λ k h.
            ap (λ (r : Row). r.offset) (alike.rows k h)
            ∙ ok.offsets k h
            ∙ sym (sum_same k (size_of_row lent) (size_of_row s) (λ i b. size-kept i (omega arith)));
        total = ok.total ∙ sym (sum_same s.fs.num_files (size_of_row lent) (size_of_row s) size-kept);
        limited = ok.limited;
        on-disk = omega (arith, ok.on-disk, sum_same s.fs.num_files (pad_of_row lent) (pad_of_row s) pad-kept);
        unlinked = λ k h e.
            ap (λ (r : Row). r.link.len) (alike.rows k h)
            ∙ ok.unlinked k h (sym (ap (λ (r : Row). has r.flags 16) (alike.rows k h)) ∙ e);
        placed = λ k h e. let q = path-kept k h in omega (arith, ok.placed k h (omega arith));
        indexed = λ k h. omega (arith, path-kept k h, ok.indexed k h);
      }

  view-beside : view_of lent ≡ view_of s
  view-beside =
      rw (set-name-kept s lent ok alike refl, files-kept s lent ok alike, dirs-kept s lent ok alike)

  -- ---- the theorems

  pub lent-sound : Sound t
  lent-sound = subst Sound lent_is sound-beside

  pub lent_view : view_of t ≡ view_of s
  lent_view = ap view_of (sym lent_is) ∙ view-beside

-- ---- lendings

pub same_self : (s : Store) → SameSet s s
same_self s = record { fs = refl; rows = refl; roots = refl; firsts = refl; dirs = refl; text = refl }

pub same-through : (s t u : Store) → SameSet s t → SameSet t u → SameSet s u
same-through s t u p q =
    record {
      fs = q.fs ∙ p.fs;
      rows = rw p.fs at q.rows ∙ p.rows;
      roots = rw p.fs at q.roots ∙ p.roots;
      firsts = rw p.fs at q.firsts ∙ p.firsts;
      dirs = rw p.fs at q.dirs ∙ p.dirs;
      text = rw p.fs at q.text ∙ p.text;
    }

pub names-self : (r : Renames) → SameRenames r r
names-self r = record { rf = refl; entries = refl; text = refl }

pub names-through : (r q p : Renames) → SameRenames r q → SameRenames q p → SameRenames r p
names-through r q p a b =
    record { rf = b.rf ∙ a.rf; entries = rw a.rf at b.entries ∙ a.entries; text = rw a.rf at b.text ∙ a.text }

-- the same record, and each table of t begins with that of s
pub record Longer (s t : Store) : Type 0 where
  pub fs : t.fs ≡ s.fs
  pub rows : take (length s.rows) t.rows ≡ s.rows
  pub roots : take (length s.roots) t.roots ≡ s.roots
  pub firsts : take (length s.firsts) t.firsts ≡ s.firsts
  pub dirs : take (length s.dirs) t.dirs ≡ s.dirs
  pub text : take (length s.text) t.text ≡ s.text

begins : {A : Type 0} (n : ℕ) (l l₀ : List A) → take (length l₀) l ≡ l₀ → n ≤ length l₀ → take n l ≡ take n l₀
begins n l l₀ e h = sym (take-take n (length l₀) l h) ∙ ap (take n) e

-- no part that the set uses is missing in tables in order, whose first files have a place for each piece, so what they
-- begin with is enough
pub longer : (s t : Store) → Sound s → places_used s.fs ≤ length s.firsts → Longer s t → SameSet s t
longer s t ok h l =
    record {
      fs = l.fs;
      rows = begins (s.fs.num_files * 8) t.rows s.rows l.rows ok.rows-hold;
      roots = begins (s.fs.num_files * 32) t.roots s.roots l.roots ok.roots-hold;
      firsts = begins (places_used s.fs) t.firsts s.firsts l.firsts h;
      dirs = begins (s.fs.num_paths * 2) t.dirs s.dirs l.dirs ok.dirs-hold;
      text = begins s.fs.text_len t.text s.text l.text ok.text-holds;
    }
