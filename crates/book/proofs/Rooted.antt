-- An addition may be given a root of any length, where tables hold 32 bytes a root: the set after it is the one that the
-- same addition with the 32 bytes then held leads to, and the book does not see the difference. Relies on the laws of
-- additions in `sound`.
use Rattle.std.specs.Prelude.{Option, Some, None}
use mathlib.Core.Path.{◌≡◌, refl, sym, ap, ◌∙◌}
use mathlib.Core.Logic.{◌⊎◌, inl, inr}
use mathlib.Core.Bool.{Bool, true, false, cond, not, ◌||◌}
use mathlib.Core.List.{List}
use Prim.Native.Nat.{ℕ, ◌+◌, ◌*◌, ◌≤◌, ◌<◌, min}
use native.Mathlib.Omega.{arith}
use lib.Dec.{eqb, ltb}
use lib.ListN.{length}
use Rattle.lists.proofs.Orders.{le-or-lt}
use Rattle.lists.proofs.Runs.{get_or-sets-below}
use Rattle.tables.specs.declared.rows.Row.{Row}
use Rattle.tables.specs.Rows.{row_at, root_at, put_root, put_row, has}
use Rattle.tables.specs.Model.{present_if, Model, Store, store_of, file_of, view_of}
use Rattle.tables.proofs.Tabled.{tabled-same, length-tabled}
use Rattle.tables.proofs.Words.{row_back, length-root, root-ext, root-back, length-put-root, length-put-row}
use Rattle.rules.specs.Rules.{first_of}
use Rattle.additions.specs.Addition.{Addition, added, adding_rules, pad_of, files_of}
use Rattle.plan.specs.Write.{store_added, row_added, row_of_pad, text_after}
use Rattle.change.specs.Rooms.{rooms_of, holds}
use Rattle.plan.specs.Outcomes.{lacks_places, adding_number}
use Rattle.sound.specs.Sound.{TextId, set_name, dir_name, file_name, link_text, span_of, Sound}
use Rattle.sound.proofs.Added.Answer.{Fits, fits}
use Rattle.sound.proofs.Added.Whole.{count-files}
use Rattle.sound.proofs.Added.{view-added, sound-added}
use Rattle.book.specs.Book.{done, add, Book, after_addition}
use Rattle.book.specs.Times.{Timed, timed_after}

-- ---- tables with other roots

abbrev with_roots : Store → List ℕ → Store
with_roots s roots = store_of s.fs s.rows roots s.firsts s.dirs s.text

sound-roots : (s : Store) (roots : List ℕ) → length roots ≡ length s.roots → Sound s → Sound (with_roots s roots)
sound-roots s roots e ok =
    record {
      rows-hold = ok.rows-hold;
      roots-hold = omega (arith, ok.roots-hold);
      dirs-hold = ok.dirs-hold;
      text-holds = ok.text-holds;
      few-files = ok.few-files;
      few-paths = ok.few-paths;
      within = λ p. rw (span_same p) (ok.within p);
      apart = λ p q d. rw (span_same p, span_same q) (ok.apart p q d);
      full = ok.full;
      offsets = ok.offsets;
      total = ok.total;
      limited = ok.limited;
      on-disk = ok.on-disk;
      unlinked = ok.unlinked;
      placed = ok.placed;
      indexed = ok.indexed;
    }
  where
    span_same : (p : TextId) → span_of (with_roots s roots) p ≡ span_of s p
    span_same set_name = refl
    span_same (dir_name k) = refl
    span_same (file_name k) = refl
    span_same (link_text k) = refl

-- the root of a row, where it has one
abbrev root_in : Store → List ℕ → ℕ → Option (List ℕ)
root_in s roots k = present_if (has (row_at s.rows k).flags 128) (root_at roots k)

view-roots : (s : Store) (roots : List ℕ) → ((k : ℕ) → k < s.fs.num_files → root_in s roots k ≡ root_in s s.roots k) → view_of (with_roots s roots) ≡ view_of s
view-roots s roots e =
    rw (tabled-same s.fs.num_files (file_of (with_roots s roots)) (file_of s) (λ k h. rw (e k h)))

-- a root stored at place n, of any length, leaves those before it
root_below : (roots : List ℕ) (n : ℕ) (root : List ℕ) (k : ℕ) → k < n → root_at (put_root roots n root) k ≡ root_at roots k
root_below roots n root k h =
    root-ext (put_root roots n root) roots k k (λ j b. get_or-sets-below root roots (n * 32) (k * 32 + j) 0 (omega arith))

-- ---- an addition with another root

abbrev with_root : Addition → Option (List ℕ) → Addition
with_root a root =
    record { given = a.given; path = a.path; size = a.size; flags = a.flags; time = a.time; link = a.link; root = root }

-- an addition that does to the set's tables what one with a root of 32 bytes does
pub record Settled (s : Store) (a : Addition) : Type 0 where
  pub like : Addition
  pub number : adding_number s (view_of s) like ≡ 0
  pub view : view_of (store_added s (view_of s) a) ≡ added (view_of s) like
  pub sound : Sound (store_added s (view_of s) a)
  pub entered : (b : Book) → after_addition b like ≡ after_addition b a
  pub timed : (b : Book) (ts : List Timed) → timed_after b ts (add like) done ≡ timed_after b ts (add a) done

-- which root it is does not count for a refusal: the rules with so many files after the addition
abbrev number_with : Store → Model → Addition → ℕ → ℕ
number_with s m a files =
    first_of
    (adding_rules m a
    (not (holds s)
    || (lacks_places s m a
    || (ltb (min 65535 (rooms_of s).files) files
    || (ltb (min 65535 (rooms_of s).directories) (length (added m a).directories) || ltb (rooms_of s).text (text_after s.fs m a))))))

same_number_lem : (s : Store) (m : Model) (a : Addition) (r q : List ℕ) → adding_number s m (with_root a (Some q)) ≡ adding_number s m (with_root a (Some r))
same_number_lem s m a r q =
    ap (number_with s m (with_root a (Some r))) (count-files m (with_root a (Some q)) ∙ sym (count-files m (with_root a (Some r))))

module _ (s : Store) (a : Addition) (r : List ℕ) (ok : Sound s) (zero : adding_number s (view_of s) (with_root a (Some r)) ≡ 0) where
  abbrev n : ℕ
  n = s.fs.num_files

  -- the bytes that are held at the file's place afterwards
  abbrev held : List ℕ
  held = root_at (put_root s.roots n r) n

  abbrev like : Addition
  like = with_root a (Some held)

  abbrev after : Store
  after = store_added s (view_of s) like

  passes : adding_number s (view_of s) like ≡ 0
  passes = same_number_lem s (view_of s) a r held ∙ zero

  fit : Fits s (view_of s) like
  fit = fits s (view_of s) like passes

  rooted : (q : List ℕ) → like.root ≡ Some q → length q ≡ 32
  rooted q e =
      let h : held ≡ q = cc in
      ap length (sym h) ∙ length-root (put_root s.roots n r) n

  abbrev pad : ℕ
  pad = pad_of (view_of s) like

  files-count : files_of (added (view_of s) like) ≡ n + 1 + cond (eqb pad 0) 0 1
  files-count = count-files (view_of s) like ∙ ap (λ (k : ℕ). k + 1 + cond (eqb pad 0) 0 1) (length-tabled n (file_of s))

  -- the pad's row has no root
  pad-bare : eqb pad 0 ≡ false → has (row_at after.rows (n + 1)).flags 128 ≡ false
  pad-bare e =
      let c : files_of (added (view_of s) like) ≡ n + 1 + 1 = files-count ∙ ap (λ (b : Bool). n + 1 + cond b 0 1) e in
      let rows = put_row s.rows n (row_added s.fs (view_of s) like) in
      let q : row_at (put_row rows (n + 1) (row_of_pad s.fs (view_of s) like)) (n + 1) ≡ row_of_pad s.fs (view_of s) like = row_back rows (n + 1) (row_of_pad s.fs (view_of s) like) (omega (arith, fit.rows-hold, length-put-row s.rows n (row_added s.fs (view_of s) like))) (record { offset = omega (arith, fit.limited); size = omega (arith, fit.limited); flags = omega arith }) in
      ap (λ (b : Bool). has (row_at (cond b rows (put_row rows (n + 1) (row_of_pad s.fs (view_of s) like))) (n + 1)).flags 128) e
      ∙ ap (λ (x : Row). has x.flags 128) q

  same-root : (k : ℕ) → k < after.fs.num_files → root_in after (put_root s.roots n r) k ≡ root_in after after.roots k
  same-root k h = at (le-or-lt n k) (le-or-lt k n)
    where
      here : n * 32 + 32 ≤ length s.roots
      here = omega (arith, fit.roots-hold, files-count)

      last : (b : Bool) → eqb pad 0 ≡ b → k < n + cond b 1 2 → n < k → (eqb pad 0 ≡ false) × (k ≡ n + 1)
      last true e h g = absurd (omega arith)
      last false e h g = (e, omega arith)

      at : (n ≤ k) ⊎ (k < n) → (k ≤ n) ⊎ (n < k) → root_in after (put_root s.roots n r) k ≡ root_in after after.roots k
      at (inr g) y =
          ap (λ (x : List ℕ). present_if (has (row_at after.rows k).flags 128) x) (root_below s.roots n r k g ∙ sym (root_below s.roots n held k g))
      at (inl g) (inl i) =
          let e : k ≡ n = omega arith in
          rw e
          (ap (λ (x : List ℕ). present_if (has (row_at after.rows n).flags 128) x) (sym (root-back s.roots n held (length-root (put_root s.roots n r) n) here)))
      at (inl g) (inr i) =
          let p = last (eqb pad 0) refl h i in
          rw (p.1, pad-bare p.0)

  settled_root : Settled s (with_root a (Some r))
  settled_root =
      record {
        like = like;
        number = passes;
        view = view-roots after (put_root s.roots n r) same-root ∙ view-added s like ok passes rooted;
        sound = sound-roots after (put_root s.roots n r) (length-put-root s.roots n r ∙ sym (length-put-root s.roots n held)) (sound-added s like ok passes rooted);
        entered = λ b. refl;
        timed = λ b ts. refl;
      }

pub settled : (s : Store) (a : Addition) → Sound s → adding_number s (view_of s) a ≡ 0 → Settled s a
settled s a ok zero = at a.root zero
  where
    at : (o : Option (List ℕ)) → adding_number s (view_of s) (with_root a o) ≡ 0 → Settled s (with_root a o)
    at None z =
        record {
          like = with_root a None;
          number = z;
          view = view-added s (with_root a None) ok z (λ q e. none q e);
          sound = sound-added s (with_root a None) ok z (λ q e. none q e);
          entered = λ b. refl;
          timed = λ b ts. refl;
        }
      where
        none : (q : List ℕ) → ◌≡◌ {A = Option (List ℕ)} None (Some q) → length q ≡ 32
        none q e = let z : ◌≡◌ {A = ℕ} 0 1 = cc in absurd (omega arith)
    at (Some r) z = settled_root s a r ok z
