-- Laws of the first pass: what the text from a link's directory says of its mark, and the pass over all files, which sets
-- the marks of those still to come. They rely on the definitions of Judging.antt and on the laws of frames in Leads.antt and
-- Fronts.antt.
use Prim.Native.Nat.{ℕ, ◌+◌, ◌≤◌}
use mathlib.Core.Path.{◌≡◌, refl, ap, ◌∙◌}
use mathlib.Core.Bool.{Bool, true, false, cond, not, false≢true, ◌&&◌}
use mathlib.Core.List.{List, [], ◌∷◌}
use native.Mathlib.Omega.{arith}
use native.Mathlib.Numerals.{add-one}
use lib.Dec.{eqb}
use lib.ListN.{length, set, take}
use lib.Seq.{sets, take_all}
use Rattle.path.specs.Join.{appended}
use Rattle.tables.specs.declared.span.Span.{Span}
use Rattle.tables.specs.declared.rows.Row.{Row}
use Rattle.tables.specs.Span.{text_at}
use Rattle.tables.specs.Rows.{dir_at, has, is_inside}
use Rattle.tables.specs.Model.{single, absolute, stored, Store, directory_of}
use Rattle.lookup.specs.Lookup.{Entry, file_at, is_directory, entries_of, directories_of}
use Rattle.lookup.specs.Space.{link_count}
use Rattle.lookup.specs.private.Rows.{entry_at}
use Rattle.lookup.proofs.Rows.{branch_in, branch_at, text_at_lem}
use Rattle.links.specs.Judging.{settled_mark, relative_mark, first_mark}
use Rattle.rope.specs.declared.lead.Lead.{Lead}
use Rattle.rope.specs.Rope.{frame_width, led_text}
use Rattle.links.specs.private.Walking.{first_marks, with_frame, word_of, path_of}
use Rattle.links.proofs.Fronts.{flat-alone}

-- ---- the mark of one link

-- by its directory: none, or one that its text is taken from
module _ (files : List Entry) (ds : List (List ℕ)) (t : List ℕ) (other : ℕ) where
  kinds-in : (a b : Bool) (text : List ℕ) (c : Span) (y : List ℕ) (o : Bool) → (not a && not b) ≡ true → y ≡ appended (text_at text (cond (not a && not b) c (record { at = 0; len = 0 }))) t
      → settled_mark (is_directory ds y) (file_at files y) other ≡ relative_mark files ds (cond a single (cond b absolute (stored (text_at text c) o))) t other
  kinds-in true b text c y o e q = absurd (false≢true e)
  kinds-in false true text c y o e q = absurd (false≢true e)
  kinds-in false false text c y o e q = rw q

  module _ (s : Store) (r : Row) where
    pub near_in : (y : List ℕ) → is_inside r ≡ true → y ≡ appended (branch_in s.dirs s.text r) t → settled_mark (is_directory ds y) (file_at files y) other ≡ relative_mark files ds (directory_of s r) t other
    near_in y = kinds-in (eqb r.path_index 1073741823) (eqb r.path_index 1073741822) s.text (dir_at s.dirs r.path_index) y (has r.flags 32)

-- the text from a link's directory, as a path of one frame
abbrev pub beside : ℕ → Lead
beside i = record { file = i; from_directory = true }

module _ (s : Store) (i n : ℕ) (f f' : List ℕ) (h : frame_width ≤ length f) (e : f' ≡ with_frame f 0 (word_of (beside i) false)) (k : n ≡ length (led_text s.rows s.dirs s.text (beside i))) where
  one-path : path_of s f' 1 ≡ led_text s.rows s.dirs s.text (beside i)
  one-path = ap (λ (x : List ℕ). path_of s x 1) e ∙ flat-alone s.rows s.dirs s.text f (beside i) h

  pub one_long : n ≤ length (path_of s f' 1)
  one_long = omega (arith, k, ap length one-path)

  pub one_part : take n (path_of s f' 1) ≡ appended (branch_at s i) (entry_at s i).text
  one_part =
      take_all n (path_of s f' 1) (omega (arith, k, ap length one-path))
      ∙ one-path
      ∙ ap (appended (branch_at s i)) (text_at_lem s i)

-- ---- the pass over all files

-- one mark a flagged link
pub length-marks : (files : List Entry) (ds : List (List ℕ)) (fs : List Entry) → length (first_marks files ds fs) ≡ link_count fs
length-marks files ds [] = refl
length-marks files ds (f ∷ fs) = at f.flagged (length-marks files ds fs)
  where
    at : (b : Bool) → length (first_marks files ds fs) ≡ link_count fs
        → length (cond b (first_mark files ds f ∷ first_marks files ds fs) (first_marks files ds fs)) ≡ cond b 1 0 + link_count fs
    at true e = omega arith
    at false e = omega arith

-- setting the marks of these files from mark k on gives w
module _ (s : Store) (w : List ℕ) where
  abbrev pub SetsLeft : List ℕ → List Entry → ℕ → Type 0
  SetsLeft ms fs k = sets ms k (first_marks (entries_of s) (directories_of s) fs) ≡ w

  -- past a file that is no flagged link, and once a flagged link's mark is set
  pub sets-past : (ms : List ℕ) (k : ℕ) (f : Entry) (fs : List Entry) → f.flagged ≡ false → SetsLeft ms (f ∷ fs) k → SetsLeft ms fs k
  sets-past ms k f fs e h = rw e at h

  pub sets-link : (ms ms' : List ℕ) (k : ℕ) (f : Entry) (fs : List Entry) → ms' ≡ set ms k (first_mark (entries_of s) (directories_of s) f) → f.flagged ≡ true → SetsLeft ms (f ∷ fs) k → SetsLeft ms' fs (k + 1)
  sets-link ms ms' k f fs q e h = rw (q, add-one) (rw e at h)
