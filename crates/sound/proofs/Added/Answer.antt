-- What an addition answers: on tables in order the number that the tables give is the number that the model gives, but for
-- the places of the table of first files, and 0 gives every bound that the writing needs. Relies on Added/TextNeeded.antt.
use mathlib.Core.Path.{◌≡◌, refl, sym, ap, ◌∙◌}
use mathlib.Core.Bool.{Bool, true, false, cond, not, ◌&&◌, ◌||◌}
use Prim.Native.Nat.{ℕ, ◌+◌, ◌*◌, ◌/◌, ◌≤◌, min}
use native.Mathlib.Omega.{arith}
use lib.Dec.{leb, ltb}
use lib.ListN.{length}
use borrow.Author.Tests.{le-leb, ltb-false}
use Rattle.tables.specs.Model.{Model, Store, view_of}
use Rattle.rules.specs.Rules.{first_of, outcome_of}
use Rattle.path.specs.Split.{has_parent_path}
use Rattle.rules.specs.Bounds.{bad_length, is_negative, limit}
use Rattle.rules.specs.Questions.{num_pieces}
use Rattle.additions.specs.Addition.{Addition, added, added_to, adding_rules, bad_name, disagree, files_of, lacks, limited_name, pad_of, size_added, text_of}
use Rattle.plan.specs.Write.{storage_added, text_after}
use Rattle.change.specs.Rooms.{rooms_of, holds}
use Rattle.plan.specs.Outcomes.{lacks_places, adding_number}
use Rattle.sound.specs.Sound.{Sound}
use Rattle.sound.proofs.Added.TextNeeded.{text-after}

-- a set that keeps no table of first files lacks no place in it
pub unindexed : (s : Store) (m : Model) (a : Addition) → s.fs.indexed ≡ false → lacks_places s m a ≡ false
unindexed s m a e = ap (λ (b : Bool). b && ltb (length s.firsts) (num_pieces (storage_added s.fs m a))) e

module _ (s : Store) (ok : Sound s) where
  -- the tables hold what the set's record counts
  pub sound-holds : holds s ≡ true
  sound-holds =
      rw (
        le-leb s.fs.num_files (min 65535 (rooms_of s).files) (omega (arith, ok.rows-hold, ok.roots-hold, ok.few-files)),
        le-leb s.fs.num_paths (min 65535 (rooms_of s).directories) (omega (arith, ok.dirs-hold, ok.few-paths)),
      )
      (le-leb s.fs.text_len (rooms_of s).text ok.text-holds)

  -- room is lacking in the table of first files, or in the others
  pub adding-number : (a : Addition)
      → adding_number s (view_of s) a
      ≡ first_of (adding_rules (view_of s) a (lacks_places s (view_of s) a || lacks (rooms_of s) (added (view_of s) a) (text_of (added (view_of s) a))))
  adding-number a =
      ap (λ (h : Bool). first_of (adding_rules (view_of s) a (not h || (lacks_places s (view_of s) a || lacks (rooms_of s) (added (view_of s) a) (text_after s.fs (view_of s) a))))) sound-holds
      ∙ ap (λ (t : ℕ). first_of (adding_rules (view_of s) a (lacks_places s (view_of s) a || lacks (rooms_of s) (added (view_of s) a) t))) (text-after s a ok)

  -- the model has no table of first files: it adds as the tables do where that one has a place for each piece
  pub adding : (a : Addition) → lacks_places s (view_of s) a ≡ false → added_to (rooms_of s) (view_of s) a ≡ outcome_of (adding_number s (view_of s) a) (added (view_of s) a)
  adding a e =
      ap (λ (k : ℕ). outcome_of k (added (view_of s) a))
      (sym (adding-number a ∙ ap (λ (b : Bool). first_of (adding_rules (view_of s) a (b || lacks (rooms_of s) (added (view_of s) a) (text_of (added (view_of s) a))))) e))

-- ---- what holds where nothing is refused

pub pass-one : (t : Bool) (n k : ℕ) → cond t (n + 1) k ≡ 0 → (t ≡ false) × (k ≡ 0)
pass-one true n k e = absurd (omega arith)
pass-one false n k e = (refl, e)

pub neither : (a b : Bool) → (a || b) ≡ false → (a ≡ false) × (b ≡ false)
neither true b e = let z : ◌≡◌ {A = ℕ} 0 1 = cc in absurd (omega arith)
neither false b e = (refl, e)

pub record Fits (s : Store) (m : Model) (a : Addition) : Type 0 where
  pub limited : m.total + size_added a + pad_of m a ≤ limit
  pub few-files : files_of (added m a) ≤ 65535
  pub rows-hold : files_of (added m a) * 8 ≤ length s.rows
  pub roots-hold : files_of (added m a) * 32 ≤ length s.roots
  pub few-paths : length (added m a).directories ≤ 65535
  pub dirs-hold : length (added m a).directories * 2 ≤ length s.dirs
  pub text-holds : text_after s.fs m a ≤ length s.text
  pub placed : lacks_places s m a ≡ false

few-rows : (f r t : ℕ) → f ≤ min 65535 (min (r / 8) (t / 32)) → (f ≤ 65535) × (f * 8 ≤ r) × (f * 32 ≤ t)
few-rows f r t h = (omega arith, omega arith, omega arith)

few-dirs : (d r : ℕ) → d ≤ min 65535 (r / 2) → (d ≤ 65535) × (d * 2 ≤ r)
few-dirs d r h = (omega arith, omega arith)

room : (s : Store) (m : Model) (a : Addition) → m.total + size_added a + pad_of m a ≤ limit
    → (lacks_places s m a || lacks (rooms_of s) (added m a) (text_after s.fs m a)) ≡ false → Fits s m a
room s m a h e =
    let o = neither (lacks_places s m a) _ e in
    let p = neither (ltb (min 65535 (rooms_of s).files) (files_of (added m a))) _ o.1 in
    let q = neither (ltb (min 65535 (rooms_of s).directories) (length (added m a).directories)) _ p.1 in
    let f = few-rows (files_of (added m a)) (length s.rows) (length s.roots) (ltb-false _ _ p.0) in
    let d = few-dirs (length (added m a).directories) (length s.dirs) (ltb-false _ _ q.0) in
    record {
      limited = h;
      few-files = f.0;
      rows-hold = f.1;
      roots-hold = f.2;
      few-paths = d.0;
      dirs-hold = d.1;
      text-holds = ltb-false _ _ q.1;
      placed = o.0;
    }

pub fits : (s : Store) (m : Model) (a : Addition) → adding_number s m a ≡ 0 → Fits s m a
fits s m a e =
    let p1 = pass-one (bad_length m.piece_length) 0 _ e in
    let p2 = pass-one (is_negative a.size) 1 _ p1.1 in
    let p3 = pass-one (ltb limit (size_added a)) 2 _ p2.1 in
    let p4 = pass-one (ltb limit (m.total + size_added a)) 3 _ p3.1 in
    let p5 = pass-one (leb 4096 (length (limited_name a.given a.path))) 4 _ p4.1 in
    let p6 = pass-one (bad_name a.given a.path) 5 _ p5.1 in
    let p7 = pass-one (not (has_parent_path a.path) && ltb 0 (files_of m)) 6 _ p6.1 in
    let p8 = pass-one (disagree m a && m.v2) 7 _ p7.1 in
    let p9 = pass-one (disagree m a) 8 _ p8.1 in
    let p10 = pass-one (ltb limit (m.total + size_added a + pad_of m a)) 3 _ p9.1 in
    let p11 = pass-one (not (holds s) || (lacks_places s m a || lacks (rooms_of s) (added m a) (text_after s.fs m a))) 9 _ p10.1 in
    room s m a (ltb-false limit (m.total + size_added a + pad_of m a) p10.0) (neither (not (holds s)) _ p11.0).1

-- an addition that is not refused lacks no place in the table of first files
pub has-places : (s : Store) (m : Model) (a : Addition) → adding_number s m a ≡ 0 → lacks_places s m a ≡ false
has-places s m a e = (fits s m a e).placed
