-- What the walk of `resolve` keeps, turn by turn: its path is in frames, the texts of open links still fit, and there is a frame for
-- each. Before that, a link's text by its lead. These laws rely on those of proofs/Events.antt,
-- proofs/Room.antt and on those of `lookup` about rows.
use Prim.Native.Nat.{ℕ, zero, suc, ◌+◌, ◌-◌, ◌^◌, ◌<◌, ◌≤◌}
use mathlib.Core.Path.{◌≡◌, refl, sym, ap, ◌∙◌}
use mathlib.Core.Bool.{Bool, true, false}
use mathlib.Core.List.{List, [], map}
use native.Mathlib.Omega.{arith}
use lib.Dec.{eqb}
use lib.ListN.{length, take, drop, set}
use lib.Seq.{take_all}
use Rattle.path.specs.Join.{appended, combined}
use Rattle.tables.specs.Model.{Store, directory_text}
use Rattle.lookup.specs.Lookup.{covers, is_directory, known, entries_of, directories_of}
use Rattle.lookup.specs.private.Rows.{entry_at, directories_from}
use Rattle.lookup.proofs.Rows.{text_at_lem, branch_at, beside_at}
use Rattle.links.specs.Clean.{part_end, weight, left}
use Rattle.rope.specs.Rope.{led_text}
use Rattle.links.specs.private.Walking.{lead, verdict, untraversed, lead_text, open_of, path_of, Walkable}
use Rattle.links.proofs.Walk.{part-within}
use Rattle.links.proofs.Scans.{Scan}
use Rattle.links.proofs.Room.{open-few}
use Rattle.links.proofs.Events.{dir_here, goes_on, walked_end, no-dir, is-dir, dir-on, dir-stop, link-none, Met, open-fewer, link-marks, link_fits, link_on, link-less}

-- ---- the text by which a link leads

-- the text of link i by lead m
pub text-led : (s : Store) (i m : ℕ) → m ≤ 2 → led_text s.rows s.dirs s.text (record { file = i; from_directory = eqb m 2 }) ≡ lead_text m (entry_at s i)
text-led s i zero h = text_at_lem s i
text-led s i (suc zero) h = text_at_lem s i
text-led s i (suc (suc zero)) h = ap (appended (branch_at s i)) (text_at_lem s i) ∙ beside_at s i (entry_at s i).text
text-led s i (suc (suc (suc m))) h = absurd (omega arith)

-- ---- the walk's state

-- what the walk keeps; `answer` is that of the whole walk
pub record Walking (s : Store) (marks₀ : List ℕ) (answer : Bool) (marks frames : List ℕ) (depth e : ℕ) : Type 0 where
  pub marks-long : length marks ≡ length marks₀
  pub inside : e ≤ length (path_of s frames depth)
  pub fits : length (path_of s frames depth) + weight (open_of (entries_of s) (map lead marks)) < 2 ^ 64
  pub shallow : depth + length (open_of (entries_of s) (map lead marks)) ≤ 65536
  pub marks-fresh : map untraversed (map lead marks) ≡ map untraversed (map lead marks₀)
  pub verdicts-kept : map verdict marks ≡ map verdict marks₀
  pub goes : goes_on s (map lead marks) (path_of s frames depth) e ≡ answer

-- the answer of the whole walk
abbrev pub answer_of : Store → List ℕ → List ℕ → Bool
answer_of s marks frames = goes_on s (map lead marks) (path_of s frames 1) (part_end (path_of s frames 1) 0)

pub walking_start : (s : Store) (marks frames : List ℕ) (e : ℕ) → Walkable s (map lead marks) frames → e ≡ part_end (path_of s frames 1) 0 → Walking s marks (answer_of s marks frames) marks frames 1 e
walking_start s marks frames e w h =
    record {
      marks-long = refl;
      inside = omega (arith, h, part-within (path_of s frames 1) 0);
      fits = w.fits;
      shallow = omega (arith, open-few s (map lead marks), w.few);
      marks-fresh = refl;
      verdicts-kept = refl;
      goes = rw h;
    }

-- link i with mark k and lead m is traversed
pub record Traversed (s : Store) (marks frames : List ℕ) (depth e : ℕ) (marks' frames' : List ℕ) (depth' i k m : ℕ) : Type 0 where
  pub path-is : path_of s frames' depth' ≡ combined (lead_text m (entry_at s i)) (drop (e + 1) (path_of s frames depth))
  pub one_more : depth' ≤ depth + 1
  pub leads-are : map lead marks' ≡ set (map lead marks) k (m + 2)
  pub verdicts-kept : map verdict marks' ≡ map verdict marks
  pub marks-long : length marks' ≡ length marks

module _ {s : Store} {marks₀ : List ℕ} {answer : Bool} {marks frames : List ℕ} {depth e : ℕ} (w : Walking s marks₀ answer marks frames depth e) where
  abbrev p : List ℕ
  p = path_of s frames depth

  -- at the path's end
  pub walking-end : length p ≤ e → known (entries_of s) (directories_of s) (take e p) ≡ answer
  walking-end h = ap (known (entries_of s) (directories_of s)) (take_all e p h) ∙ sym (walked_end s (map lead marks) p e h) ∙ w.goes

  -- through a directory
  pub walking-dir : (next : ℕ) → e < length p → dir_here s (map lead marks) p e ≡ true → next ≡ part_end p (e + 1) → e < next → Walking s marks₀ answer marks frames depth next
  walking-dir next h d m q =
      record {
        marks-long = w.marks-long;
        inside = omega (arith, m, part-within p (e + 1));
        fits = w.fits;
        shallow = w.shallow;
        marks-fresh = w.marks-fresh;
        verdicts-kept = w.verdicts-kept;
        goes = dir-on s (map lead marks) p e h next d m q ∙ w.goes;
      }

  -- through link i with mark k and lead m
  module _ {i k m : ℕ} (x : Met s (map lead marks) p e i k m) (z : m ≡ 0 → ⊥) where
    fewer : length (open_of (entries_of s) (set (map lead marks) k (m + 2))) + 1 ≡ length (open_of (entries_of s) (map lead marks))
    fewer = open-fewer s (map lead marks) p e i k m x z

    -- there is a frame for it
    pub frame-free : depth < 65536
    frame-free = omega (arith, fewer, w.shallow)

    pub end_low : e + 1 < 2 ^ 64
    end_low = omega (arith, w.fits, x.before-end)

    -- once it is traversed
    module _ {marks' frames' : List ℕ} {depth' : ℕ} (g : Traversed s marks frames depth e marks' frames' depth' i k m) where
      path-is : path_of s frames' depth' ≡ combined (lead_text m (entry_at s i)) (drop (e + 1) p)
      path-is = g.path-is

      still-fits : length (path_of s frames' depth') + weight (open_of (entries_of s) (map lead marks')) ≤ length p + weight (open_of (entries_of s) (map lead marks))
      still-fits = rw g.leads-are (link_fits s (map lead marks) p e i k m x z (path_of s frames' depth') 0 path-is)

      fewer-open : length (open_of (entries_of s) (map lead marks')) + 1 ≡ length (open_of (entries_of s) (map lead marks))
      fewer-open = rw g.leads-are fewer

      pub path-low : length (path_of s frames' depth') < 2 ^ 64
      path-low = omega (arith, still-fits, w.fits)

      module _ (e' : ℕ) (y : e' ≡ part_end (path_of s frames' depth') 0) where
        pub walking-link : Walking s marks₀ answer marks' frames' depth' e'
        walking-link =
            record {
              marks-long = g.marks-long ∙ w.marks-long;
              inside = omega (arith, y, part-within (path_of s frames' depth') 0);
              fits = omega (arith, still-fits, w.fits);
              shallow = omega (arith, fewer-open, g.one_more, w.shallow);
              marks-fresh = ap (map untraversed) g.leads-are ∙ link-marks s (map lead marks) p e i k m x z ∙ w.marks-fresh;
              verdicts-kept = g.verdicts-kept ∙ w.verdicts-kept;
              goes = rw g.leads-are (link_on s (map lead marks) p e i k m x z (path_of s frames' depth') e' path-is y) ∙ w.goes;
            }

        pub walking-less : left (open_of (entries_of s) (map lead marks')) (path_of s frames' depth') e' < left (open_of (entries_of s) (map lead marks)) p e
        walking-less = rw g.leads-are (link-less s (map lead marks) p e i k m x z (path_of s frames' depth') e' path-is y)

-- ---- the walk's end

-- what holds where the walk is left, at its end or before it
pub record Over (s : Store) (marks₀ : List ℕ) (answer : Bool) (marks frames : List ℕ) (depth e : ℕ) : Type 0 where
  pub walking : Walking s marks₀ answer marks frames depth e
  pub stopped : e < length (path_of s frames depth) → false ≡ answer

module _ {s : Store} {marks₀ : List ℕ} {answer : Bool} {marks frames : List ℕ} {depth e : ℕ} (w : Walking s marks₀ answer marks frames depth e) {marks' frames' : List ℕ} {depth' e' : ℕ} (i : marks' ≡ marks) (j : frames' ≡ frames) (k : depth' ≡ depth) (l : e' ≡ e) where
  over-is : (e < length (path_of s frames depth) → false ≡ answer) → Over s marks₀ answer marks' frames' depth' e'
  over-is h = rw (i, j, k, l) (record { walking = w; stopped = h })

  -- at the path's end
  pub left_end : length (path_of s frames depth) ≤ e → Over s marks₀ answer marks' frames' depth' e'
  left_end q = over-is (λ h. absurd (omega arith))

  -- at directory d, behind which there is nothing
  pub left_dir : (d next : ℕ) → is_directory (directories_from s (s.fs.num_paths - d) d) (take e (path_of s frames depth)) ≡ dir_here s (map lead marks) (path_of s frames depth) e → d < s.fs.num_paths → covers (directory_text s d) (take e (path_of s frames depth)) ≡ true → next ≡ part_end (path_of s frames depth) (e + 1) → next ≤ e → Over s marks₀ answer marks' frames' depth' e'
  left_dir d next x q c m n =
      let p = path_of s frames depth in
      over-is (λ h. sym (dir-stop s (map lead marks) p e h next (is-dir s (map lead marks) p e d x q c) m n) ∙ w.goes)

  -- at no directory and at no link
  pub left_link : (d n : ℕ) → is_directory (directories_from s (s.fs.num_paths - d) d) (take e (path_of s frames depth)) ≡ dir_here s (map lead marks) (path_of s frames depth) e → s.fs.num_paths ≤ d → Scan (entries_of s) [] (map lead marks) (take e (path_of s frames depth)) n → Over s marks₀ answer marks' frames' depth' e'
  left_link d n x q c =
      let p = path_of s frames depth in
      over-is (λ h. sym (link-none s (map lead marks) p e h n (no-dir s (map lead marks) p e d x q) c) ∙ w.goes)
