-- What happens in a turn of a walk: ms are the leads, p is the path and e the end of the part looked at. The scan of directories
-- is at directory d, that of links at link i with mark k. These laws rely on those of proofs/Turns.antt and proofs/Scans.antt.
use Prim.Native.Nat.{ℕ, suc, ◌+◌, ◌-◌, ◌<◌, ◌≤◌}
use mathlib.Core.Path.{◌≡◌, refl, sym, ap, ◌∙◌}
use mathlib.Core.Bool.{Bool, true, false}
use mathlib.Core.List.{List, [], ◌∷◌, map}
use native.Mathlib.Omega.{arith}
use lib.ListN.{length, get_or, set, take, drop, length-drop}
use lib.Seq.{map-set_same}
use Rattle.path.specs.Join.{combined}
use Rattle.tables.specs.Model.{Store, directory_text}
use Rattle.lookup.specs.Lookup.{is_directory, covers, known, entries_of, directories_of}
use Rattle.lookup.specs.private.Rows.{entry_at, entries_from, directories_from}
use Rattle.lookup.proofs.Rows.{directories-hit, directories-end}
use Rattle.links.specs.Clean.{Link, to, lead_at, without_link, part_end, weight, left}
use Rattle.links.specs.private.Walking.{any_at, lead_mark, lead_text, open_of, walk_of, untraversed}
use Rattle.links.proofs.Walk.{combine-short, lead-less, link-fewer}
use Rattle.links.proofs.Turns.{turn_end, turn-dir, turn-dir-stop, turn-link, turn-link-stop, turn-link-less}
use Rattle.links.proofs.Scans.{Here, here, Scan, scan-turn, scan-hit, scan-none, used-off, used-fresh, used-some, in-marks}

module _ (s : Store) (ms p : List ℕ) (e : ℕ) where
  abbrev n : ℕ
  n = s.fs.num_files

  abbrev paths : ℕ
  paths = s.fs.num_paths

  abbrev ls : List Link
  ls = open_of (entries_of s) ms

  -- the part looked at is a directory
  abbrev pub dir_here : Bool
  dir_here = is_directory (directories_of s) (take e p)

  -- the walk from here
  abbrev pub goes_on : Bool
  goes_on = walk_of (entries_of s) (directories_of s) ms p e

  pub walked_end : length p ≤ e → goes_on ≡ known (entries_of s) (directories_of s) p
  walked_end h = turn_end (is_directory (directories_of s)) (known (entries_of s) (directories_of s)) ls p e h

  -- what is left of the scan of directories tells whether the part is one
  module _ (d : ℕ) (i : is_directory (directories_from s (paths - d) d) (take e p) ≡ dir_here) where
    pub no-dir : paths ≤ d → dir_here ≡ false
    no-dir k = sym i ∙ directories-end s (take e p) paths d k

    pub is-dir : d < paths → covers (directory_text s d) (take e p) ≡ true → dir_here ≡ true
    is-dir k c = sym i ∙ directories-hit s (take e p) paths d k c

  module _ (h : e < length p) where
    -- a directory: on to the next end, or a stop
    module _ (next : ℕ) (d : dir_here ≡ true) (m : next ≡ part_end p (e + 1)) where
      pub dir-on : e < next → walk_of (entries_of s) (directories_of s) ms p next ≡ goes_on
      dir-on q = rw m (turn-dir (is_directory (directories_of s)) (known (entries_of s) (directories_of s)) ls p e h d (omega arith))

      pub dir-stop : next ≤ e → goes_on ≡ false
      dir-stop q = turn-dir-stop (is_directory (directories_of s)) (known (entries_of s) (directories_of s)) ls p e h d (omega arith)

    -- no directory, and no link among those that are left: a stop
    pub link-none : (k : ℕ) → dir_here ≡ false → Scan (entries_of s) [] ms (take e p) k → goes_on ≡ false
    link-none k o c = turn-link-stop (is_directory (directories_of s)) (known (entries_of s) (directories_of s)) ls p e h o (scan-none (entries_of s) ms (take e p) k c)

  -- no directory, and the scan of the links is at link i with mark k, whose lead at the part is m
  pub record Met (i k m : ℕ) : Type 0 where
    pub before-end : e < length p
    pub no-directory : dir_here ≡ false
    pub scanned : Scan (entries_of s) (entry_at s i ∷ entries_from s (n - (i + 1)) (i + 1)) ms (take e p) k
    pub is : m ≡ lead_mark (entry_at s i) (get_or ms k 0) (take e p) (any_at (entries_from s (n - (i + 1)) (i + 1)) (drop (k + 1) ms) (take e p))

  module _ (i k m : ℕ) (x : Met i k m) where
    -- a link that isn't taken
    pub link-past : m ≡ 0 → (entry_at s i).flagged ≡ true → Scan (entries_of s) (entries_from s (n - (i + 1)) (i + 1)) ms (take e p) (k + 1)
    link-past z f = scan-turn (entries_of s) ms (take e p) k (entry_at s i) (entries_from s (n - (i + 1)) (i + 1)) (sym z ∙ x.is) f x.scanned

    module _ (z : m ≡ 0 → ⊥) where
      taken : Here (entry_at s i) (get_or ms k 0) (take e p) (any_at (entries_from s (n - (i + 1)) (i + 1)) (drop (k + 1) ms) (take e p)) m
      taken = here (entry_at s i) (get_or ms k 0) (take e p) (any_at (entries_from s (n - (i + 1)) (i + 1)) (drop (k + 1) ms) (take e p)) m x.is z

      hit : (lead_at ls (take e p) ≡ to (lead_text m (entry_at s i))) × (without_link (take e p) ls ≡ open_of (entries_of s) (set ms k (m + 2)))
      hit =
          let g = taken in
          rw g.is
          (scan-hit (entries_of s) (entry_at s i) (entries_from s (n - (i + 1)) (i + 1)) ms (take e p) k (get_or ms k 0 + 2)
          (record { flag = g.flag; leads = g.leads; at = g.at; last = g.last; is = refl })
          (in-marks ms k (λ y. z (g.is ∙ y))) (used-off (get_or ms k 0) g.leads) (used-some (get_or ms k 0)) x.scanned)

      -- one open link less
      pub open-fewer : length (open_of (entries_of s) (set ms k (m + 2))) + 1 ≡ length ls
      open-fewer = ap (λ (x : List Link). length x + 1) (sym hit.1) ∙ link-fewer ls (take e p) (lead_text m (entry_at s i)) hit.0

      light : suc (length (lead_text m (entry_at s i))) + weight (open_of (entries_of s) (set ms k (m + 2))) ≤ weight ls
      light = rw hit.1 at (lead-less ls (take e p) (lead_text m (entry_at s i)) hit.0)

      -- its lead is the same but for the use
      pub link-marks : map untraversed (set ms k (m + 2)) ≡ map untraversed ms
      link-marks = map-set_same untraversed ms k (m + 2) 0 (let g = taken in rw g.is (used-fresh (get_or ms k 0) g.leads))

      -- once its text stands for the part: the path and the open links' texts are no longer than before, and the walk goes on from there
      module _ (p' : List ℕ) (e' : ℕ) (j : p' ≡ combined (lead_text m (entry_at s i)) (drop (e + 1) p)) where
        pub link_fits : length p' + weight (open_of (entries_of s) (set ms k (m + 2))) ≤ length p + weight ls
        link_fits = omega (arith, ap length j, combine-short (lead_text m (entry_at s i)) (drop (e + 1) p), length-drop (e + 1) p, light, x.before-end)

        module _ (y : e' ≡ part_end p' 0) where
          pub link_on : walk_of (entries_of s) (directories_of s) (set ms k (m + 2)) p' e' ≡ goes_on
          link_on = turn-link (is_directory (directories_of s)) (known (entries_of s) (directories_of s)) ls p e x.before-end (lead_text m (entry_at s i)) x.no-directory hit.0 (open_of (entries_of s) (set ms k (m + 2))) p' e' hit.1 j y

          pub link-less : left (open_of (entries_of s) (set ms k (m + 2))) p' e' < left ls p e
          link-less = turn-link-less (is_directory (directories_of s)) (known (entries_of s) (directories_of s)) ls p e x.before-end (lead_text m (entry_at s i)) x.no-directory hit.0 (open_of (entries_of s) (set ms k (m + 2))) p' e' hit.1 j y
