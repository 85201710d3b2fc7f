-- Where the judgement of links stands, for the private parts of its code: marks in use, frames written, and what a walk
-- needs. The meaning is that of Clean.antt; the marks are those of Judging.antt.
use Rattle.std.specs.Prelude.{ℕ, zero, suc, ◌+◌, ◌*◌, ◌/◌, ◌%◌, ◌^◌, ◌<◌, ◌≤◌, Bool, true, false, cond, ◌≡◌, List, []}
use Rattle.std.specs.Prelude.{◌∷◌, map, eqb, ltb, length, get_or, set, drop, Option}
use Rattle.std.specs.Option.{ForSome}
use Rattle.std.specs.Borrow.{Bor}
use Rattle.lists.specs.Lists.{equal}
use Rattle.tables.specs.declared.lent.Lent.{Lent}
use Rattle.tables.specs.declared.lent.LentSet.{LentSet}
use Rattle.tables.specs.declared.storage.FileStorage.{FileStorage}
use Rattle.tables.specs.Rows.{row_at}
use Rattle.tables.specs.Model.{path_in, internal_path, Store}
use Rattle.lookup.specs.Lookup.{Entry, own_path, is_directory, known, lent, entries_of, directories_of}
use Rattle.lookup.specs.private.Rows.{entry_at}
use Rattle.lookup.specs.Space.{space}
use Rattle.links.specs.Clean.{Link, links_of, goes, resolves, weight}
use Rattle.rope.specs.declared.lead.Lead.{Lead}
use Rattle.rope.specs.declared.frame.Path.{Path}
use Rattle.rope.specs.Rope.{held_path, held, front, frame_width, half_word}
use Rattle.links.specs.Judging.{verdict_keep, verdict_own_path, verdict_walk, first_mark}

-- ---- a set as private functions pass it

-- the set that a record and the tables lent with it hold
abbrev pub store_in : FileStorage → Lent → Store
store_in fs l = lent fs l.rows.now l.dirs.now l.text.now

abbrev pub set_of : LentSet → Store
set_of s = store_in s.fs s.lent

-- the internal path of file i
abbrev pub own_text : Lent → ℕ → List ℕ
own_text l i = internal_path l.dirs.now l.text.now (row_at l.rows.now i)

-- the first e bytes of a path
abbrev pub front_of : Path → ℕ → List ℕ
front_of p e = front p.lent.rows.now p.lent.dirs.now p.lent.text.now p.frames.now p.depth e

-- ---- marks

-- how a walk goes through a link, and what becomes of its text
abbrev pub lead : ℕ → ℕ
lead m = m % 8

abbrev pub verdict : ℕ → ℕ
verdict m = m / 8

-- the first pass's mark for each flagged link
abbrev pub first_marks : List Entry → List (List ℕ) → List Entry → List ℕ
first_marks files dirs [] = []
first_marks files dirs (f ∷ fs) =
    cond f.flagged (first_mark files dirs f ∷ first_marks files dirs fs) (first_marks files dirs fs)

-- ---- leads: 0 does not lead on, 1 leads by its text as given, 2 by its text from its directory, 3 and 4 traversed

abbrev pub lead_text : ℕ → Entry → List ℕ
lead_text zero f = f.text
lead_text (suc zero) f = f.text
lead_text (suc (suc m)) f = path_in f.directory f.text

abbrev pub leading : ℕ → Bool
leading zero = false
leading (suc zero) = true
leading (suc (suc zero)) = true
leading (suc (suc (suc m))) = false

abbrev pub open_link : Bool → ℕ → Entry → List Link → List Link
open_link true m f ls = record { path = own_path f; text = lead_text m f } ∷ ls
open_link false m f ls = ls

-- some flagged link of these that leads on, traversed or not, stands at p; the n-th lead is the n-th flagged link's
abbrev pub any_at : List Entry → List ℕ → List ℕ → Bool
any_at [] ms p = false
any_at (f ∷ fs) ms p =
    cond f.flagged
    (cond (ltb 0 (get_or ms 0 0)) (cond (equal (own_path f) p) true (any_at fs (drop 1 ms) p))
    (any_at fs (drop 1 ms) p))
    (any_at fs ms p)

abbrev pub but_later : Bool → Bool → Bool
but_later true b = false
but_later false b = b

-- the links that a walk may still go through; of links at one path the last counts
abbrev pub open_of : List Entry → List ℕ → List Link
open_of [] ms = []
open_of (f ∷ fs) ms =
    cond f.flagged
    (open_link (but_later (any_at fs (drop 1 ms) (own_path f)) (leading (get_or ms 0 0))) (get_or ms 0 0) f
    (open_of fs (drop 1 ms)))
    (open_of fs ms)

-- a lead without its use
abbrev pub untraversed : ℕ → ℕ
untraversed zero = 0
untraversed (suc zero) = 1
untraversed (suc (suc zero)) = 2
untraversed (suc (suc (suc m))) = suc m

-- the lead of link f with lead m, if a walk may go through it at p and no later one is there; else 0
abbrev pub lead_mark : Entry → ℕ → List ℕ → Bool → ℕ
lead_mark f m p later = cond f.flagged (cond (leading m) (cond (equal (own_path f) p) (cond later 0 m) 0) 0) 0

-- ---- frames written

-- the first word of a frame with a lead's text, and a separator after it or none
abbrev pub word_of : Lead → Bool → ℕ
word_of t s = (t.file * 4 + cond t.from_directory 2 0) * 2 + cond s 1 0

-- frame k with its start at n, and frame k written with its whole text unused
abbrev pub with_start : List ℕ → ℕ → ℕ → List ℕ
with_start frames k n =
    set (set frames (k * frame_width + 1) (n % half_word)) (k * frame_width + 2) (n / half_word)

abbrev pub with_frame : List ℕ → ℕ → ℕ → List ℕ
with_frame frames k w = with_start (set frames (k * frame_width) w) k 0

-- the path has e bytes, and these are h, if they are held there
pub record Fronted (p : Path) (e : ℕ) (h : Option (Bor (List ℕ))) : Type 0 where
  pub long : e ≤ length (held p)
  pub head : ForSome h (λ b. b.now ≡ front_of p e)

-- ---- walks

-- the walk of the path p through the links that the leads leave open
abbrev pub walk_of : List Entry → List (List ℕ) → List ℕ → List ℕ → ℕ → Bool
walk_of fs ds ms p e = goes (is_directory ds) (known fs ds) (open_of fs ms) p e

-- the path that the frames hold, with the texts of a set's tables
abbrev pub path_of : Store → List ℕ → ℕ → List ℕ
path_of s frames depth = held_path s.rows s.dirs s.text frames depth

-- what a walk of the path in the first frame needs: few files, a number for each place in the path, and 65536 frames
pub record Walkable (s : Store) (ms frames : List ℕ) : Type 0 where
  pub few : s.fs.num_files ≤ 65535
  pub fits : length (path_of s frames 1) + weight (open_of (entries_of s) ms) < 2 ^ 64
  pub room : 65536 * frame_width ≤ length frames

-- what the passes need: few files, document 01's space as a number, and 65536 frames
pub record Bounded (s : Store) (frames : ℕ) : Type 0 where
  pub few : s.fs.num_files ≤ 65535
  pub small : 2 * space (entries_of s) < 2 ^ 64
  pub room : 65536 * frame_width ≤ frames

-- what the walk of link i needs, with so many words of frames: what the passes need, and the first pass's leads
pub record WalksFrom (s : Store) (marks : List ℕ) (i frames : ℕ) : Type 0 where
  pub bounded : Bounded s frames
  pub row : i < s.fs.num_files
  pub flag : (entry_at s i).flagged ≡ true
  pub marked : map lead marks ≡ map lead (first_marks (entries_of s) (directories_of s) (entries_of s))

-- a link's mark after the second pass: where a walk decides, the text stays or the link's own path replaces it
abbrev pub walked_mark : List Entry → List (List ℕ) → Entry → ℕ → ℕ
walked_mark files dirs f m =
    cond (eqb (verdict m) verdict_walk)
    (cond (resolves files dirs (links_of files dirs files) f.text) verdict_keep verdict_own_path * 8 + lead m)
    m

-- ---- the same of the set that the tables hold

abbrev pub first_mark_in : Store → ℕ → ℕ
first_mark_in s i = first_mark (entries_of s) (directories_of s) (entry_at s i)

abbrev pub first_marks_in : Store → List ℕ
first_marks_in s = first_marks (entries_of s) (directories_of s) (entries_of s)

-- whether the walk of link i's text comes to a file or a directory of the set
abbrev pub resolves_in : Store → ℕ → Bool
resolves_in s i =
    resolves (entries_of s) (directories_of s) (links_of (entries_of s) (directories_of s) (entries_of s))
    (entry_at s i).text

abbrev pub walked_mark_in : Store → ℕ → ℕ → ℕ
walked_mark_in s i m = walked_mark (entries_of s) (directories_of s) (entry_at s i) m
