-- Document 01, 'Links': what `sanitize_symlinks` makes of every link's text, on what a set means: its files'
-- directories, names and texts, and its directories. 'Two passes as in the Rust.' It relies on the model of a set in
-- `tables`, on what stands at a path (`lookup`) and on the splits and joins of `path`.
--
-- Names from elsewhere: `cond t a b` is a where t is true, else b; `eqb`, `ltb` and `leb` test =, < and ≤; `a - b` is 0
-- where b is larger. `take n` and `drop n` are the first n elements and the rest.
-- Of a file (lookup, specs/Lookup.antt): `flagged`, that it is a link with flag 8 and a text; `own_path`, its internal
-- path; `file_at`, what stands at a path: `Nothing`, a `RegularFile` or a `FlaggedLink`; `known`, that a file or a
-- directory does. Of paths (path, specs/Join.antt): `appended` and `combined` are the Rust's `append_path` and
-- `combine_path`; `lsplit_at_first p n` is p up to its first separator from position n on; `is_complete`, that a path
-- is absolute.
use Rattle.std.specs.Prelude.{ℕ, zero, suc, ◌+◌, ◌-◌, Bool, true, false, cond, List, [], ◌∷◌, map, ltb, length, take}
use Rattle.std.specs.Prelude.{drop, Option, Some}
use Rattle.lists.specs.Lists.{equal}
use Rattle.path.specs.Split.{is_complete, lsplit_at_first}
use Rattle.path.specs.Join.{appended, combined}
use Rattle.tables.specs.Model.{Directory, single, absolute, stored, File, Model}
use Rattle.lookup.specs.Lookup.{Entry, entry_of, own_path, is_directory, file_at, known}
use Rattle.lookup.specs.declared.set.Seen.{Seen}
use Rattle.lookup.specs.declared.set.Seen.TheVariants.{Nothing, RegularFile, FlaggedLink}

-- ---- the first pass

-- what it makes of a link: its text, whether a walk may go through it, whether it is walked itself
pub record First : Type 0 where
  pub text : List ℕ
  pub leads : Bool
  pub walked : Bool

-- a text taken from the link's directory: one that names a directory or a file of the set is kept; `other` is taken
-- where it names neither. A directory goes before a file of the same path
abbrev pub settled : Bool → Seen → List ℕ → First → First
settled true s t other = record { text = t; leads = true; walked = false }
settled false FlaggedLink t other = record { text = t; leads = true; walked = false }
settled false RegularFile t other = record { text = t; leads = false; walked = false }
settled false Nothing t other = other

-- a text as it was given: a file goes before a directory of the same path
abbrev pub direct : Seen → Bool → List ℕ → First → First
direct FlaggedLink d t other = record { text = t; leads = true; walked = false }
direct RegularFile d t other = record { text = t; leads = false; walked = false }
direct Nothing true t other = record { text = t; leads = true; walked = false }
direct Nothing false t other = other

abbrev pub relative : List Entry → List (List ℕ) → Directory → List ℕ → First → First
relative files dirs single t other = other
relative files dirs absolute t other = other
relative files dirs (stored d outside) t other =
    settled (is_directory dirs (appended d t)) (file_at files (appended d t)) (appended d t) other

-- an absolute text is replaced by the link's own path; one that names something in the set stays, as given or from the
-- link's directory; any other is walked in the second pass
abbrev pub first_pass : List Entry → List (List ℕ) → Entry → First
first_pass files dirs f =
    cond (is_complete f.text)
    (record { text = own_path f; leads = false; walked = false })
    (direct (file_at files f.text) (is_directory dirs f.text) f.text
    (relative files dirs f.directory f.text (record { text = f.text; leads = true; walked = true })))

-- ---- the second pass

-- a link that a walk may go through: its path and its text
pub record Link : Type 0 where
  pub path : List ℕ
  pub text : List ℕ

-- where the link at p leads
pub data Lead : Type 0 where
  none : Lead
  to : List ℕ → Lead

abbrev pub lead_at : List Link → List ℕ → Lead
lead_at [] p = none
lead_at (l ∷ ls) p = cond (equal l.path p) (to l.text) (lead_at ls p)

-- of links with one path that lead on, the last counts
abbrev pub unless : Lead → Link → List Link → List Link
unless none l ls = l ∷ ls
unless (to t) l ls = ls

abbrev pub link_of : Bool → List ℕ → First → List Link → List Link
link_of true p r ls = cond r.leads (unless (lead_at ls p) (record { path = p; text = r.text }) ls) ls
link_of false p r ls = ls

abbrev pub links_of : List Entry → List (List ℕ) → List Entry → List Link
links_of files dirs [] = []
links_of files dirs (f ∷ fs) = link_of f.flagged (own_path f) (first_pass files dirs f) (links_of files dirs fs)

-- the links but the one at p
abbrev pub without_link : List ℕ → List Link → List Link
without_link p [] = []
without_link p (l ∷ ls) = cond (equal l.path p) ls (l ∷ without_link p ls)

-- where the part of a path ends that goes on at `pos`: `lsplit_path_at`, and `lsplit_path` at 0
abbrev pub part_end : List ℕ → ℕ → ℕ
part_end p pos = length (lsplit_at_first p pos)

-- one turn of the walk: it stops, it comes to the path's end, or it goes on with the links not yet traversed, the path
-- and the end of the part looked at
pub data Next : Type 0 where
  stop : Next
  done : Next
  on : List Link → List ℕ → ℕ → Next

-- through a directory, to the next end. 'Added: a directory part whose next end is no further on is also such a stop'
abbrev pub further : List Link → List ℕ → ℕ → ℕ → Next
further ls p e next = cond (ltb e next) (on ls p next) stop

-- through a link: its text stands for the part, and no link at that part is traversed again
abbrev pub through : Lead → List Link → List ℕ → ℕ → Next
through none ls p e = stop
through (to t) ls p e =
    on (without_link (take e p) ls) (combined t (drop (e + 1) p)) (part_end (combined t (drop (e + 1) p)) 0)

-- 'the walk stops at the first part that is neither a directory nor an untraversed link'
unfoldable pub step : (List ℕ → Bool) → List Link → List ℕ → ℕ → Next
step dir ls p e =
    cond (ltb e (length p))
    (cond (dir (take e p)) (further ls p e (part_end p (e + 1))) (through (lead_at ls (take e p)) ls p e))
    done

abbrev pub follow : Bool → (List Link → List ℕ → ℕ → Bool) → Next → Bool
follow end go_on stop = false
follow end go_on done = end
follow end go_on (on ls p e) = go_on ls p e

-- the walk, of at most n turns; `ends` says what may stand at its end
unfoldable pub walk : (List ℕ → Bool) → (List ℕ → Bool) → ℕ → List Link → List ℕ → ℕ → Bool
walk dir ends zero ls p e = false
walk dir ends (suc n) ls p e = follow (ends p) (walk dir ends n) (step dir ls p e)

-- the bytes of the links' texts, and one for each link
abbrev pub weight : List Link → ℕ
weight [] = 0
weight (l ∷ ls) = suc (length l.text) + weight ls

-- every turn makes this less, so one turn more is always enough
abbrev pub left : List Link → List ℕ → ℕ → ℕ
left ls p e = (length p - e) + weight ls

abbrev pub goes : (List ℕ → Bool) → (List ℕ → Bool) → List Link → List ℕ → ℕ → Bool
goes dir ends ls p e = walk dir ends (suc (left ls p e)) ls p e

abbrev pub resolves : List Entry → List (List ℕ) → List Link → List ℕ → Bool
resolves files dirs ls t = goes (is_directory dirs) (known files dirs) ls t (part_end t 0)

-- a walked link whose walk stops 'then holds its own internal path'
abbrev pub second_pass : List Entry → List (List ℕ) → List Link → List ℕ → First → List ℕ
second_pass files dirs ls p r =
    cond r.walked (cond (resolves files dirs ls r.text) r.text p) r.text

-- ---- the cleaning

-- the text that a flagged link has then
abbrev pub clean_text : List Entry → List (List ℕ) → Entry → List ℕ
clean_text files dirs f = second_pass files dirs (links_of files dirs files) (own_path f) (first_pass files dirs f)

abbrev pub linked_to : Option (List ℕ) → File → File
linked_to t f =
    record {
      offset = f.offset;
      size = f.size;
      name = f.name;
      directory = f.directory;
      flags = f.flags;
      time = f.time;
      link = t;
      root = f.root;
      made = f.made;
    }

abbrev pub clean_file : List Entry → List (List ℕ) → File → File
clean_file files dirs f =
    cond (entry_of f).flagged (linked_to (Some (clean_text files dirs (entry_of f))) f) f

-- the set after a cleaning: of each flagged link, the text; nothing else
abbrev pub cleaned_of : Model → Model
cleaned_of m =
    record {
      piece_length = m.piece_length;
      v2 = m.v2;
      name = m.name;
      files = map (clean_file (map entry_of m.files) m.directories) m.files;
      directories = m.directories;
      links = m.links;
      total = m.total;
      on_disk = m.on_disk;
      trimmed = m.trimmed;
    }
