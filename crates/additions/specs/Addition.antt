-- Document 01, 'The set': what an addition is, what it decides, and what the set is after it. All on the model: nothing
-- here speaks of tables. It relies on the model of `tables`, the splits of `path` and the rules in order of `rules`.
--
-- Names from elsewhere: `cond t a b` is a where t is true, else b; `eqb`, `ltb` and `leb` test =, < and ≤; `a - b` is 0
-- where b is larger. `pos n` is the integer n; `clamped_of` is an integer, 0 where it is negative. A text is its bytes.
-- Of a path (path, specs/Split.antt): `rsplit_branch` and `rsplit_leaf` are what stands before and after its last
-- separator, once one at its end is dropped; `lsplit_first` and `lsplit_rest` what stands before and after the first,
-- once one at its start is dropped; `has_parent_path`, that it has more than one part; `is_complete`, that it is
-- absolute. `when t n` is refusal n where t holds; `first_of` is the number of the first refusal of a list whose test
-- holds, 0 where none does; `outcome_of k a` is refusal k, or a where k is 0.
use Rattle.std.specs.Prelude.{ℕ, ◌+◌, ◌-◌, ◌*◌, ◌/◌, ◌%◌, Bool, true, false, cond, not, ◌&&◌, ◌||◌, List, [], ◌∷◌, ◌++◌}
use Rattle.std.specs.Prelude.{map, eqb, ltb, leb, ℤ, pos, length, Option, Some, None}
use Rattle.lists.specs.Lists.{equal, any, sum}
use Rattle.lists.specs.Decimal.{decimal}
use Rattle.path.specs.Split.{is_separator, rsplit_branch, rsplit_leaf, is_complete, lsplit_first, lsplit_rest}
use Rattle.path.specs.Split.{has_parent_path}
use Rattle.path.specs.Join.{is_empty}
use Rattle.tables.specs.declared.rows.Presence.{Presence}
use Rattle.tables.specs.declared.rows.Presence.TheVariants.{Absent, Present}
use Rattle.tables.specs.Rows.{pad_bit, symlink_bit}
use Rattle.tables.specs.Model.{Directory, single, absolute, stored, present_if}
use Rattle.tables.specs.Model.{File, is_pad, Model}
use Rattle.types.specs.Refusals.{Outcome}
use Rattle.rules.specs.Rules.{Rule, when, first_of, outcome_of}
use Rattle.rules.specs.Bounds.{limit, max_links, name_limit, is_negative, clamped_of, bad_length}
use Rattle.change.specs.declared.rooms.Rooms.{Rooms}
use Rattle.change.specs.Rooms.{files_room, dirs_room}
use Rattle.additions.specs.declared.info.FileInfo.{FileInfo}

-- what an addition is given
pub record Addition : Type 0 where
  pub given : Option (List ℕ)
  pub path : List ℕ
  pub size : ℤ
  pub flags : ℕ
  pub time : ℤ
  pub link : List ℕ
  pub root : Option (List ℕ)

-- something that may be missing, as a call brings it
abbrev pub optional_of : Presence → List ℕ → Option (List ℕ)
optional_of Absent xs = None
optional_of Present xs = Some xs

-- the addition of a file, with its given name, its path and its link text
abbrev pub addition_of : FileInfo → List ℕ → List ℕ → List ℕ → Addition
addition_of file filename path link =
    record {
      given = optional_of file.given filename;
      path = path;
      size = file.size;
      flags = file.flags;
      time = file.mtime;
      link = link;
      root = optional_of file.rooted file.root.bytes;
    }

abbrev pub is_present : {A : Type 0} → Option A → Bool
is_present None = false
is_present (Some a) = true

-- 'A path with no parent names the set; else the first element of the first path does'
abbrev pub set_name_of : List ℕ → List ℕ
set_name_of path = cond (has_parent_path path) (lsplit_first path) path

-- the set's name after an addition to a set that has `files` files
abbrev pub name_after : ℕ → List ℕ → List ℕ → List ℕ
name_after files name path = cond (eqb files 0) (set_name_of path) name

-- a path without the separators at its start
abbrev pub without_leading : List ℕ → List ℕ
without_leading [] = []
without_leading (c ∷ t) = cond (is_separator c) (without_leading t) (c ∷ t)

-- 'A directory whose first element is the set's name is stored without it'
abbrev pub directory_under : List ℕ → List ℕ → Directory
directory_under name branch =
    cond (equal (lsplit_first branch) name) (stored (without_leading (lsplit_rest branch)) false) (stored branch true)

-- where a path's file lies: an absolute path and a single name have no directory; else it is the path's branch
abbrev pub directory_for : List ℕ → List ℕ → Directory
directory_for name path =
    cond (is_complete path) absolute
    (cond (is_empty (rsplit_branch path)) single (directory_under name (rsplit_branch path)))

-- the name that a path gives: its last part; an absolute path is its own name
abbrev pub path_name : List ℕ → List ℕ
path_name path = cond (is_complete path) path (rsplit_leaf path)

-- the name that is stored: 'A given name of no bytes counts as none'
abbrev pub stored_name : Option (List ℕ) → List ℕ → List ℕ
stored_name None path = path_name path
stored_name (Some given) path = cond (is_empty given) (path_name path) given

-- refusal 5 looks at the given name, 'or with none the path's `filename`'; an empty given name is not none here
abbrev pub limited_name : Option (List ℕ) → List ℕ → List ℕ
limited_name None path = rsplit_leaf path
limited_name (Some given) path = given

-- refusal 6: 'given name starts with a separator, or is nonempty with an absolute path'
abbrev pub bad_name : Option (List ℕ) → List ℕ → Bool
bad_name None path = false
bad_name (Some given) path = is_complete given || (not (is_empty given) && is_complete path)

-- 'A file of size above 0 without link text' fixes v1 or v2, or must agree
abbrev pub decides : ℕ → List ℕ → Bool
decides size link = ltb 0 size && is_empty link

-- 'while the total is 0 or there are as many link texts as files'
abbrev pub is_left_open : ℕ → ℕ → ℕ → Bool
is_left_open total links files = eqb total 0 || eqb links files

-- whether the set is v2 after a file with a root or none: one that decides ('plain') 'fixes v2 or v1 (root or none)' in
-- a set that is open ('free')
abbrev pub version_by : Bool → Bool → Bool → Bool → Bool
version_by v2 plain free root = cond (plain && free) root v2

-- 'later ones must agree'
abbrev pub disagrees_in : Bool → Bool → Bool → Bool → Bool
disagrees_in v2 plain free root = plain && (not free && cond v2 (not root) root)

-- the same of a set's numbers and a file's size and link text: 'A file of size above 0 without link text fixes v2 or v1
-- (root or none) while the total is 0 or there are as many link texts as files; later ones must agree'
abbrev pub v2_after : Bool → ℕ → ℕ → ℕ → ℕ → List ℕ → Bool → Bool
v2_after v2 total links files size link root = version_by v2 (decides size link) (is_left_open total links files) root

abbrev pub disagrees : Bool → ℕ → ℕ → ℕ → ℕ → List ℕ → Bool → Bool
disagrees v2 total links files size link root =
    disagrees_in v2 (decides size link) (is_left_open total links files) root

-- 'when the total is no multiple of the piece length, a pad follows': what is missing to the next multiple
abbrev pub pad_to : ℕ → ℕ → ℕ
pad_to piece_length total = (piece_length - total % piece_length) % piece_length

-- 'In v2 … a pad follows': the size of the pad after a file, 0 where there is none
abbrev pub pad_after : Bool → ℕ → ℕ → ℕ
pad_after v2 piece_length total = cond v2 (pad_to piece_length total) 0

-- 'Link text makes a link until 32766 are held'
abbrev pub link_is_kept : ℕ → List ℕ → Bool
link_is_kept links link = not (is_empty link) && ltb links max_links

-- 'the symlink flag is dropped where none is held'
abbrev pub flags_kept : ℕ → Bool → ℕ
flags_kept flags keeps = flags % symlink_bit + cond keeps (flags / symlink_bit % 2 * symlink_bit) 0

-- `.pad`
abbrev pub pad_directory_name : List ℕ
pad_directory_name = 46 ∷ 112 ∷ 97 ∷ 100 ∷ []

-- the directories with one more, unless it is there already
abbrev pub is_among : List ℕ → List (List ℕ) → Bool
is_among d ds = any (equal d) ds

abbrev pub with_directory : List ℕ → List (List ℕ) → List (List ℕ)
with_directory d ds = cond (is_among d ds) ds (ds ++ (d ∷ []))

-- the same of a file's directory, which may be none
abbrev pub with_directory_of : Directory → List (List ℕ) → List (List ℕ)
with_directory_of single ds = ds
with_directory_of absolute ds = ds
with_directory_of (stored d outside) ds = with_directory d ds

-- ---- the set after an addition that is not refused

abbrev pub files_of : Model → ℕ
files_of m = length m.files

abbrev pub size_added : Addition → ℕ
size_added a = clamped_of a.size

abbrev pub keeps : Model → Addition → Bool
keeps m a = link_is_kept m.links a.link

abbrev pub is_v2 : Model → Addition → Bool
is_v2 m a = v2_after m.v2 m.total m.links (files_of m) (size_added a) a.link (is_present a.root)

abbrev pub pad_of : Model → Addition → ℕ
pad_of m a = pad_after (is_v2 m a) m.piece_length (m.total + size_added a)

abbrev pub new_name : Model → Addition → List ℕ
new_name m a = name_after (files_of m) m.name a.path

abbrev pub directory_added : Model → Addition → Directory
directory_added m a = directory_for (new_name m a) a.path

abbrev pub file_added : Model → Addition → File
file_added m a =
    record {
      offset = m.total;
      size = size_added a;
      name = stored_name a.given a.path;
      directory = directory_added m a;
      flags = flags_kept a.flags (keeps m a);
      time = a.time;
      link = present_if (keeps m a) a.link;
      root = a.root;
      made = false;
    }

-- 'a pad follows: directory `.pad`, name the pad's size in decimal digits'; it is given no time
abbrev pub pad_added : ℕ → ℕ → List File
pad_added offset size =
    cond (eqb size 0) []
    (record {
      offset = offset;
      size = size;
      name = decimal size;
      directory = stored pad_directory_name false;
      flags = pad_bit;
      time = pos 0;
      link = None;
      root = None;
      made = true;
    } ∷ [])

abbrev pub directories_after : Model → Addition → List (List ℕ)
directories_after m a =
    cond (eqb (pad_of m a) 0) (with_directory_of (directory_added m a) m.directories)
    (with_directory pad_directory_name (with_directory_of (directory_added m a) m.directories))

-- the set after an addition: the file follows those held, its offset 'the sum of the sizes before it', and its pad
-- follows it where there is one
abbrev pub added : Model → Addition → Model
added m a =
    record {
      piece_length = m.piece_length;
      v2 = is_v2 m a;
      name = new_name m a;
      files = m.files ++ (file_added m a ∷ pad_added (m.total + size_added a) (pad_of m a));
      directories = directories_after m a;
      links = m.links + cond (keeps m a) 1 0;
      total = m.total + size_added a + pad_of m a;
      on_disk = m.on_disk + cond (is_pad a.flags) 0 (size_added a);
      trimmed = m.trimmed;
    }

-- ---- room

-- 'Text needed is the sum of the set's name and all names, directories and link texts held'
abbrev pub link_length : Option (List ℕ) → ℕ
link_length None = 0
link_length (Some link) = length link

abbrev pub file_text : File → ℕ
file_text f = length f.name + link_length f.link

abbrev pub text_of : Model → ℕ
text_of m = length m.name + sum (map length m.directories) + sum (map file_text m.files)

-- refusal 10: 'a table, text area, … shorter than the result needs, or over 65535 files or directories'
abbrev pub lacks : Rooms → Model → ℕ → Bool
lacks rooms m text =
    ltb (files_room rooms) (files_of m)
    || (ltb (dirs_room rooms) (length m.directories) || ltb rooms.text text)

-- ---- refusals

abbrev pub disagree : Model → Addition → Bool
disagree m a = disagrees m.v2 m.total m.links (files_of m) (size_added a) a.link (is_present a.root)

-- the table's rows for adding, in its order, in four groups: sizes, names, v1 or v2, and the pad; then room. Refusals
-- 1, 2, 3, 4:
abbrev pub size_rules : ℕ → ℕ → Bool → ℕ → List Rule
size_rules piece_length total negative size =
    when (bad_length piece_length) 1 ∷
    when negative 2 ∷
    when (ltb limit size) 3 ∷
    when (ltb limit (total + size)) 4 ∷
    []

-- refusals 5, 6, 7
abbrev pub name_rules : ℕ → ℕ → Bool → Bool → List Rule
name_rules files limited bad parent =
    when (leb name_limit limited) 5 ∷
    when bad 6 ∷
    when (not parent && ltb 0 files) 7 ∷
    []

-- refusals 8, 9
abbrev pub version_rules : Bool → Bool → Bool → Bool → List Rule
version_rules v2 plain free root =
    when (disagrees_in v2 plain free root && v2) 8 ∷
    when (disagrees_in v2 plain free root) 9 ∷
    []

-- refusal 4, for the pad
abbrev pub pad_rules : ℕ → ℕ → List Rule
pad_rules total pad = when (ltb limit (total + pad)) 4 ∷ []

-- what these rules look at: numbers of the set and of the file; the length of the name that refusal 5 looks at; whether
-- the name is bad and the path has a parent; whether the file decides ('plain') and the set is open ('free'); the pad
pub record Tested : Type 0 where
  pub piece_length : ℕ
  pub total : ℕ
  pub files : ℕ
  pub v2 : Bool
  pub negative : Bool
  pub size : ℕ
  pub limited : ℕ
  pub bad : Bool
  pub parent : Bool
  pub plain : Bool
  pub free : Bool
  pub root : Bool
  pub pad : ℕ

-- the four groups in their order
abbrev pub rules_on : Tested → List Rule
rules_on t =
    size_rules t.piece_length t.total t.negative t.size
    ++ (name_rules t.files t.limited t.bad t.parent
    ++ (version_rules t.v2 t.plain t.free t.root
    ++ pad_rules (t.total + t.size) t.pad))

abbrev pub tested_of : Model → Addition → Tested
tested_of m a =
    record {
      piece_length = m.piece_length;
      total = m.total;
      files = files_of m;
      v2 = m.v2;
      negative = is_negative a.size;
      size = size_added a;
      limited = length (limited_name a.given a.path);
      bad = bad_name a.given a.path;
      parent = has_parent_path a.path;
      plain = decides (size_added a) a.link;
      free = is_left_open m.total m.links (files_of m);
      root = is_present a.root;
      pad = pad_of m a;
    }

-- all of them; whether room is lacking is decided beside them
abbrev pub adding_rules : Model → Addition → Bool → List Rule
adding_rules m a no_room = rules_on (tested_of m a) ++ (when no_room 10 ∷ [])

-- an addition to a set whose tables have these rooms: the set after it, or the refusal
abbrev pub added_to : Rooms → Model → Addition → Outcome Model
added_to rooms m a =
    outcome_of (first_of (adding_rules m a (lacks rooms (added m a) (text_of (added m a))))) (added m a)
