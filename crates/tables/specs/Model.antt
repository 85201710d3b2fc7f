-- What a set's tables mean: document 01, 'The set'. A set is its files in order, each with offset, size, name,
-- directory, flags, time, link text and root, its directories, its name, v1 or v2, and its totals. It relies on the
-- rows of Rows.antt, the texts of Span.antt, the joins of `path` and the signed numbers of `types`.
--
-- Names from elsewhere: `cond t a b` is a where t is true, else b; `eqb`, `ltb` and `leb` test =, < and ≤; `a - b` is 0
-- where b is larger. A text is its bytes, and `text_at` reads the bytes that a span (position, length) covers. `row_at`
-- and `dir_at` read a row of a table, `root_at` a root; `has flags bit` tests a bit; `unzigzag` is the signed number
-- that a word holds. `appended` puts a name after a directory, one separator between them.
use Rattle.std.specs.Prelude.{ℕ, zero, suc, ◌%◌, Bool, true, false, cond, List, [], ◌∷◌, eqb, ℤ, Option, Some, None}
use Rattle.types.specs.Signed.{unzigzag}
use Rattle.path.specs.Join.{appended}
use Rattle.tables.specs.declared.rows.Row.{Row}
use Rattle.tables.specs.declared.storage.FileStorage.{FileStorage}
use Rattle.tables.specs.Span.{text_at}
use Rattle.tables.specs.Rows.{row_at, dir_at, no_path, is_absolute, root_at, has}
use Rattle.tables.specs.Rows.{link_held_bit, outside_bit, made_bit, root_bit}

abbrev pub present_if : {A : Type 0} → Bool → A → Option A
present_if true a = Some a
present_if false a = None

-- where a file lies: a single name has no directory, an absolute path has none either; else a stored directory, and
-- whether that stands outside the set's name
pub data Directory : Type 0 where
  single : Directory
  absolute : Directory
  stored : List ℕ → Bool → Directory

-- the internal path of a name in a directory: the name alone where there is none. A link's text is joined to its
-- directory alike
abbrev pub path_in : Directory → List ℕ → List ℕ
path_in single name = name
path_in absolute name = name
path_in (stored d outside) name = appended d name

-- 'A file has offset, size, name, directory, flags …, modified time, link text and a root of 32 bytes or none'; `made`
-- is true of a pad that an addition made. Document 02 (vi): 'The time becomes part of the file's record'
pub record File : Type 0 where
  pub offset : ℕ
  pub size : ℕ
  pub name : List ℕ
  pub directory : Directory
  pub flags : ℕ
  pub time : ℤ
  pub link : Option (List ℕ)
  pub root : Option (List ℕ)
  pub made : Bool

-- `links` counts link texts, a trimmed pad's too
pub record Model : Type 0 where
  pub piece_length : ℕ
  pub v2 : Bool
  pub name : List ℕ
  pub files : List File
  pub directories : List (List ℕ)
  pub links : ℕ
  pub total : ℕ
  pub on_disk : ℕ
  pub trimmed : Bool

-- whether a file's flags mark a pad
abbrev pub is_pad : ℕ → Bool
is_pad flags = eqb (flags % 2) 1

-- the set's record and its tables; `firsts` has the first file of each piece, where the record says that the set keeps
-- it
pub record Store : Type 0 where
  pub fs : FileStorage
  pub rows : List ℕ
  pub roots : List ℕ
  pub firsts : List ℕ
  pub dirs : List ℕ
  pub text : List ℕ

abbrev pub store_of : FileStorage → List ℕ → List ℕ → List ℕ → List ℕ → List ℕ → Store
store_of fs rows roots firsts dirs text =
    record { fs = fs; rows = rows; roots = roots; firsts = firsts; dirs = dirs; text = text }

-- g 0, …, g (n − 1)
unfoldable pub tabled : {A : Type 0} → ℕ → (ℕ → A) → List A
tabled zero g = []
tabled (suc n) g = g 0 ∷ tabled n (λ k. g (suc k))

abbrev pub directory_text : Store → ℕ → List ℕ
directory_text s i = text_at s.text (dir_at s.dirs i)

-- a file's directory, by its path index, in a table of directories and the text that they lie in
abbrev pub directory_in : List ℕ → List ℕ → Row → Directory
directory_in dirs text r =
    cond (eqb r.path_index no_path) single
    (cond (is_absolute r) absolute (stored (text_at text (dir_at dirs r.path_index)) (has r.flags outside_bit)))

-- the internal path of a row's file
abbrev pub internal_path : List ℕ → List ℕ → Row → List ℕ
internal_path dirs text r = path_in (directory_in dirs text r) (text_at text r.name)

abbrev pub directory_of : Store → Row → Directory
directory_of s r = directory_in s.dirs s.text r

-- file i; its flags are the four that an addition gives
abbrev pub file_of : Store → ℕ → File
file_of s i =
    record {
      offset = (row_at s.rows i).offset;
      size = (row_at s.rows i).size;
      name = text_at s.text (row_at s.rows i).name;
      directory = directory_of s (row_at s.rows i);
      flags = (row_at s.rows i).flags % link_held_bit;
      time = unzigzag (row_at s.rows i).time;
      link = present_if (has (row_at s.rows i).flags link_held_bit) (text_at s.text (row_at s.rows i).link);
      root = present_if (has (row_at s.rows i).flags root_bit) (root_at s.roots i);
      made = has (row_at s.rows i).flags made_bit;
    }

abbrev pub view_of : Store → Model
view_of s =
    record {
      piece_length = s.fs.piece_length;
      v2 = s.fs.v2;
      name = text_at s.text s.fs.name;
      files = tabled s.fs.num_files (file_of s);
      directories = tabled s.fs.num_paths (directory_text s);
      links = s.fs.num_symlinks;
      total = s.fs.total_size;
      on_disk = s.fs.size_on_disk;
      trimmed = s.fs.trimmed;
    }
