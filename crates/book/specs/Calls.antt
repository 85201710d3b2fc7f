-- Which calls, with which outcomes, lead from a newly opened set to which tables: 'Each call gets the set and renames
-- as the last one left them'. The premises are the port's promises: a step's is what the called function ensures, on
-- the set's record and tables (`Store` of `tables`) and on those of the renames (`RenamedFiles` of `renames`).
-- `opened`, `add_stored`, `trim_stored`, `clean_stored`, `rename_file_answer` and `import_filenames_answer` are the
-- definitions that the contracts of `storage`, `trim`, `cleaning` and `renames` cite, so a refused call is a step like
-- any other.
--
-- Names from elsewhere: `value a` is an answer, `refused k` a refusal by number k; `pos n` is the integer n; `take n`
-- is the first n elements; `cond t a b` is a where t is true, else b. The tables are those of `Store` (tables,
-- specs/Model.antt): rows, roots, first files, directories and text beside the set's record.
use Rattle.std.specs.Prelude.{◌≡◌, Bool, cond, List, [], ◌∷◌, ℕ, ◌*◌, ◌≤◌, pos, take}
use Rattle.types.specs.Refusals.{Outcome, value, refused}
use Rattle.tables.specs.Rows.{dir_width, root_width, row_width}
use Rattle.tables.specs.declared.storage.FileStorage.{FileStorage}
use Rattle.tables.specs.Model.{Store}
use Rattle.rules.specs.Questions.{num_pieces}
use Rattle.additions.specs.Addition.{Addition}
use Rattle.storage.specs.Opening.{opened}
use Rattle.change.specs.Changes.{Changed, changed_of}
use Rattle.plan.specs.Outcomes.{add_stored}
use Rattle.trim.specs.Removal.{trim_stored}
use Rattle.lookup.specs.Lookup.{lent}
use Rattle.cleaning.specs.Cleaning.{Cleaned, clean_stored}
use Rattle.renames.specs.declared.rename.RenamedFiles.{RenamedFiles}
use Rattle.renames.specs.Renames.{rename_file_answer}
use Rattle.renames.specs.Renames as renames
use Rattle.imports.specs.Imports.{Naming, import_filenames_answer}
use Rattle.book.specs.Book.{Call, Came, Made}
use Rattle.book.specs.Book as book

abbrev pub came_of : {A : Type 0} → Outcome A → Came
came_of (value a) = book.done
came_of (refused k) = book.refused k

-- the caller keeps the record that an answer gives, and the old one after a refusal
abbrev pub kept : Outcome FileStorage → FileStorage → FileStorage
kept (value new) old = new
kept (refused k) old = old

abbrev pub store_after : FileStorage → Changed → Store
store_after old c =
    record {
      fs = kept c.says old;
      rows = c.rows;
      roots = c.roots;
      firsts = c.firsts;
      dirs = c.dirs;
      text = c.text;
    }

abbrev pub call : Call → Changed → Made
call k c = record { call = k; came = came_of c.says }

-- a cleaning changes no roots and no first files
abbrev pub cleaned_by : Store → Cleaned → Changed
cleaned_by s c = changed_of c.says c.rows s.roots s.firsts c.dirs c.text

-- the places of the table of first files that a set uses: one for each piece, where it keeps the table
abbrev pub places_used : FileStorage → ℕ
places_used fs = cond fs.indexed (num_pieces fs) 0

-- tables t that hold the set of the tables s: other tables may be lent to the next call, longer or shorter, where the
-- part that the set uses was copied over
pub record SameSet (s t : Store) : Type 0 where
  pub fs : t.fs ≡ s.fs
  pub rows : take (s.fs.num_files * row_width) t.rows ≡ take (s.fs.num_files * row_width) s.rows
  pub roots : take (s.fs.num_files * root_width) t.roots ≡ take (s.fs.num_files * root_width) s.roots
  pub firsts : take (places_used s.fs) t.firsts ≡ take (places_used s.fs) s.firsts
  pub dirs : take (s.fs.num_paths * dir_width) t.dirs ≡ take (s.fs.num_paths * dir_width) s.dirs
  pub text : take s.fs.text_len t.text ≡ take s.fs.text_len s.text

-- the renames: their record, and the tables that they lie in
pub record Renames : Type 0 where
  pub rf : RenamedFiles
  pub entries : List ℕ
  pub text : List ℕ

-- 'with no rename entries'
abbrev pub no_entries : RenamedFiles
no_entries = record { num_renames = 0; text_len = 0 }

abbrev pub kept_names : Outcome RenamedFiles → RenamedFiles → RenamedFiles
kept_names (value new) old = new
kept_names (refused k) old = old

abbrev pub renames_after : Renames → renames.RenamesChanged → Renames
renames_after r c = record { rf = kept_names c.says r.rf; entries = c.entries; text = c.text }

-- tables q that hold the renames of the tables r
pub record SameRenames (r q : Renames) : Type 0 where
  pub rf : q.rf ≡ r.rf
  pub entries : take (r.rf.num_renames * 4) q.entries ≡ take (r.rf.num_renames * 4) r.entries
  pub text : take r.rf.text_len q.text ≡ take r.rf.text_len r.text

-- the calls `made`, the latest first, on a set of piece length n, which an i32 holds, lead to the tables s and the
-- renames r
pub data Leads (n : ℕ) : List Made → Store → Renames → Type 0 where
  opening : {s : Store} {r : Renames} (indexed : Bool)
      → n ≤ 2147483647
      → opened (pos n) indexed ≡ value s.fs
      → r.rf ≡ no_entries
      → Leads n [] s r
  addition : {made : List Made} {s : Store} {r : Renames} (a : Addition) (c : Changed)
      → Leads n made s r
      → c ≡ add_stored s a
      → Leads n (call (book.add a) c ∷ made) (store_after s.fs c) r
  trim : {made : List Made} {s : Store} {r : Renames} (c : Changed)
      → Leads n made s r
      → c ≡ trim_stored s
      → Leads n (call book.trim c ∷ made) (store_after s.fs c) r
  cleaning : {made : List Made} {s : Store} {r : Renames} (marks stage path : List ℕ) (c : Cleaned)
      → Leads n made s r
      → c ≡ clean_stored (lent s.fs s.rows s.dirs s.text) marks stage path
      → Leads n (call book.clean (cleaned_by s c) ∷ made) (store_after s.fs (cleaned_by s c)) r
  renaming : {made : List Made} {s : Store} {r : Renames} (x : Naming) (c : renames.RenamesChanged)
      → Leads n made s r
      → c ≡ rename_file_answer s.fs r.rf r.entries r.text x.file x.name
      → Leads n (record { call = book.rename x; came = came_of c.says } ∷ made) s (renames_after r c)
  importing : {made : List Made} {s : Store} {r : Renames} (xs : List Naming) (c : renames.RenamesChanged)
      → Leads n made s r
      → c ≡ import_filenames_answer s.fs r.rf r.entries r.text xs
      → Leads n (record { call = book.«import» xs; came = came_of c.says } ∷ made) s (renames_after r c)
  lending : {made : List Made} {s t : Store} {r q : Renames}
      → Leads n made s r
      → SameSet s t
      → SameRenames r q
      → Leads n made t q
