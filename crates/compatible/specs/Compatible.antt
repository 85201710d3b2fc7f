-- Document 01: '`files_compatible` as in the Rust': whether two sets have the same layout and names, pads and empty
-- files aside. It is not symmetric: a link is compared only where the first set flags it as one. It relies on the paths
-- of Paths.antt of `names` and on the rows of `tables`.
use Rattle.std.specs.Prelude.{ℕ, zero, suc, ◌+◌, Bool, true, cond, not, ◌&&◌, ◌||◌, List, [], ◌∷◌, eqb, ltb}
use Rattle.lists.specs.Lists.{equal}
use Rattle.types.specs.Refusals.{Outcome}
use Rattle.tables.specs.declared.storage.FileStorage.{FileStorage}
use Rattle.tables.specs.declared.rows.Row.{Row}
use Rattle.tables.specs.Rows.{row_at, has, pad_bit, symlink_bit}
use Rattle.rules.specs.Rules.{when, first_of, outcome_of}
use Rattle.rules.specs.Bounds.{bad_length}
use Rattle.rules.specs.Questions.{short, few_entries}
use Rattle.answers.specs.Answers.{symlink_path}
use Rattle.names.specs.Paths.{file_path, names_held}

-- one of the two sets, as a call brings it
pub record NamedSet : Type 0 where
  pub fs : FileStorage
  pub rows : List ℕ
  pub dirs : List ℕ
  pub text : List ℕ

abbrev pub named_set_of : FileStorage → List ℕ → List ℕ → List ℕ → NamedSet
named_set_of fs rows dirs text = record { fs = fs; rows = rows; dirs = dirs; text = text }

-- a file that is no pad and not empty
abbrev pub is_relevant : Row → Bool
is_relevant r = not (has r.flags pad_bit) && ltb 0 r.size

abbrev pub path_of : NamedSet → Row → List ℕ
path_of s r = file_path s.fs s.dirs s.text [] r

abbrev pub link_of : NamedSet → Row → List ℕ
link_of s r = symlink_path s.fs s.text r

-- size, path and offset are the same, and so is the link where the first is flagged as one
abbrev pub same_named : NamedSet → NamedSet → Row → Row → Bool
same_named a b r q =
    eqb r.size q.size
    && (equal (path_of a r) (path_of b q)
    && (eqb r.offset q.offset && cond (has r.flags symlink_bit) (equal (link_of a r) (link_of b q)) true))

-- both files are relevant or neither is, and where they are relevant they are the same
abbrev pub same_file : NamedSet → NamedSet → Row → Row → Bool
same_file a b r q = cond (is_relevant r) (is_relevant q && same_named a b r q) (not (is_relevant q))

-- the n files from number k on
unfoldable pub same_from : ℕ → ℕ → NamedSet → NamedSet → Bool
same_from zero k a b = true
same_from (suc n) k a b = same_file a b (row_at a.rows k) (row_at b.rows k) && same_from n (k + 1) a b

abbrev pub compatible : NamedSet → NamedSet → Bool
compatible a b =
    eqb a.fs.num_files b.fs.num_files
    && (eqb a.fs.total_size b.fs.total_size
    && (eqb a.fs.piece_length b.fs.piece_length && same_from a.fs.num_files 0 a b))

-- the lent tables hold what the set counts, and that is not 'over 65535 files or directories'
abbrev pub held_in : NamedSet → Bool
held_in s = names_held s.fs s.rows s.dirs s.text && few_entries s.fs

-- refusals 1 and 10, of either set
abbrev pub files_compatible : NamedSet → NamedSet → Outcome Bool
files_compatible a b =
    outcome_of
    (first_of
    (when (bad_length a.fs.piece_length || bad_length b.fs.piece_length) 1 ∷
    short (held_in a && held_in b) ∷ []))
    (compatible a b)
