-- Document 01, 'Names': a file's whole path, and its hash. Joins are those of `append_path`; for hashes 'the release
-- build' puts a separator after each part that is not empty, and after the set's name always. It relies on the joins of
-- `path`, the hash of `crc32c` and the questions of `rules`.
use Rattle.std.specs.Prelude.{ℕ, Bool, cond, not, ◌&&◌, List, [], ◌∷◌, ◌++◌, map, eqb, ℤ}
use Rattle.types.specs.Refusals.{Outcome}
use Rattle.path.specs.Join.{Joined, appended, joined_if, fits}
use Rattle.crc32c.specs.Crc.{crc_of, lower}
use Rattle.tables.specs.declared.storage.FileStorage.{FileStorage}
use Rattle.tables.specs.declared.rows.Row.{Row}
use Rattle.tables.specs.Span.{text_at}
use Rattle.tables.specs.Rows.{row_at, dir_at, no_path, is_absolute, is_inside, has, outside_bit}
use Rattle.rules.specs.Questions.{file_answer, rows_are_held, dirs_held, text_held}
use Rattle.rules.specs.Composed.{composed_file}

-- ---- a composed path

-- four parts, each appended to those before it
abbrev pub composed_of : List ℕ → List ℕ → List ℕ → List ℕ → List ℕ
composed_of a b c d = appended (appended (appended a b) c) d

-- the path p at the start of a buffer where it fits, refusal 10
abbrev pub written_into : List ℕ → List ℕ → Joined
written_into p buf = joined_if (fits p buf) p buf

-- ---- a file's path

-- a single name has no directory
abbrev pub is_single : Row → Bool
is_single r = eqb r.path_index no_path

abbrev pub name_of : List ℕ → Row → List ℕ
name_of text r = text_at text r.name

abbrev pub directory_of : List ℕ → List ℕ → Row → List ℕ
directory_of dirs text r = text_at text (dir_at dirs r.path_index)

-- the set's name leads the path of a file in a directory, unless that stands outside of it
abbrev pub set_leads : Row → Bool
set_leads r = is_inside r && not (has r.flags outside_bit)

-- `file_path`: an absolute path stands alone; else it follows the save path, the set's name unless its directory stands
-- outside of that, and its directory
abbrev pub file_path : FileStorage → List ℕ → List ℕ → List ℕ → Row → List ℕ
file_path fs dirs text save r =
    cond (is_absolute r) (name_of text r)
    (cond (is_single r) (appended save (name_of text r))
    (cond (has r.flags outside_bit) (appended (appended save (directory_of dirs text r)) (name_of text r))
    (composed_of save (text_at text fs.name) (directory_of dirs text r) (name_of text r))))

-- a part and a separator, where the part is not empty
abbrev pub led : List ℕ → List ℕ
led [] = []
led (c ∷ t) = (c ∷ t) ++ (47 ∷ [])

-- ---- its hash

-- the bytes that a file's hash is taken of, before they are lower-cased
abbrev pub hashed_path : FileStorage → List ℕ → List ℕ → List ℕ → Row → List ℕ
hashed_path fs dirs text save r =
    cond (is_absolute r) (name_of text r)
    (cond (is_single r) (led save ++ name_of text r)
    (cond (has r.flags outside_bit) (led save ++ led (directory_of dirs text r) ++ name_of text r)
    (led save ++ (text_at text fs.name ++ (47 ∷ [])) ++ led (directory_of dirs text r) ++ name_of text r)))

-- 'Path hashes use CRC-32C'
abbrev pub hash_of : List ℕ → ℕ
hash_of t = crc_of (map lower t)

-- ---- the questions

-- the lent tables hold what the set counts
abbrev pub names_held : FileStorage → List ℕ → List ℕ → List ℕ → Bool
names_held fs rows dirs text = rows_are_held fs rows && (dirs_held fs dirs && text_held fs text)

-- `file_path` into a lent buffer, refusals 1, 11, 10
abbrev pub file_path_into : FileStorage → List ℕ → List ℕ → List ℕ → ℤ → List ℕ → List ℕ → Joined
file_path_into fs rows dirs text z save buf =
    composed_file fs z (names_held fs rows dirs text) (λ k. file_path fs dirs text save (row_at rows k)) buf

-- `file_path_hash`
abbrev pub file_path_hash : FileStorage → List ℕ → List ℕ → List ℕ → ℤ → List ℕ → Outcome ℕ
file_path_hash fs rows dirs text z save =
    file_answer fs z (names_held fs rows dirs text) (λ k. hash_of (hashed_path fs dirs text save (row_at rows k)))
