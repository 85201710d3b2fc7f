-- Document 01, 'Names': `all_path_hashes`: the hash of each directory and of each part of it that stands before a
-- separator, after the set's name. 'unordered sets and maps come out ascending', each hash once. It relies on the hash
-- of a path in Paths.antt of `names`.
use Rattle.types.specs.declared.refusal.Refusal.{Refusal}
use Rattle.std.specs.Prelude.{ℕ, cond, ◌&&◌, List, [], ◌∷◌, ◌++◌, map, eqb, ltb, leb, length, Result}
use Rattle.std.proofs.lemmas.List.Edits.{sets}
use Rattle.types.specs.Refusals.{Outcome, value, refused, outcome}
use Rattle.path.specs.Split.{is_separator}
use Rattle.tables.specs.declared.storage.FileStorage.{FileStorage}
use Rattle.tables.specs.Span.{text_at}
use Rattle.tables.specs.Rows.{dir_at}
use Rattle.tables.specs.Model.{tabled}
use Rattle.rules.specs.Rules.{when, first_of}
use Rattle.rules.specs.Bounds.{bad_length}
use Rattle.rules.specs.Questions.{dirs_held, text_held, few_entries, short}
use Rattle.names.specs.Paths.{led, hash_of}

-- what stands before each separator of a directory, and the whole of it; `seen` are the bytes passed already
abbrev pub beginnings_from : List ℕ → List ℕ → List (List ℕ)
beginnings_from seen [] = seen ∷ []
beginnings_from seen (c ∷ t) =
    cond (is_separator c) (seen ∷ beginnings_from (seen ++ (c ∷ [])) t) (beginnings_from (seen ++ (c ∷ [])) t)

-- the directory of no bytes has none
abbrev pub beginnings : List ℕ → List (List ℕ)
beginnings [] = []
beginnings (c ∷ t) = beginnings_from [] (c ∷ t)

abbrev pub joined_lists : {A : Type 0} → List (List A) → List A
joined_lists [] = []
joined_lists (xs ∷ xss) = xs ++ joined_lists xss

-- the hashes of a directory's beginnings after the set's name
abbrev pub directory_hashes : List ℕ → List ℕ → List ℕ
directory_hashes name d = map (λ (b : List ℕ). hash_of (led name ++ b)) (beginnings d)

-- in the directories' order, repeats included
abbrev pub hashes_of : FileStorage → List ℕ → List ℕ → List ℕ
hashes_of fs dirs text =
    joined_lists
    (map (directory_hashes (text_at text fs.name)) (tabled fs.num_paths (λ i. text_at text (dir_at dirs i))))

-- ascending, each once
abbrev pub inserted : ℕ → List ℕ → List ℕ
inserted h [] = h ∷ []
inserted h (x ∷ xs) = cond (ltb h x) (h ∷ x ∷ xs) (cond (eqb h x) (x ∷ xs) (x ∷ inserted h xs))

abbrev pub ascending : List ℕ → List ℕ
ascending [] = []
ascending (h ∷ hs) = inserted h (ascending hs)

-- the answer, and what the lent table holds after it
pub record HashesListed : Type 0 where
  pub says : Outcome ℕ
  pub table : List ℕ

abbrev pub listed_of : Result ℕ Refusal → List ℕ → HashesListed
listed_of r table = record { says = outcome r; table = table }

-- the hashes hs at the start of `out`, or refusal k, which leaves it as it was
abbrev pub listed : ℕ → List ℕ → List ℕ → HashesListed
listed k hs out =
    cond (eqb k 0) (record { says = value (length hs); table = sets out 0 hs })
    (record { says = refused k; table = out })

-- `all_path_hashes` into a lent table, refusals 1 and 10
abbrev pub all_path_hashes : FileStorage → List ℕ → List ℕ → List ℕ → HashesListed
all_path_hashes fs dirs text out =
    listed
    (first_of
    (when (bad_length fs.piece_length) 1 ∷
    short (dirs_held fs dirs && (text_held fs text && few_entries fs)) ∷
    short (leb (length (ascending (hashes_of fs dirs text))) (length out)) ∷ []))
    (ascending (hashes_of fs dirs text))
    out
