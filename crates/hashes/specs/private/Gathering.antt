-- How `all_path_hashes` finds its hashes in order: those of a range are collected in a batch, in any order, and a batch
-- that gets full keeps the least and cuts the range. 4294967296 is one more than the greatest hash. It relies on
-- Hashes.antt for what is due.
use Rattle.std.specs.Prelude.{ℕ, ◌/◌, ◌≤◌, ◌<◌, ◌≡◌, not, ◌&&◌, List, [], ◌∷◌, ◌++◌, map, ltb, leb, length, take}
use Rattle.std.specs.List.{filter}
use Rattle.crc32c.specs.Crc.{crc_from, lower}
use Rattle.tables.specs.Span.{text_at}
use Rattle.tables.specs.Rows.{dir_at, dir_width}
use Rattle.tables.specs.Model.{tabled}
use Rattle.rules.specs.Rules.{when, first_of}
use Rattle.rules.specs.Questions.{short}
use Rattle.hashes.specs.declared.hashes.Collected.{Collected}
use Rattle.hashes.specs.Hashes.{beginnings, joined_lists, ascending, HashesListed, listed}

-- those at or above `from` and below `end`
abbrev pub within : ℕ → ℕ → List ℕ → List ℕ
within from end hs = filter (λ (h : ℕ). leb from h && ltb h end) hs

-- the batch holds those of the hashes hs that are in the range, in any order and with repeats; each hash has 32 bits
pub record Holds (hs : List ℕ) (c : Collected) (batch : List ℕ) : Type 0 where
  pub range : (c.from < c.end) × (c.end ≤ 4294967296)
  pub places : c.count ≤ length batch
  pub same : ascending (take c.count batch) ≡ ascending (within c.from c.end hs)
  pub small : within 0 4294967296 hs ≡ hs

-- whatever hashes the batch held before, it holds these and hs; the range may end sooner
abbrev pub Adds : List ℕ → Collected → List ℕ → Collected → List ℕ → Type 0
Adds hs c batch d after = (d.from ≡ c.from) × ((gs : List ℕ) → Holds gs c batch → Holds (gs ++ hs) d after)

-- the batch begins with those of the hashes hs that are in the range, in order, each once; each hash has 32 bits
pub record Gathered (hs : List ℕ) (from : ℕ) (c : Collected) (batch : List ℕ) : Type 0 where
  pub range : (from < c.end) × (c.end ≤ 4294967296)
  pub places : c.count ≤ length batch
  pub stored : take c.count batch ≡ ascending (within from c.end hs)
  pub small : within 0 4294967296 hs ≡ hs

-- the hashes of a directory's beginnings, from the hash of what stands before the directory
abbrev pub hashes_after : ℕ → List ℕ → List ℕ
hashes_after state d = map (λ (b : List ℕ). crc_from state (map lower b)) (beginnings d)

-- those of the first n directories
abbrev pub hashes_within : ℕ → List ℕ → List ℕ → ℕ → List ℕ
hashes_within state dirs text n = joined_lists (map (hashes_after state) (tabled n (λ i. text_at text (dir_at dirs i))))

-- in order, each once
abbrev pub ascending_within : ℕ → List ℕ → List ℕ → ℕ → List ℕ
ascending_within state dirs text n = ascending (hashes_within state dirs text n)

-- `put`: refusal 10 where `out` is too short
abbrev pub all_put : List ℕ → List ℕ → HashesListed
all_put hs out = listed (first_of (short (leb (length (ascending hs)) (length out)) ∷ [])) (ascending hs) out

-- `put_hashes`: refusal 10 where the directories or `out` are too few
abbrev pub hashes_put : ℕ → List ℕ → List ℕ → ℕ → List ℕ → HashesListed
hashes_put state dirs text n out =
    listed
    (first_of
    (when (not (leb n (length dirs / dir_width))) 10 ∷
    when (not (leb (length (ascending_within state dirs text n)) (length out))) 10 ∷ []))
    (ascending_within state dirs text n)
    out
