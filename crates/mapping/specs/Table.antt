-- Document 01, 'Layout answers': 'The slices are put into a table lent by the caller, one record each'. The slices and
-- the refusals are those of `layout`, Mapping.antt.
--
-- Names from elsewhere: `cond t a b` is a where t is true, else b; `eqb`, `ltb` and `leb` test =, < and ≤; `a - b` is 0
-- where b is larger. `pos n` is the integer n. `block_of` are the slices of a block and `block_rules` its refusals
-- (layout, specs/Mapping.antt); `first_of` is the number of the first refusal that holds, 0 where none does; `sets out
-- 0 xs` is the table `out` with xs in its first places.
use Rattle.std.specs.Prelude.{ℕ, ◌%◌, ◌^◌, cond, List, [], ◌∷◌, map, eqb, leb, ℤ, pos, length}
use Rattle.std.proofs.lemmas.List.Edits.{sets}
use Rattle.types.specs.Refusals.{Outcome, value, refused}
use Rattle.types.specs.declared.index.FileSlice.{FileSlice}
use Rattle.tables.specs.declared.storage.FileStorage.{FileStorage}
use Rattle.rules.specs.Rules.{first_of}
use Rattle.rules.specs.Questions.{short}
use Rattle.layout.specs.declared.window.Window.{Window}
use Rattle.layout.specs.declared.slices.Slice.{Slice}
use Rattle.layout.specs.Mapping.{block_of, block_rules}

-- a slice as the record of signed numbers that the Rust has
abbrev pub record_of : Slice → FileSlice
record_of s =
    record { file_index = record { 0 = pos (s.file % 2 ^ 31) }; offset = pos s.offset; size = pos s.size }

-- the answer, and what the table holds after it
pub record Filled : Type 0 where
  pub says : Outcome ℕ
  pub table : List FileSlice

-- a refusal and the table untouched, or for 0 the number of slices and the slices in the table's first places
abbrev pub filled : ℕ → List Slice → List FileSlice → Filled
filled k ss out =
    cond (eqb k 0) (record { says = value (length ss); table = sets out 0 (map record_of ss) })
    (record { says = refused k; table = out })

-- w is the window with which the search for the first slice's file begins
abbrev pub block_mapped : FileStorage → List ℕ → Window → ℤ → ℤ → ℤ → List FileSlice → Filled
block_mapped fs rows w z offset size out =
    filled
    (first_of
    (block_rules fs rows z offset size (short (leb (length (block_of fs rows w z offset size)) (length out)) ∷ [])))
    (block_of fs rows w z offset size)
    out
