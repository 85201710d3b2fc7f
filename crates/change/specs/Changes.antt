-- What a change answers and what every lent table holds after it. It relies on the tables of `tables`.
use Rattle.std.specs.Prelude.{ℕ, cond, List, eqb}
use Rattle.types.specs.Refusals.{Outcome, value, refused}
use Rattle.tables.specs.declared.storage.FileStorage.{FileStorage}
use Rattle.tables.specs.Model.{Store}

-- the answer, and each table
pub record Changed : Type 0 where
  pub says : Outcome FileStorage
  pub rows : List ℕ
  pub roots : List ℕ
  pub firsts : List ℕ
  pub dirs : List ℕ
  pub text : List ℕ

abbrev pub changed_of : Outcome FileStorage → List ℕ → List ℕ → List ℕ → List ℕ → List ℕ → Changed
changed_of says rows roots firsts dirs text =
    record { says = says; rows = rows; roots = roots; firsts = firsts; dirs = dirs; text = text }

-- an answer with the tables of a store
abbrev pub answering : Outcome FileStorage → Store → Changed
answering says s = changed_of says s.rows s.roots s.firsts s.dirs s.text

-- a refusal leaves every table as it was
abbrev pub changed_if : ℕ → Store → Store → Changed
changed_if k s t = cond (eqb k 0) (answering (value t.fs) t) (answering (refused k) s)
