-- Where the search for a file stands between two steps. It relies on the steps.
use Rattle.std.specs.Prelude.{◌≡◌, ℕ, ◌+◌, ◌*◌, ◌≤◌, min, List}
use Rattle.layout.specs.Search.{offset_at}
use Rattle.layout.specs.Steps.{reach, halved}

-- with j steps to go: it stands at row b, whose words begin at `at`; no more rows are left from there on than j steps
-- tell apart; and the steps to go lead where all steps lead
pub record Level (rows : List ℕ) (n t j at : ℕ) : Type 0 where
  pub b : ℕ
  pub place : at ≡ b * 8
  pub left : b + min n (reach j) ≤ n
  pub gives : halved j (offset_at rows) t n b ≡ halved n (offset_at rows) t n 0
