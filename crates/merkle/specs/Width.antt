-- Document 01 and BEP 52: 'The tree width (BEP 52) is the smallest power of two at or above the count of blocks or
-- pieces; the first node of that layer is the width less 1.' It relies on the outcomes of `types`.
use Rattle.std.specs.Prelude.{ℕ, zero, suc, ◌-◌, ◌*◌, Bool, false, cond, leb}
use Rattle.types.specs.Refusals.{Outcome, value, refused}

-- w, doubled until it is not below n, k times at most
unfoldable pub doubled : ℕ → ℕ → ℕ → ℕ
doubled zero w n = w
doubled (suc k) w n = cond (leb n w) w (doubled k (2 * w) n)

-- the tree width of n leaves: 1, doubled until it is not below n; 30 doublings are enough up to 2 ^ 30
abbrev pub width_of : ℕ → ℕ
width_of n = doubled 30 1 n

-- refusal 16: 'node of a file with 0 or over 1073741823 leaves'
abbrev pub has_tree : ℕ → Bool
has_tree n = cond (leb 1 n) (leb n 1073741823) false

abbrev pub num_leafs : ℕ → Outcome ℕ
num_leafs n = cond (has_tree n) (value (width_of n)) (refused 16)

abbrev pub first_node : ℕ → Outcome ℕ
first_node n = cond (has_tree n) (value (width_of n - 1)) (refused 16)
