-- The steps of the search for a file, which halve the rows that are left. They say what is found on rows whose offsets
-- do not ascend: no call leads to such rows, but the promise holds for lent rows of any content. Where the offsets
-- ascend, the steps find what Search.antt says (proofs/Halving.antt, `steps-find`).
use Rattle.std.specs.Prelude.{ℕ, zero, suc, ◌+◌, ◌-◌, ◌/◌, ◌^◌, min, cond, nat_le}

-- how many rows j steps tell apart: a little less than 2 ^ j, because rows that are powers of two apart would share few
-- places of a processor's cache
abbrev pub reach : ℕ → ℕ
reach j = 2 ^ j - 2 ^ j / 128

-- how far step j goes among n rows, so that no more are left than j steps tell apart
abbrev pub stride : ℕ → ℕ → ℕ
stride n j = min (reach (j + 1) - reach j) (n - reach j)

-- s places on, where the value there is at or before the target
abbrev pub moved : (ℕ → ℕ) → ℕ → ℕ → ℕ → ℕ
moved f t b s = cond (nat_le (f (b + s)) t) (b + s) b

-- from place b on, the j last steps
unfoldable pub halved : ℕ → (ℕ → ℕ) → ℕ → ℕ → ℕ → ℕ
halved zero f t n b = b
halved (suc j) f t n b = halved j f t n (moved f t b (stride n j))
