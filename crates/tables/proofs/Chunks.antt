-- Laws of a table of directories that is read as rows of two words. They rely on the laws of Tabled.antt.
use Prim.Native.Nat.{ℕ, zero, suc, ◌+◌, ◌*◌, ◌≤◌}
use mathlib.Core.Path.{◌≡◌, refl, ap, ◌∙◌}
use mathlib.Core.List.{List, [], ◌∷◌, map}
use native.Mathlib.Omega.{arith}
use lib.ListN.{length, get_or, take, drop}
use Rattle.std.specs.Simd.{first_chunks}
use Rattle.tables.specs.declared.span.Span.{Span}
use Rattle.tables.specs.Span.{text_at}
use Rattle.tables.specs.Rows.{dir_at}
use Rattle.tables.specs.Model.{tabled}
use Rattle.tables.proofs.Tabled.{tabled-same}

-- the span that a row's two words place
abbrev pub row_of : List ℕ → Span
row_of ws = record { at = get_or ws 0 0; len = get_or ws 1 0 }

-- behind the first row stand the others
row-behind : (text dirs : List ℕ) (a b i : ℕ) → text_at text (dir_at dirs i) ≡ text_at text (dir_at (a ∷ b ∷ dirs) (suc i))
row-behind text dirs a b i =
    let at : suc i * 2 ≡ suc (suc (i * 2)) = omega arith in
    let len : suc (suc (i * 2)) + 1 ≡ suc (suc (i * 2 + 1)) = omega arith in
    rw (at, len)

pub row-texts : (text : List ℕ) (k : ℕ) (dirs : List ℕ) → k * 2 ≤ length dirs → map (λ ws. text_at text (row_of ws)) (first_chunks 2 k dirs) ≡ tabled k (λ i. text_at text (dir_at dirs i))
unfolding tabled
row-texts text zero dirs l = refl
row-texts text (suc k) [] l = absurd (omega arith)
row-texts text (suc k) (a ∷ []) l = absurd (omega arith)
row-texts text (suc k) (a ∷ b ∷ dirs) l =
    ap (λ (ts : List (List ℕ)). text_at text (record { at = a; len = b }) ∷ ts)
    (row-texts text k dirs (omega arith)
    ∙ tabled-same k (λ i. text_at text (dir_at dirs i)) (λ i. text_at text (dir_at (a ∷ b ∷ dirs) (suc i))) (λ i q. row-behind text dirs a b i))

-- the first n of k rows
rows-first : (n k : ℕ) (dirs : List ℕ) → n ≤ k → take n (first_chunks 2 k dirs) ≡ first_chunks 2 n dirs
rows-first zero k dirs h = refl
rows-first (suc n) zero dirs h = absurd (omega arith)
rows-first (suc n) (suc k) dirs h = ap (λ (cs : List (List ℕ)). take 2 dirs ∷ cs) (rows-first n k (drop 2 dirs) (omega arith))

pub first-texts : (text : List ℕ) (n k : ℕ) (dirs : List ℕ) → n ≤ k → k * 2 ≤ length dirs → map (λ ws. text_at text (row_of ws)) (take n (first_chunks 2 k dirs)) ≡ tabled n (λ i. text_at text (dir_at dirs i))
first-texts text n k dirs h l = ap (map (λ ws. text_at text (row_of ws))) (rows-first n k dirs h) ∙ row-texts text n dirs (omega arith)
