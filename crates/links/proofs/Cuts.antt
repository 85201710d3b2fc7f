-- Laws of a cut: where the part of a path ends that goes on at a place. They rely on the kit's laws of lists.
use Prim.Native.Nat.{ℕ, ◌+◌, ◌-◌, ◌≤◌}
use mathlib.Core.Path.{◌≡◌, refl, ◌∙◌}
use mathlib.Core.Bool.{Bool, true, false, cond, not}
use mathlib.Core.List.{List, [], ◌∷◌, ◌++◌}
use native.Mathlib.Omega.{arith}
use lib.ListN.{length, take, drop, length-append, length-drop}
use lib.Seq.{drop-drop, length-take-le}
use Rattle.std.specs.List.{prefix_len}
use Rattle.path.specs.Split.{is_separator, is_complete, before_first}
use Rattle.links.specs.Clean.{part_end}

-- how many bytes stand before the first separator
pub before-count : (l : List ℕ) → prefix_len (λ b. not (is_separator b)) l ≡ length (before_first l)
before-count [] = refl
before-count (b ∷ l) = at (is_separator b) (before-count l)
  where
    at : (s : Bool) → prefix_len (λ b. not (is_separator b)) l ≡ length (before_first l)
        → cond (not s) (1 + prefix_len (λ b. not (is_separator b)) l) 0 ≡ length (cond s [] (b ∷ before_first l))
    at true h = refl
    at false h = omega arith

-- the part's end, counted from the place on where the split looks for a separator
pub part-is : (p : List ℕ) (pos c begin n : ℕ) → pos ≤ length p → c ≡ cond (is_complete p) 1 0 → begin ≡ pos - c → n ≡ length (before_first (drop (c + begin) p)) → begin + n ≡ part_end p pos
part-is p pos c begin n l e h q = parted (cond (is_complete p) 1 0) e
  where
    parted : (d : ℕ) → c ≡ d → begin + n ≡ length (take (pos - d) (drop d p) ++ before_first (drop (pos - d) (drop d p)))
    parted d e =
        let b : c + begin ≡ d + (pos - d) = omega (arith, e, h) in
        let m : n ≡ length (before_first (drop (pos - d) (drop d p))) = q ∙ rw (b, drop-drop (pos - d) d p) in
        omega (
          arith,
          m,
          e,
          h,
          length-append (take (pos - d) (drop d p)) (before_first (drop (pos - d) (drop d p))),
          length-take-le (pos - d) (drop d p) (omega (arith, length-drop d p)),
        )
