-- Laws of searches: the place that the library's `position` gives, or the length where it finds none, is how far a scan goes
-- that stops at the first element of which a test holds. They rely on the kit's laws of `position`.
use Rattle.std.proofs.Common.{ℕ, ◌+◌, ◌≤◌, Bool, true, false, not, cond, ltb, List, [], ◌∷◌, length, Option, None, Some, ◌≡◌, refl, sym, ◌∙◌, arith}
use Rattle.std.specs.List.{position_or_len}
use Rattle.std.specs.Option.{unwrap_or}
use Rattle.std.proofs.lemmas.List.Recursion.{is_position_or_len}
use Rattle.std.proofs.lemmas.List.Sums.{prefix_len-le-length}

-- by the place that is found
found-by : (b : Bool) (k n : ℕ) (r : Option ℕ) → b ≡ ltb k n → k ≤ n → r ≡ cond b (Some k) None → unwrap_or r n ≡ k
found-by true k n r e h q = rw q
found-by false k n r e h q = grind (arith, e, q)

-- a scan F that stops at the first element of which p holds
module _ (F : List ℕ → ℕ) (p : ℕ → Bool) (none : F [] ≡ 0) (more : (x : ℕ) (xs : List ℕ) → F (x ∷ xs) ≡ cond (p x) 0 (1 + F xs)) (xs : List ℕ) where
  scan_is : F xs ≡ position_or_len p xs
  scan_is = is_position_or_len F p none more xs

  pub found : (r : Option ℕ) → r ≡ cond (ltb (position_or_len p xs) (length xs)) (Some (position_or_len p xs)) None → (unwrap_or r (length xs) ≡ F xs) × (F xs ≤ length xs)
  found r e =
      let le : position_or_len p xs ≤ length xs = prefix_len-le-length (λ x. not (p x)) xs in
      (found-by (ltb (position_or_len p xs) (length xs)) (position_or_len p xs) (length xs) r refl le e ∙ sym scan_is, rw scan_is le)
