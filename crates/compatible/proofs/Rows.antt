-- What an array gives one after another, and what the slices of an array give in a row. They rely on what the library says of an
-- array's iterator and of `flatten`.
use Rattle.std.specs.Prelude.{Option, map}
use Rattle.std.specs.Option.{MatchOption}
use Rattle.std.specs.Iterator.{AlwaysYields}
use Rattle.std.proofs.lemmas.Iterator.{YieldsList}
use Prim.Native.Nat.{ℕ}
use native.Mathlib.Omega.{arith}
use lib.ListN.{length}
use mathlib.Core.Path.{◌≡◌, refl, sym, ap, ◌∙◌}
use mathlib.Core.Bool.{Bool, true, false, ◌&&◌}
use mathlib.Core.List.{List, [], ◌∷◌, append-nil, append_assoc}
use Rattle.std.specs.Borrow.{Bor}
use Rattle.std.specs.List.{zip, flat_map, list_all}
use Rattle.lists.specs.Lists.{equal}
use Rattle.compatible.specs.declared.walk.Pieces.{Pieces}
use Rattle.compatible.specs.private.Walk.{in_a_row, whole_of, same_each}

-- an iterator that gives the items it has left, as an array's does
module _ {S A B : Type 0} (items : S → List A) (v : A → B) where
  abbrev pub GivesFirst : S → Option A → S → Type 0
  GivesFirst s r t = MatchOption r ((length (items s) ≡ 0) × (t ≡ s)) (λ x. items s ≡ x ∷ items t)

  first_or : List A → A → A
  first_or [] d = d
  first_or (x ∷ xs) d = x

  rest : List A → List A
  rest [] = []
  rest (x ∷ xs) = xs

  same-first : {x y : A} {xs ys : List A} → x ∷ xs ≡ y ∷ ys → x ≡ y
  unfolding first_or
  same-first {x} e = ap (λ (l : List A). first_or l x) e

  same-rest : {x y : A} {xs ys : List A} → x ∷ xs ≡ y ∷ ys → xs ≡ ys
  unfolding rest
  same-rest e = ap rest e

  gives : (xs : List A) (s : S) → items s ≡ xs → AlwaysYields GivesFirst v s (map v xs)
  gives [] s e = λ x j k. absurd (let z = ap length (sym k ∙ e) in omega (arith, z))
  gives (y ∷ xs) s e = (λ j k. absurd (let z = ap length e in omega (arith, z, k.0)), λ x j k. (ap v (same-first (sym k ∙ e)), gives xs j (same-rest (sym k ∙ e))))

  pub YieldsList-from_items : {s : S} (xs : List A) → items s ≡ xs → YieldsList GivesFirst v s (map v xs)
  YieldsList-from_items {s} xs e = record { runs = gives xs s e }

-- pairs of pieces, each the same
pub each-of : (p q : Pieces) → list_all (λ (x : List ℕ × List ℕ). equal x.0 x.1) (zip (map (λ (r : Bor (List ℕ)). r.now) (in_a_row p)) (map (λ (r : Bor (List ℕ)). r.now) (in_a_row q))) ≡ same_each p q
each-of p q = ap (λ (b : Bool). equal p.first.now q.first.now && (equal p.first_end.now q.first_end.now && (equal p.second.now q.second.now && (equal p.second_end.now q.second_end.now && b)))) (at (equal p.last.now q.last.now))
  where
    at : (b : Bool) → (b && true) ≡ b
    at true = refl
    at false = refl

-- the bytes of the pieces in a row
pub bytes-of : (p : Pieces) → flat_map (λ (l : List ℕ). l) (map (λ (r : Bor (List ℕ)). r.now) (in_a_row p)) ≡ whole_of p
bytes-of p = rw (append-nil p.last.now, append_assoc, append_assoc, append_assoc) refl
