-- Laws of `ascending`, which lists numbers in order, each once. A list that rises is known by the numbers that are in it, so two
-- lists that have the same numbers are listed alike. They rely on the kit's laws of lists.
--     Rising, ascending-rises                    each number is above the one before it
--     has, has-ascending                         whether a number is in a list
--     rising_same, ascending_same                lists that have the same numbers
--     ascending-ascending, ascending-push        what is listed, listed again; one number more
--     rising-from, rising-append                 a list that rises from a number on; two, one above the other
--     inserted-last, inserted-behind             a number that is the last of a list, or above it
--     rising-at, has_at, has-take                the number at a place of a list that rises, and those before it
use Prim.Native.Nat.{ℕ, zero, suc, ◌+◌, ◌≤◌, ◌<◌}
use mathlib.Core.Path.{◌≡◌, refl, sym, ap, ◌∙◌}
use mathlib.Core.Logic.{⊎_elim}
use mathlib.Core.Bool.{Bool, true, false, false≢true, ◌&&◌, ◌||◌}
use mathlib.Core.List.{List, [], ◌∷◌, ◌++◌}
use native.Mathlib.Omega.{arith}
use lib.Dec.{eqb, ltb}
use lib.ListN.{length, get_or, take}
use borrow.Author.Tests.{lt-ltb, le-ltb, eq-eqb, ne_eqb}
use Rattle.std.specs.List.{list_any}
use Rattle.std.proofs.lemmas.Bool.{or_right}
use Rattle.std.proofs.lemmas.List.Folds.{list_any-append}
use Rattle.lists.proofs.Orders.{le-or-lt}
use Rattle.hashes.specs.Hashes.{inserted, ascending}

-- how two numbers stand to each other
data Order (a b : ℕ) : Type 0 where
  lower : a < b → Order a b
  same : a ≡ b → Order a b
  higher : b < a → Order a b

order : (a b : ℕ) → Order a b
order a b = ⊎_elim (λ h. ⊎_elim (λ k. same (omega arith)) (λ k. lower k) (le-or-lt b a)) (λ h. higher h) (le-or-lt a b)

-- one step, by how the number stands to the first
module _ (h x : ℕ) (xs : List ℕ) where
  inserted-low : h < x → inserted h (x ∷ xs) ≡ h ∷ x ∷ xs
  inserted-low p = rw (lt-ltb h x p)

  inserted_same : h ≡ x → inserted h (x ∷ xs) ≡ x ∷ xs
  inserted_same p = rw (le-ltb h x (omega arith), eq-eqb h x p)

  inserted-high : x < h → inserted h (x ∷ xs) ≡ x ∷ inserted h xs
  inserted-high p = rw (le-ltb h x (omega arith), ne_eqb h x (λ e. omega arith))

-- each is above the one before it, and the first is at or above b
abbrev pub Rising : ℕ → List ℕ → Type 0
Rising b [] = Unit
Rising b (x ∷ xs) = (b ≤ x) × Rising (x + 1) xs

rising-inserted : (b h : ℕ) (xs : List ℕ) → b ≤ h → Rising b xs → Rising b (inserted h xs)
rising-inserted b h [] k r = (k, tt)
rising-inserted b h (x ∷ t) k r = at (order h x) (λ q. rising-inserted (x + 1) h t q r.1)
  where
    at : Order h x → (x + 1 ≤ h → Rising (x + 1) (inserted h t)) → Rising b (inserted h (x ∷ t))
    at (lower p) e = rw (inserted-low h x t p) (k, (omega arith, r.1))
    at (same p) e = rw (inserted_same h x t p) r
    at (higher p) e = rw (inserted-high h x t p) (r.0, e (omega arith))

pub ascending-rises : (hs : List ℕ) → Rising 0 (ascending hs)
ascending-rises [] = tt
ascending-rises (h ∷ hs) = rising-inserted 0 h (ascending hs) (omega arith) (ascending-rises hs)

-- whether x is in the list
abbrev pub has : ℕ → List ℕ → Bool
has x ys = list_any (eqb x) ys

or-twice : (a b : Bool) → (a || b) ≡ (a || (a || b))
or-twice true b = refl
or-twice false b = refl

or-swapped : (a b c : Bool) → (a || (b || c)) ≡ (b || (a || c))
or-swapped true true c = refl
or-swapped true false c = refl
or-swapped false true c = refl
or-swapped false false c = refl

module _ (x h : ℕ) where
  has-inserted : (ys : List ℕ) → has x (inserted h ys) ≡ (eqb x h || has x ys)
  has-inserted [] = refl
  has-inserted (y ∷ ys) = at (order h y) (has-inserted ys)
    where
      at : Order h y → has x (inserted h ys) ≡ (eqb x h || has x ys) → has x (inserted h (y ∷ ys)) ≡ (eqb x h || (eqb x y || has x ys))
      at (lower p) e = ap (has x) (inserted-low h y ys p)
      at (same p) e = ap (has x) (inserted_same h y ys p) ∙ rw p (or-twice (eqb x y) (has x ys))
      at (higher p) e = ap (has x) (inserted-high h y ys p) ∙ ap (λ (t : Bool). eqb x y || t) e ∙ or-swapped (eqb x y) (eqb x h) (has x ys)

pub has-ascending : (x : ℕ) (hs : List ℕ) → has x (ascending hs) ≡ has x hs
has-ascending x [] = refl
has-ascending x (h ∷ hs) = has-inserted x h (ascending hs) ∙ ap (λ (t : Bool). eqb x h || t) (has-ascending x hs)

-- nothing is below the first
has-below : (z b : ℕ) (xs : List ℕ) → Rising b xs → z < b → has z xs ≡ false
has-below z b [] r h = refl
has-below z b (x ∷ xs) r h = rw (ne_eqb z x (λ e. omega (arith, r.0))) (has-below z (x + 1) xs r.1 (omega (arith, r.0)))

has_first : (x : ℕ) (xs : List ℕ) → has x (x ∷ xs) ≡ true
has_first x xs = rw (eq-eqb x x refl)

rising-lower : (a b : ℕ) (xs : List ℕ) → a ≤ b → Rising b xs → Rising a xs
rising-lower a b [] h r = tt
rising-lower a b (x ∷ xs) h r = (omega (arith, r.0), r.1)

-- lists that rise and have the same numbers
pub rising_same : (b c : ℕ) (xs ys : List ℕ) → Rising b xs → Rising c ys → ((z : ℕ) → has z xs ≡ has z ys) → xs ≡ ys
rising_same b c [] [] r s e = refl
rising_same b c [] (y ∷ ys) r s e = absurd (false≢true (e y ∙ has_first y ys))
rising_same b c (x ∷ xs) [] r s e = absurd (false≢true (sym (e x) ∙ has_first x xs))
rising_same b c (x ∷ xs) (y ∷ ys) r s e = at (order x y) (rising_same (x + 1) (y + 1) xs ys r.1 s.1)
  where
    rest : x ≡ y → (z : ℕ) → has z xs ≡ has z ys
    rest p z = which (order z x)
      where
        which : Order z x → has z xs ≡ has z ys
        which (lower q) = has-below z (x + 1) xs r.1 (omega arith) ∙ sym (has-below z (y + 1) ys s.1 (omega arith))
        which (same q) = has-below z (x + 1) xs r.1 (omega arith) ∙ sym (has-below z (y + 1) ys s.1 (omega arith))
        which (higher q) = rw (ne_eqb z x (λ k. omega arith), ne_eqb z y (λ k. omega arith)) at (e z)

    at : Order x y → (((z : ℕ) → has z xs ≡ has z ys) → xs ≡ ys) → x ∷ xs ≡ y ∷ ys
    at (lower p) f = absurd (false≢true (sym (has-below x y (y ∷ ys) (omega arith, s.1) p) ∙ sym (e x) ∙ has_first x xs))
    at (same p) f = cc (p, f (rest p))
    at (higher p) f = absurd (false≢true (sym (has-below y x (x ∷ xs) (omega arith, r.1) p) ∙ e y ∙ has_first y ys))

pub ascending_same : (xs ys : List ℕ) → ((z : ℕ) → has z xs ≡ has z ys) → ascending xs ≡ ascending ys
ascending_same xs ys e =
    rising_same 0 0 (ascending xs) (ascending ys) (ascending-rises xs) (ascending-rises ys) (λ z. has-ascending z xs ∙ e z ∙ sym (has-ascending z ys))

pub ascending-rising : (b : ℕ) (xs : List ℕ) → Rising b xs → ascending xs ≡ xs
ascending-rising b xs r = rising_same 0 b (ascending xs) xs (ascending-rises xs) r (λ z. has-ascending z xs)

pub ascending-ascending : (xs : List ℕ) → ascending (ascending xs) ≡ ascending xs
ascending-ascending xs = ascending-rising 0 (ascending xs) (ascending-rises xs)

pub ascending-push : (xs : List ℕ) (h : ℕ) → ascending (xs ++ (h ∷ [])) ≡ inserted h (ascending xs)
ascending-push xs h = ascending_same (xs ++ (h ∷ [])) (h ∷ xs) (λ z. list_any-append (eqb z) xs (h ∷ []) ∙ turned (has z xs) (eqb z h))
  where
    turned : (a b : Bool) → (a || (b || false)) ≡ (b || a)
    turned true true = refl
    turned true false = refl
    turned false true = refl
    turned false false = refl

-- a list that rises from b on, as all its numbers do; two such lists, one above the other
pub rising-from : (b : ℕ) (xs : List ℕ) → Rising 0 xs → ((z : ℕ) → has z xs ≡ true → b ≤ z) → Rising b xs
rising-from b [] r f = tt
rising-from b (x ∷ xs) r f = (f x (has_first x xs), r.1)

pub rising-append : (a b : ℕ) (xs ys : List ℕ) → a ≤ b → Rising a xs → ((z : ℕ) → has z xs ≡ true → z < b) → Rising b ys → Rising a (xs ++ ys)
rising-append a b [] ys h r f s = rising-lower a b ys h s
rising-append a b (x ∷ xs) ys h r f s =
    let k : x < b = f x (has_first x xs) in
    (r.0, rising-append (x + 1) b xs ys (omega arith) r.1 (λ z q. f z (or_right (eqb z x) (has z xs) q)) s)

-- the one at place k is k above the first, or more
pub rising-at : (b : ℕ) (xs : List ℕ) (k : ℕ) → Rising b xs → k < length xs → b + k ≤ get_or xs k 0
rising-at b [] k r h = absurd (omega arith)
rising-at b (x ∷ xs) zero r h = omega (arith, r.0)
rising-at b (x ∷ xs) (suc k) r h = omega (arith, r.0, rising-at (x + 1) xs k r.1 (omega arith))

-- a number that is the last already, or above the last, which stands at place k
module _ (h : ℕ) where
  pub inserted-last : (b : ℕ) (xs : List ℕ) (k : ℕ) → Rising b xs → length xs ≡ suc k → get_or xs k 0 ≡ h → inserted h xs ≡ xs
  inserted-last b [] k r l e = absurd (omega arith)
  inserted-last b (x ∷ []) zero r l e = inserted_same h x [] (sym e)
  inserted-last b (x ∷ []) (suc k) r l e = absurd (omega arith)
  inserted-last b (x ∷ y ∷ ys) zero r l e = absurd (omega arith)
  inserted-last b (x ∷ y ∷ ys) (suc k) r l e =
      inserted-high h x (y ∷ ys) (omega (arith, rising-at (x + 1) (y ∷ ys) k r.1 (omega arith)))
      ∙ ap (λ (l : List ℕ). x ∷ l) (inserted-last (x + 1) (y ∷ ys) k r.1 (omega arith) e)

  pub inserted-behind : (b : ℕ) (xs : List ℕ) → Rising b xs → ((k : ℕ) → length xs ≡ suc k → get_or xs k 0 < h) → inserted h xs ≡ xs ++ (h ∷ [])
  inserted-behind b [] r f = refl
  inserted-behind b (x ∷ []) r f = inserted-high h x [] (f 0 refl)
  inserted-behind b (x ∷ y ∷ ys) r f =
      let w = f (suc (length ys)) refl in
      inserted-high h x (y ∷ ys) (omega (arith, rising-at (x + 1) (y ∷ ys) (length ys) r.1 (omega arith)))
      ∙ ap (λ (l : List ℕ). x ∷ l) (inserted-behind (x + 1) (y ∷ ys) r.1 (λ k e. f (suc k) (omega arith)))

-- the number at a place is in the list
pub has_at : (xs : List ℕ) (k : ℕ) → k < length xs → has (get_or xs k 0) xs ≡ true
has_at [] k h = absurd (omega arith)
has_at (x ∷ xs) zero h = has_first x xs
has_at (x ∷ xs) (suc k) h = or_right (eqb (get_or xs k 0) x) (has (get_or xs k 0) xs) (has_at xs k (omega arith))

-- the first k of a list that rises are those below the one at place k
pub has-take : (z b : ℕ) (xs : List ℕ) (k : ℕ) → Rising b xs → k < length xs → has z (take k xs) ≡ (has z xs && ltb z (get_or xs k 0))
has-take z b [] k r h = absurd (omega arith)
has-take z b (x ∷ xs) zero r h = at (order z x)
  where
    never : (a : Bool) → false ≡ (a && false)
    never true = refl
    never false = refl

    at : Order z x → false ≡ (has z (x ∷ xs) && ltb z x)
    at (lower p) = rw (has-below z x (x ∷ xs) (omega arith, r.1) p)
    at (same p) = rw (le-ltb z x (omega arith)) (never (has z (x ∷ xs)))
    at (higher p) = rw (le-ltb z x (omega arith)) (never (has z (x ∷ xs)))
has-take z b (x ∷ xs) (suc k) r h = at (order z x) (has-take z (x + 1) xs k r.1 (omega arith))
  where
    at : Order z x → has z (take k xs) ≡ (has z xs && ltb z (get_or xs k 0)) → (eqb z x || has z (take k xs)) ≡ ((eqb z x || has z xs) && ltb z (get_or xs k 0))
    at (lower p) e = rw (ne_eqb z x (λ q. omega arith)) e
    at (same p) e = rw (eq-eqb z x p, lt-ltb z (get_or xs k 0) (omega (arith, rising-at (x + 1) xs k r.1 (omega arith))))
    at (higher p) e = rw (ne_eqb z x (λ q. omega arith)) e
