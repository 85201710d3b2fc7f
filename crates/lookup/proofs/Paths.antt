-- Laws of the tests on parts of paths: a directory against a path, a join compared part by part, and a name
-- at a path's end. They rely on the kit's laws of lists and the laws of `path` and `lists`.
use Prim.Native.Nat.{ℕ, suc, ◌+◌, ◌-◌, ◌<◌, ◌≤◌}
use mathlib.Core.Path.{◌≡◌, refl, sym, ap, ◌∙◌}
use mathlib.Core.Bool.{Bool, true, false, cond, true≢false, ◌&&◌, ◌||◌}
use mathlib.Core.List.{List, [], ◌∷◌, ◌++◌, append-nil, append_assoc, reverse, reverse-append, reverse-reverse}
use native.Mathlib.Omega.{arith}
use lib.Dec.{eqb}
use lib.ListN.{length, length-append, length-drop, length-reverse, get_or, take, drop, take-append-drop}
use lib.Seq.{drop-append_seam}
use borrow.Author.Tests.{le-leb, eq-eqb, ne_eqb, eqb-true}
use Rattle.std.specs.Bool.{Decides}
use Rattle.std.specs.Cmp.Lexicographic.{pointwise}
use Rattle.std.specs.List.{starts_with, zip}
use Rattle.lists.specs.Lists.{equal}
use Rattle.lists.proofs.Equality.{equal-refl, equal-true, equal-length, equal-same, pointwise-equal}
use Rattle.path.specs.Join.{is_alone, is_closed, appended}
use Rattle.path.proofs.Joins.{some_bytes, kept as kept_of, between, parts}
use Rattle.lookup.specs.Lookup.{covers, ends_with}

-- ---- a directory and a path

-- a path longer than the directory is not covered
pub covers_short : (d p : List ℕ) → length d < length p → false ≡ covers d p
covers_short [] [] h = absurd (omega arith)
covers_short [] (y ∷ p) h = refl
covers_short (x ∷ d) [] h = absurd (omega arith)
covers_short (x ∷ d) (y ∷ p) h = go (eqb x y) (covers_short d p (omega arith))
  where
    go : (t : Bool) → false ≡ covers d p → false ≡ cond t (covers d p) false
    go true k = k
    go false k = refl

-- the library's test of a list's start decides, and what stands behind that start
flip : (x y : ℕ) → eqb y x ≡ eqb x y
flip x y = at (eqb x y) refl
  where
    at : (t : Bool) → eqb x y ≡ t → eqb y x ≡ t
    at true e = eq-eqb y x (sym (eqb-true x y e))
    at false e = ne_eqb y x (λ q. true≢false (sym (eq-eqb x y (sym q)) ∙ e))

same-next : (m n : ℕ) → eqb m n ≡ eqb (suc m) (suc n)
same-next m n = at (eqb m n) refl
  where
    at : (t : Bool) → eqb m n ≡ t → t ≡ eqb (suc m) (suc n)
    at true e = let q = eqb-true m n e in sym (eq-eqb (suc m) (suc n) (omega arith))
    at false e = sym (ne_eqb (suc m) (suc n) (λ q. true≢false (sym (eq-eqb m n (omega arith)) ∙ e)))

pub covers_starts : (d p : List ℕ) → covers d p ≡ (starts_with eqb d p && (eqb (length d) (length p) || eqb (get_or d (length p) 0) 47))
covers_starts [] [] = refl
covers_starts [] (y ∷ p) = refl
covers_starts (x ∷ d) [] = rw (ne_eqb (suc (length d)) 0 (λ e. omega arith))
covers_starts (x ∷ d) (y ∷ p) = rw (flip x y, ← same-next (length d) (length p)) (go (eqb x y) (covers_starts d p))
  where
    go : (t : Bool) → covers d p ≡ (starts_with eqb d p && (eqb (length d) (length p) || eqb (get_or d (length p) 0) 47))
        → cond t (covers d p) false ≡ ((t && starts_with eqb d p) && (eqb (length d) (length p) || eqb (get_or d (length p) 0) 47))
    go true k = k
    go false k = refl

-- ---- a join

-- lists that end alike are the same where what stands before their ends is
equal-before : (x y n : List ℕ) → equal (x ++ n) (y ++ n) ≡ equal x y
equal-before [] [] n = equal-refl n
equal-before [] (b ∷ y) n = equal-length n (b ∷ (y ++ n)) (λ e. omega (arith, length-append y n))
equal-before (a ∷ x) [] n = equal-length (a ∷ (x ++ n)) n (λ e. omega (arith, length-append x n))
equal-before (a ∷ x) (b ∷ y) n = ap (λ (t : Bool). cond (eqb a b) t false) (equal-before x y n)

-- a list that lacks an end is none that has it
module _ (x n p : List ℕ) where
  abbrev end_of : List ℕ → List ℕ
  end_of l = drop (length l - length n) l

  lacks-end : pointwise eqb (end_of p) n ≡ false → equal (x ++ n) p ≡ false
  lacks-end h = at (equal (x ++ n) p) refl
    where
      seam : end_of (x ++ n) ≡ n
      seam = ap (λ (k : ℕ). drop k (x ++ n)) (omega (arith, length-append x n)) ∙ drop-append_seam x n

      at : (t : Bool) → equal (x ++ n) p ≡ t → t ≡ false
      at true e = absurd (true≢false (sym (equal-same (end_of p) n (sym (ap end_of (equal-true (x ++ n) p e)) ∙ seam)) ∙ sym (pointwise-equal (end_of p) n) ∙ h))
      at false e = refl

-- what stands before an end that is there
has-end : (n p f : List ℕ) → pointwise eqb (drop (length p - length n) p) n ≡ true → f ≡ take (length p - length n) p → p ≡ f ++ n
has-end n p f h e =
    let end = drop (length p - length n) p in
    sym (take-append-drop (length p - length n) p) ∙ cc (e, equal-true end n (sym (pointwise-equal end n) ∙ h))

-- a join by its parts, the last of them first
module _ (d name p : List ℕ) {kept separator : List ℕ} (h : kept ≡ kept_of d name) (g : separator ≡ between d name) where
  joined-is : (kept ++ separator) ++ name ≡ appended d name
  joined-is = append_assoc kept separator name ∙ cc (h, g) ∙ parts d name

  pub joins-not : pointwise eqb (drop (length p - length name) p) name ≡ false → false ≡ equal (appended d name) p
  joins-not e = sym (sym (ap (λ (l : List ℕ). equal l p) joined-is) ∙ lacks-end (kept ++ separator) name p e)

  module _ (front : List ℕ) (e : pointwise eqb (drop (length p - length name) p) name ≡ true) (q : front ≡ take (length p - length name) p) where
    before-name : equal (kept ++ separator) front ≡ equal (appended d name) p
    before-name =
        sym (equal-before (kept ++ separator) front name)
        ∙ cc (joined-is, has-end name p front e q)

    pub joins-apart : pointwise eqb (drop (length front - length separator) front) separator ≡ false → false ≡ equal (appended d name) p
    joins-apart g = sym (lacks-end kept separator front g) ∙ before-name

    pub joins-on : (branch : List ℕ) → pointwise eqb (drop (length front - length separator) front) separator ≡ true → branch ≡ take (length front - length separator) front
        → equal kept branch ≡ equal (appended d name) p
    joins-on branch g r = sym (equal-before kept branch separator) ∙ ap (equal (kept ++ separator)) (sym (has-end separator front branch g r)) ∙ before-name

-- ---- a name at a path's end

-- pairs go as far as the first list
zip-front : (xs ys zs : List ℕ) → length xs ≡ length ys → zip xs (ys ++ zs) ≡ zip xs ys
zip-front [] ys zs e = refl
zip-front (x ∷ xs) [] zs e = absurd (omega arith)
zip-front (x ∷ xs) (y ∷ ys) zs e = ap (λ (l : List (ℕ × ℕ)). (x, y) ∷ l) (zip-front xs ys zs (omega arith))

-- the end of p decides, where it has the name's length
module _ (n p : List ℕ) (h : length n ≤ length p) where
  ends_by : equal n (drop (length p - length n) p) ≡ ends_with n p
  ends_by = rw (le-leb (length n) (length p) h)

  pub ends_same : n ≡ drop (length p - length n) p → true ≡ ends_with n p
  ends_same e = sym (equal-same n (drop (length p - length n) p) e) ∙ ends_by

  -- compared from the back, as far as the name goes
  abbrev pub end : List ℕ
  end = drop (length p - length n) p

  pub back-long : length (reverse n) ≡ length (reverse end)
  back-long = length-reverse n ∙ omega (arith, length-drop (length p - length n) p, length-reverse end)

  pub back-zip : zip (reverse n) (reverse p) ≡ zip (reverse n) (reverse end)
  back-zip =
      let front = take (length p - length n) p in
      ap (λ (l : List ℕ). zip (reverse n) (reverse l)) (sym (take-append-drop (length p - length n) p))
      ∙ ap (zip (reverse n)) (reverse-append front end)
      ∙ zip-front (reverse n) (reverse end) (reverse front) back-long

  pub ends-back : (r : Bool) → Decides r (reverse n ≡ reverse end) → r ≡ ends_with n p
  ends-back true d = ends_same (sym (reverse-reverse n) ∙ ap reverse (d.0 refl) ∙ reverse-reverse end)
  ends-back false d = at (equal n end) refl ∙ ends_by
    where
      at : (b : Bool) → equal n end ≡ b → false ≡ equal n end
      at true e = absurd (true≢false (sym (d.1 (ap reverse (equal-true n end e)))))
      at false e = sym e

-- a list that ends in n
ends-append : (x n : List ℕ) → ends_with n (x ++ n) ≡ true
ends-append x n =
    let l : length (x ++ n) ≡ length x + length n = length-append x n in
    let m : length (x ++ n) - length n ≡ length x = omega (arith, l) in
    sym (ends_same n (x ++ n) (omega (arith, l)) (sym (drop-append_seam x n) ∙ ap (λ (i : ℕ). drop i (x ++ n)) (sym m)))

-- so a join with a name that p does not end with is not p
module _ (n p : List ℕ) (h : ends_with n p ≡ false) where
  not-append : (x : List ℕ) → x ++ n ≡ p → ⊥
  not-append x e = true≢false (sym (ends-append x n) ∙ ap (ends_with n) e ∙ h)

  not-joined : (x : List ℕ) → equal (x ++ n) p ≡ false
  not-joined x = at (equal (x ++ n) p) refl
    where
      at : (t : Bool) → equal (x ++ n) p ≡ t → t ≡ false
      at true e = absurd (not-append x (equal-true (x ++ n) p e))
      at false e = refl

  some-name : length n ≡ 0 → ⊥
  some-name e = not-append p (append-none n e)
    where
      append-none : (y : List ℕ) → length y ≡ 0 → p ++ y ≡ p
      append-none [] q = append-nil p
      append-none (c ∷ t) q = absurd (omega arith)

  pub ends-joined : (d : List ℕ) → equal (appended d n) p ≡ false
  ends-joined d = rw (some_bytes n some-name) (go (is_alone d) (is_closed d))
    where
      go : (t u : Bool) → equal (cond t n (d ++ cond u n (47 ∷ n))) p ≡ false
      go true u = not-joined []
      go false true = not-joined d
      go false false = rw (sym (append_assoc d (47 ∷ []) n)) (not-joined (d ++ 47 ∷ []))
