-- Small laws on lists of files and tables by place: what holds of each file of a list and where the files lie, sums by place, and tables
-- without one of their places. They rely on the laws of sums in `lists` and of tables in `tables`.
use mathlib.Core.Path.{◌≡◌, refl, sym, ap, subst, ◌∙◌}
use mathlib.Core.List.{List, [], ◌∷◌, ◌++◌, map}
use mathlib.Core.Logic.{◌⊎◌, inl, inr}
use Prim.Native.Nat.{ℕ, zero, suc, ◌+◌, ◌-◌, ◌≤◌, ◌<◌}
use native.Mathlib.Nat.{add-zero, add_assoc}
use native.Mathlib.Omega.{arith}
use lib.ListN.{length, get_or, take, drop}
use Rattle.lists.specs.Lists.{sum}
use Rattle.lists.proofs.Sums.{sum-take-drop, sum-take-more}
use Rattle.lists.proofs.Orders.{le-or-lt}
use Rattle.tables.specs.Rows.{skip}
use Rattle.tables.specs.Model.{File, tabled}
use Rattle.tables.proofs.Tabled.{get_or-tabled, tabled-same}
use Rattle.trim.specs.Trim.{beginning_at, size_at}
use Rattle.sound.specs.Sound.{sum_to}
use Rattle.sound.specs.Documents.{Each, none, more}
use Rattle.sound.proofs.Common.{sum_same}

module _ {A B : Type 0} (g : A → B) where
  pub map-take : (n : ℕ) (l : List A) → map g (take n l) ≡ take n (map g l)
  map-take zero l = refl
  map-take (suc n) [] = refl
  map-take (suc n) (x ∷ l) = ap (λ (r : List B). g x ∷ r) (map-take n l)

  pub map-drop : (n : ℕ) (l : List A) → map g (drop n l) ≡ drop n (map g l)
  map-drop zero l = refl
  map-drop (suc n) [] = refl
  map-drop (suc n) (x ∷ l) = map-drop n l

-- what holds of each file
module _ {P : File → Type 0} where
  pub each_append : {fs gs : List File} → Each P fs → Each P gs → Each P (fs ++ gs)
  each_append none q = q
  each_append (more p ps) q = more p (each_append ps q)

  pub each-front : (fs gs : List File) → Each P (fs ++ gs) → Each P fs
  each-front [] gs p = none
  each-front (f ∷ fs) gs (more p ps) = more p (each-front fs gs ps)

  pub each_take : {fs : List File} (n : ℕ) → Each P fs → Each P (take n fs)
  each_take zero p = none
  each_take (suc n) none = none
  each_take (suc n) (more p ps) = more p (each_take n ps)

  pub each-drop : {fs : List File} (n : ℕ) → Each P fs → Each P (drop n fs)
  each-drop zero p = p
  each-drop (suc n) none = none
  each-drop (suc n) (more p ps) = each-drop n ps

  pub each_map : (g : File → File) → ((f : File) → P f → P (g f)) → {fs : List File} → Each P fs → Each P (map g fs)
  each_map g h none = none
  each_map g h (more {f} p ps) = more (h f p) (each_map g h ps)

  pub each-unmap : (g : File → File) → ((f : File) → P (g f) → P f) → (fs : List File) → Each P (map g fs) → Each P fs
  each-unmap g h [] p = none
  each-unmap g h (f ∷ fs) (more p ps) = more (h f p) (each-unmap g h fs ps)

abbrev pub sizes_of : List File → List ℕ
sizes_of fs = map (λ (f : File). f.size) fs

-- files end to end from place o on
pub data Laid : ℕ → List File → Type 0 where
  done : {o : ℕ} → Laid o []
  next : {o : ℕ} {f : File} {fs : List File} → f.offset ≡ o → Laid (o + f.size) fs → Laid o (f ∷ fs)

pub laid-append : {o : ℕ} {fs : List File} (gs : List File) → Laid o fs → Laid (o + sum (sizes_of fs)) gs → Laid o (fs ++ gs)
laid-append gs (done {o}) q = rw (add-zero o) at q
laid-append gs (next {o} {f} {fs} e p) q =
    next e (laid-append gs p (rw (add_assoc o f.size (sum (sizes_of fs))) q))

pub laid-take : {o : ℕ} {fs : List File} (n : ℕ) → Laid o fs → Laid o (take n fs)
laid-take zero p = done
laid-take (suc n) done = done
laid-take {o = o} (suc n) (next {f = f} {fs = fs} e p) = next e (laid-take {o = o + f.size} n p)

-- files that lie and are as long as those
pub laid-map : (g : File → File) → ((f : File) → (g f).offset ≡ f.offset) → ((f : File) → (g f).size ≡ f.size) → {o : ℕ} {fs : List File} → Laid o fs → Laid o (map g fs)
laid-map g a b done = done
laid-map g a b (next {o} {f} {fs} e p) = next (a f ∙ e) (subst (λ (n : ℕ). Laid (o + n) (map g fs)) (sym (b f)) (laid-map g a b p))

-- empty files all begin where the first does
pub laid-empty : (o : ℕ) (fs : List File) → ((k : ℕ) → size_at k fs ≡ 0) → Laid o (map (beginning_at o) fs)
laid-empty o [] z = done
laid-empty o (f ∷ fs) z =
    let e : o + f.size ≡ o = omega (arith, z 0) in
    let p : Laid (o + f.size) (map (beginning_at o) fs) = rw e (laid-empty o fs (λ k. z (suc k))) in
    next refl p

pub laid-offset : {o : ℕ} {fs : List File} → Laid o fs → (k : ℕ) → k < length fs → get_or (map (λ (f : File). f.offset) fs) k 0 ≡ o + sum (take k (sizes_of fs))
laid-offset done k h = absurd (omega arith)
laid-offset (next e p) zero h = omega arith
laid-offset (next {o} {f} {fs} e p) (suc k) h = omega (arith, laid-offset p k (omega arith))

pub sum-zero : (xs : List ℕ) → ((k : ℕ) → get_or xs k 0 ≡ 0) → sum xs ≡ 0
sum-zero [] z = refl
sum-zero (x ∷ xs) z = omega (arith, z 0, sum-zero xs (λ k. z (suc k)))

-- a sum without one of its elements
pub sum-except : (xs : List ℕ) (f : ℕ) → sum (take f xs) + sum (drop (f + 1) xs) + get_or xs f 0 ≡ sum xs
sum-except xs f = omega (arith, sum-take-drop xs (f + 1), sum-take-more xs f)

-- ---- sums by place

-- one place left out
pub sum-skip : (n f : ℕ) (w : ℕ → ℕ) → f < n → sum_to (n - 1) (λ k. w (skip f k)) + w f ≡ sum_to n w
unfolding sum_to
sum-skip zero f w h = absurd (omega arith)
sum-skip (suc n) f w h = at (le-or-lt n f) (sum-skip n f w)
  where
    front : (k : ℕ) → k < n → n ≤ f → skip f k ≡ k
    front k b g = omega arith

    at : (n ≤ f) ⊎ (f < n) → (f < n → sum_to (n - 1) (λ k. w (skip f k)) + w f ≡ sum_to n w) → sum_to (suc n - 1) (λ k. w (skip f k)) + w f ≡ sum_to (suc n) w
    at (inl g) ih =
        let e : suc n - 1 ≡ n = omega arith in
        let q : f ≡ n = omega arith in
        rw e (omega (arith, ap w q, sum_same n (λ k. w (skip f k)) w (λ k b. ap w (front k b g))))
    at (inr g) ih =
        let e : suc n - 1 ≡ suc (n - 1) = omega arith in
        let q : skip f (n - 1) ≡ n = omega arith in
        rw e (omega (arith, ap w q, ih g))

-- nothing behind place n
pub sum-tail : (n m : ℕ) (w : ℕ → ℕ) → ((k : ℕ) → n ≤ k → k < n + m → w k ≡ 0) → sum_to (n + m) w ≡ sum_to n w
unfolding sum_to
sum-tail n zero w e = let q : n + 0 ≡ n = omega arith in rw q
sum-tail n (suc m) w e = more (sum-tail n m w (λ k a b. e k a (omega arith)))
  where
    more : sum_to (n + m) w ≡ sum_to n w → sum_to (n + suc m) w ≡ sum_to n w
    more ih = let q : n + suc m ≡ suc (n + m) = omega arith in rw q (omega (arith, ih, e (n + m) (omega arith) (omega arith)))

-- ---- tables by place

module _ {A B : Type 0} (q : A → B) where
  pub map-tabled : (n : ℕ) (g : ℕ → A) → map q (tabled n g) ≡ tabled n (λ k. q (g k))
  unfolding tabled
  map-tabled zero g = refl
  map-tabled (suc n) g = ap (λ (l : List B). q (g 0) ∷ l) (map-tabled n (λ k. g (suc k)))

-- a number of an entry
pub number-tabled : {A : Type 0} (v : A → ℕ) (n : ℕ) (g : ℕ → A) (k : ℕ) → k < n → get_or (map v (tabled n g)) k 0 ≡ v (g k)
number-tabled v n g k h = ap (λ (xs : List ℕ). get_or xs k 0) (map-tabled v n g) ∙ get_or-tabled n (λ j. v (g j)) k 0 h

-- a table without place f, whose entries behind it change
pub tabled-except : {A : Type 0} (q : A → A) (n f : ℕ) (g h : ℕ → A) → f < n → ((k : ℕ) → k < f → h k ≡ g k) → ((k : ℕ) → f ≤ k → k < n - 1 → h k ≡ q (g (suc k)))
    → tabled (n - 1) h ≡ take f (tabled n g) ++ map q (drop (f + 1) (tabled n g))
unfolding tabled
tabled-except q zero f g h b x y = absurd (omega arith)
tabled-except q (suc n) zero g h b x y =
    let e : suc n - 1 ≡ n = omega arith in
    rw e (tabled-same n h (λ k. q (g (suc k))) (λ k c. y k (omega arith) (omega arith)) ∙ sym (map-tabled q n (λ k. g (suc k))))
tabled-except {A} q (suc n) (suc f) g h b x y =
    let e : suc n - 1 ≡ suc (n - 1) = omega arith in
    let p : suc f + 1 ≡ suc (f + 1) = omega arith in
    rw (e, p, x 0 (omega arith))
    (ap (λ (l : List A). g 0 ∷ l) (tabled-except q n f (λ k. g (suc k)) (λ k. h (suc k)) (omega arith) (λ k c. x (suc k) (omega arith)) (λ k c d. y (suc k) (omega arith) (omega arith))))
