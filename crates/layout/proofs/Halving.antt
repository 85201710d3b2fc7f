-- Laws of the search by halving, and what it finds on ascending offsets: the last file whose offset is at or before the
-- target. They rely on nothing else.
--     reach_some, reach_mono   how many rows steps tell apart
--     split                what is left on either side of a step
--     idle, enough         steps that go nowhere, and how many steps are enough
--     within               the place found is among the n
--     steps-find           where the offsets ascend, the steps find the last file at or before the target
--     found-is             the steps find the file, whatever the rows hold
--     found-last, found_below, found_in   the file found
use Rattle.std.proofs.Common.{◌≡◌, ℕ, zero, suc, ◌+◌, ◌-◌, ◌^◌, ◌<◌, ◌≤◌, min, Bool, true, false, cond, ltb, leb, List, sym, refl, ap, ◌∙◌, subst, true≢false, add-one, arith, pow_pos, pow_mono, ltb-false, ltb-true, leb-false, leb-true}
use native.Mathlib.Nat.{two-pow-succ}
use borrow.Author.Tests.{lt-leb}
use Rattle.tables.specs.Rows.{row_at}
use Rattle.layout.specs.Search.{offset_at, ascend, last_at_or_before, file_found}
use Rattle.layout.specs.Steps.{reach, stride, moved, halved}

-- j steps tell at least one row apart, and one step more at most twice as many
pub reach_some : (j : ℕ) → 0 < reach j
reach_some j = omega (arith, pow_pos j)

reach-next : (j : ℕ) → (reach j ≤ reach (j + 1)) × (reach (j + 1) ≤ reach j + reach j)
reach-next j =
    let e : 2 ^ (j + 1) ≡ 2 ^ j + 2 ^ j = ap (λ (i : ℕ). 2 ^ i) (add-one j) ∙ two-pow-succ j in
    (omega arith, omega arith)

pub reach_mono : (i j : ℕ) → i ≤ j → reach i ≤ reach j
reach_mono i j h = let p : 2 ^ i ≤ 2 ^ j = pow_mono h in omega arith

-- n steps are enough for n rows
below : (n : ℕ) → n < 2 ^ n
below zero = omega arith
below (suc n) = omega (arith, below n, two-pow-succ n)

pub enough : (n : ℕ) → n ≤ reach n
enough zero = omega arith
enough (suc n) = omega (arith, below n, two-pow-succ n)

-- a step among n places of which those from b on are left: before it `more` were told apart, after it `most` are
module _ (n most more b : ℕ) (k : most ≤ more) (l : more ≤ most + most) (h : b + min n more ≤ n) where
  up : b + min (more - most) (n - most) + min n most ≤ n
  up = omega arith

  down : b + min n most ≤ n
  down = omega arith

  over : b + min n more ≤ b + min (more - most) (n - most) + min n most
  over = omega arith

  under : b + min (more - most) (n - most) ≤ b + min n most
  under = omega arith

none : (n most more : ℕ) → n ≤ most → min (more - most) (n - most) ≡ 0
none n most more h = omega arith

-- what is left after step j, where it is made and where not; together these are what was left, and the step passes none
pub record Split (n j b : ℕ) : Type 0 where
  pub up : b + stride n j + min n (reach j) ≤ n
  pub down : b + min n (reach j) ≤ n
  pub over : b + min n (reach (suc j)) ≤ b + stride n j + min n (reach j)
  pub under : b + stride n j ≤ b + min n (reach j)

pub split : (n j b : ℕ) → b + min n (reach (j + 1)) ≤ n → Split n j b
split n j b h =
    let q = reach-next j in
    record {
      up = up n (reach j) (reach (j + 1)) b q.0 q.1 h;
      down = down n (reach j) (reach (j + 1)) b q.0 q.1 h;
      over = subst (λ x. b + min n (reach x) ≤ b + stride n j + min n (reach j)) (add-one j) (over n (reach j) (reach (j + 1)) b q.0 q.1 h);
      under = under n (reach j) (reach (j + 1)) b q.0 q.1 h;
    }

module _ (f : ℕ → ℕ) (t n : ℕ) where
  stays : (b s : ℕ) → s ≡ 0 → moved f t b s ≡ b
  stays b s e = by (leb (f (b + s)) t)
    where
      by : (x : Bool) → cond x (b + s) b ≡ b
      by true = omega arith
      by false = refl

  -- steps after which more places would be left than there are
  pub idle : (i d b : ℕ) → n ≤ reach i → halved (i + d) f t n b ≡ halved i f t n b
  unfolding halved
  idle i zero b h = let e : i + 0 ≡ i = omega arith in rw e
  idle i (suc d) b h =
      let e : i + suc d ≡ suc (i + d) = omega arith in
      let z : stride n (i + d) ≡ 0 = none n (reach (i + d)) (reach (i + d + 1)) (omega (arith, h, reach_mono i (i + d) (omega arith))) in
      rw e (ap (halved (i + d) f t n) (stays b (stride n (i + d)) z) ∙ idle i d b h)

  pub within : (j b : ℕ) → b + min n (reach j) ≤ n → halved j f t n b + min n 1 ≤ n
  unfolding halved
  within zero b h = h
  within (suc j) b h = by (leb (f (b + stride n j)) t) (within j)
    where
      by : (x : Bool) → ((b : ℕ) → b + min n (reach j) ≤ n → halved j f t n b + min n 1 ≤ n) → halved j f t n (cond x (b + stride n j) b) + min n 1 ≤ n
      by true ih = ih (b + stride n j) (split n j b (rw (add-one j) h)).up
      by false ih = ih b (split n j b (rw (add-one j) h)).down

pub through : {x y z : ℕ} → x ≤ y → y ≤ z → x ≤ z
through h k = omega arith

beyond : {x y z : ℕ} → x < y → y ≤ z → x < z
beyond h k = omega arith

-- the last of n values that is at or below t, at place k
pub record Lowest (f : ℕ → ℕ) (t n k : ℕ) : Type 0 where
  pub among : k < n
  pub low : f k ≤ t
  pub high : (i : ℕ) → k < i → i < n → t < f i

module _ (f : ℕ → ℕ) (t n : ℕ) (ascends : (i : ℕ) → i + 1 < n → f i ≤ f (i + 1)) where
  steps : (i d : ℕ) → i + d < n → f i ≤ f (i + d)
  steps i zero h = let e : i + 0 ≡ i = omega arith in rw e (omega arith)
  steps i (suc d) h =
      let e : i + suc d ≡ i + d + 1 = omega arith in
      rw e (omega (arith, steps i d (omega arith), ascends (i + d) (omega arith)))

  mono : (i j : ℕ) → i ≤ j → j < n → f i ≤ f j
  mono i j h l = let e : i + (j - i) ≡ j = omega arith in rw e at (steps i (j - i) (omega arith))

  last : (j b : ℕ) → 0 < n → b + min n (reach j) ≤ n → f b ≤ t → ((i : ℕ) → b + min n (reach j) ≤ i → i < n → t < f i) → Lowest f t n (halved j f t n b)
  unfolding halved
  last zero b s h l a = record { among = omega arith; low = l; high = λ i x y. a i (omega arith) y }
  last (suc j) b s h l a = by (leb (f (b + stride n j)) t) refl (last j)
    where
      by : (x : Bool) → leb (f (b + stride n j)) t ≡ x
          → ((b : ℕ) → 0 < n → b + min n (reach j) ≤ n → f b ≤ t → ((i : ℕ) → b + min n (reach j) ≤ i → i < n → t < f i) → Lowest f t n (halved j f t n b))
          → Lowest f t n (halved j f t n (cond x (b + stride n j) b))
      by true e ih =
          let p = split n j b (rw (add-one j) h) in
          ih (b + stride n j) s p.up (leb-true (f (b + stride n j)) t e) (λ i x y. a i (through p.over x) y)
      by false e ih =
          let p = split n j b (rw (add-one j) h) in
          let q = leb-false (f (b + stride n j)) t e in
          ih b s p.down l (λ i x y. beyond q (mono (b + stride n j) i (through p.under x) y))

-- rows whose offsets ascend
abbrev pub Ascending : List ℕ → ℕ → Type 0
Ascending rows n = (i : ℕ) → i + 1 < n → (row_at rows i).offset ≤ (row_at rows (i + 1)).offset

-- the file found is the last whose offset is at or below the target
pub record Last (rows : List ℕ) (n t k : ℕ) : Type 0 where
  pub among : k < n
  pub low : (row_at rows k).offset ≤ t
  pub high : (i : ℕ) → k < i → i < n → t < (row_at rows i).offset

-- the offsets ascend where the test says so
ascends-at : (rows : List ℕ) (n : ℕ) → ascend rows n ≡ true → Ascending rows n
unfolding ascend
ascends-at rows zero e i h = absurd (omega arith)
ascends-at rows (suc n) e i h = by (leb (offset_at rows (n - 1)) (offset_at rows n)) refl e (ascends-at rows n)
  where
    by : (b : Bool) → leb (offset_at rows (n - 1)) (offset_at rows n) ≡ b → cond b (ascend rows n) false ≡ true → (ascend rows n ≡ true → Ascending rows n) → offset_at rows i ≤ offset_at rows (i + 1)
    by true p q ih = near (ltb (i + 1) n) refl
      where
        near : (x : Bool) → ltb (i + 1) n ≡ x → offset_at rows i ≤ offset_at rows (i + 1)
        near true l = ih q i (ltb-true (i + 1) n l)
        near false l =
            let o = ltb-false (i + 1) n l in
            let d : n - 1 ≡ i = omega arith in
            let m : n ≡ i + 1 = omega arith in
            rw (d, m) at (leb-true (offset_at rows (n - 1)) (offset_at rows n) p)
    by false p q ih = absurd (true≢false (sym q))

-- the last of n values at or below t, where there is one, and where there is none
last-is : (rows : List ℕ) (t n k : ℕ) → Lowest (offset_at rows) t n k → k ≡ last_at_or_before rows n t
unfolding last_at_or_before
last-is rows t zero k l = let a = l.among in absurd (omega arith)
last-is rows t (suc n) k l = by (leb (offset_at rows n) t) refl (last-is rows t n k)
  where
    by : (b : Bool) → leb (offset_at rows n) t ≡ b → (Lowest (offset_at rows) t n k → k ≡ last_at_or_before rows n t) → k ≡ cond b n (last_at_or_before rows n t)
    by true p ih = ends (ltb k n) refl
      where
        ends : (x : Bool) → ltb k n ≡ x → k ≡ n
        ends true q =
            let a = leb-true (offset_at rows n) t p in
            let b = l.high n (ltb-true k n q) (omega arith) in
            absurd (omega arith)
        ends false q = let a = ltb-false k n q in let b = l.among in omega arith
    by false p ih = ih (record { among = inside (ltb k n) refl; low = l.low; high = λ i x y. l.high i x (omega arith) })
      where
        inside : (x : Bool) → ltb k n ≡ x → k < n
        inside true q = ltb-true k n q
        inside false q =
            let a = leb-false (offset_at rows n) t p in
            let b = ltb-false k n q in
            let c = l.among in
            let e : k ≡ n = omega arith in
            let d = rw e at l.low in
            absurd (omega arith)

none_last : (rows : List ℕ) (t n : ℕ) → ((i : ℕ) → i < n → t < offset_at rows i) → last_at_or_before rows n t ≡ 0
unfolding last_at_or_before
none_last rows t zero h = refl
none_last rows t (suc n) h =
    let e : leb (offset_at rows n) t ≡ false = lt-leb (offset_at rows n) t (h n (omega arith)) in
    rw e (none_last rows t n (λ i l. h i (omega arith)))

none-steps : (f : ℕ → ℕ) (t n j : ℕ) → 0 < n → ((i : ℕ) → i < n → t < f i) → halved j f t n 0 ≡ 0
unfolding halved
none-steps f t n zero s h = refl
none-steps f t n (suc j) s h =
    let p = split n j 0 (omega arith) in
    let u = p.up in
    let r = reach_some j in
    let e : leb (f (0 + stride n j)) t ≡ false = lt-leb (f (0 + stride n j)) t (h (0 + stride n j) (omega arith)) in
    rw e (none-steps f t n j s h)

-- where the offsets ascend, the steps find the last file at or before the target
pub steps-find : (rows : List ℕ) (n t : ℕ) → ascend rows n ≡ true → halved n (offset_at rows) t n 0 ≡ last_at_or_before rows n t
unfolding halved last_at_or_before
steps-find rows zero t a = refl
steps-find rows (suc m) t a = by (leb (offset_at rows 0) t) refl
  where
    up : Ascending rows (suc m)
    up = ascends-at rows (suc m) a

    by : (b : Bool) → leb (offset_at rows 0) t ≡ b → halved (suc m) (offset_at rows) t (suc m) 0 ≡ last_at_or_before rows (suc m) t
    by true p =
        let e = enough (suc m) in
        last-is rows t (suc m) (halved (suc m) (offset_at rows) t (suc m) 0)
        (last (offset_at rows) t (suc m) up (suc m) 0 (omega arith) (omega arith) (leb-true (offset_at rows 0) t p) (λ i x y. absurd (omega arith)))
    by false p =
        let q = leb-false (offset_at rows 0) t p in
        let h : (i : ℕ) → i < suc m → t < offset_at rows i = λ i l. beyond q (mono (offset_at rows) t (suc m) up 0 i (omega arith) l) in
        none-steps (offset_at rows) t (suc m) (suc m) (omega arith) h ∙ sym (none_last rows t (suc m) h)

-- the steps find the file, whatever the rows hold
pub found-is : (rows : List ℕ) (n t : ℕ) → halved n (offset_at rows) t n 0 ≡ file_found rows n t
found-is rows n t = by (ascend rows n) refl
  where
    by : (b : Bool) → ascend rows n ≡ b → halved n (offset_at rows) t n 0 ≡ cond b (last_at_or_before rows n t) (halved n (offset_at rows) t n 0)
    by true p = steps-find rows n t p
    by false p = refl

pub found-last : (rows : List ℕ) (n t : ℕ) → Ascending rows n → 0 < n → (row_at rows 0).offset ≤ t → Last rows n t (file_found rows n t)
found-last rows n t a s z =
    let e = enough n in
    let l = last (offset_at rows) t n a n 0 s (omega arith) z (λ i x y. absurd (omega arith)) in
    subst (Last rows n t) (found-is rows n t) (record { among = l.among; low = l.low; high = l.high })

-- the file found among some files is one of them
pub found_below : (rows : List ℕ) (n t : ℕ) → 0 < n → file_found rows n t < n
found_below rows n t s =
    let w = within (offset_at rows) t n n 0 (omega arith) in
    subst (λ (k : ℕ). k < n) (found-is rows n t) (omega arith)

pub found_in : (rows : List ℕ) (n t : ℕ) → file_found rows n t ≤ n
found_in rows n t =
    let w = within (offset_at rows) t n n 0 (omega arith) in
    subst (λ (k : ℕ). k ≤ n) (found-is rows n t) (omega arith)
