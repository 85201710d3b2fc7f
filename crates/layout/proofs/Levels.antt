-- Laws of the search in steps whose number depends on the number of rows alone (specs/private/Level.antt). They rely on the laws of
-- halving.
--     first, later         how many words a step goes
--     all_rows, found      where a search begins and ends
--     skipped, begun       steps that are not needed
--     inside, turned       a step
use Rattle.std.proofs.Common.{◌≡◌, ℕ, ◌+◌, ◌-◌, ◌*◌, ◌/◌, ◌%◌, ◌^◌, ◌<◌, ◌≤◌, min, Bool, true, false, cond, ltb, leb, List, get_or, sym, refl, ap, ◌∙◌, add-one, arith, ltb-false, ltb-true}
use Rattle.layout.specs.Search.{offset_at, file_found}
use Rattle.layout.specs.Steps.{reach, stride, moved, halved}
use Rattle.layout.specs.private.Level.{Level}
use Rattle.layout.proofs.Halving.{reach_some, reach_mono, Split, split, idle, enough, found-is}

within-words : (b s n most : ℕ) {at w : ℕ} → 0 < most → 0 < n → b + s + min n most ≤ n → at ≡ b * 8 → w ≡ s * 8 → at + w < n * 8
within-words b s n most z h q p e = omega arith

module _ (n most more : ℕ) where
  short : n < more → n - most ≡ min (more - most) (n - most)
  short h = omega arith

  long : more ≤ n → more - most ≡ min (more - most) (n - most)
  long h = omega arith

-- a step in words: the first one's, and a later one's
module _ (n j : ℕ) where
  pub first : n < reach (j + 1) → (n - reach j) * 8 ≡ stride n j * 8
  first h = ap (λ (s : ℕ). s * 8) (short n (reach j) (reach (j + 1)) h)

  pub later : reach (j + 1) ≤ n → (reach (j + 1) - reach j) * 8 ≡ stride n j * 8
  later h = ap (λ (s : ℕ). s * 8) (long n (reach j) (reach (j + 1)) h)

module _ (rows : List ℕ) (n t : ℕ) where
  abbrev f : ℕ → ℕ
  f = offset_at rows

  -- from level j on and from level i on, where both are enough for n
  same : (i j b : ℕ) → n ≤ reach i → n ≤ reach j → halved i f t n b ≡ halved j f t n b
  same i j b h k = by (ltb i j) refl
    where
      by : (x : Bool) → ltb i j ≡ x → halved i f t n b ≡ halved j f t n b
      by true q =
          let l = ltb-true i j q in
          let e : i + (j - i) ≡ j = omega arith in
          sym (rw e at (idle f t n i (j - i) b h))
      by false q =
          let l = ltb-false i j q in
          let e : j + (i - j) ≡ i = omega arith in
          rw e at (idle f t n j (i - j) b k)

  pub all_rows : (j : ℕ) → n ≤ reach j → Level rows n t j 0
  all_rows j h = record { b = 0; place = omega arith; left = omega arith; gives = same j n 0 h (enough n) }

  pub skipped : (i j : ℕ) {at : ℕ} → n ≤ reach i → n ≤ reach j → Level rows n t j at → Level rows n t i at
  skipped i j h k l = record { b = l.b; place = l.place; left = omega (arith, l.left); gives = same i j l.b h k ∙ l.gives }

  -- before the first step it stands at the first row
  pub begun : (j : ℕ) {at : ℕ} → n ≤ reach j → Level rows n t j at → at ≡ 0
  begun j h l = let p = l.place in let q = l.left in omega arith

  pub found : {at : ℕ} → Level rows n t 0 at → at / 8 ≡ file_found rows n t
  unfolding halved
  found {at} l =
      let p = l.place in
      let g = l.gives in
      let e : at / 8 ≡ halved n f t n 0 = omega arith in
      e ∙ found-is rows n t

  -- step j, which goes s words on
  module _ (j : ℕ) {at : ℕ} (l : Level rows n t (j + 1) at) (s : ℕ) (e : s ≡ stride n j * 8) where
    parts : Split n j l.b
    parts = split n j l.b l.left

    pub inside : 0 < n → at + s < n * 8
    inside h = let p = l.place in let q = parts.up in let z = reach_some j in within-words l.b (stride n j) n (reach j) z h q p e

    gives : halved j f t n (moved f t l.b (stride n j)) ≡ halved n f t n 0
    unfolding halved
    gives = rw (add-one j) at l.gives

    pub turned : (r : ℕ) → r ≡ cond (leb (get_or rows (at + s) 0 % 2 ^ 48) t) (at + s) at → Level rows n t j r
    turned r h = by (leb (f (l.b + stride n j)) t) (rw place at h) gives
      where
        place : at + s ≡ (l.b + stride n j) * 8
        place = let p = l.place in omega arith

        by : (x : Bool) → r ≡ cond x ((l.b + stride n j) * 8) at → halved j f t n (cond x (l.b + stride n j) l.b) ≡ halved n f t n 0 → Level rows n t j r
        by true k g = record { b = l.b + stride n j; place = k; left = parts.up; gives = g }
        by false k g = record { b = l.b; place = k ∙ l.place; left = parts.down; gives = g }

-- what a step needs
pub ruleset turning = (inside, turned, first, later, begun, reach_mono, reach_some)
