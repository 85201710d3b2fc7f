-- Laws of decimal digits and columns: how many digits there are, what they are worth, how they are written from the last
-- one, and how a column holds them. They rely on the laws of proofs/Parts.antt and Runs.antt.
use mathlib.Core.Path.{◌≡◌, refl, sym, ap, ◌∙◌}
use mathlib.Core.Logic.{⊎_elim}
use mathlib.Core.List.{List, [], ◌∷◌, ◌++◌}
use Prim.Native.Nat.{ℕ, zero, suc, ◌+◌, ◌-◌, ◌*◌, ◌/◌, ◌%◌, ◌^◌, ◌≤◌, ◌<◌, min}
use native.Mathlib.Nat.{sub-zero, mod-eq_of_lt, pow-suc}
use native.Mathlib.Omega.{arith}
use borrow.Author.Tests.{lt-ltb, le-ltb}
use lib.ListN.{length, get_or, set, drop, replicate, length-append, length-replicate, length-drop, get_or-append}
use lib.Seq.{sets, length-sets, drop-append-le, drop-length, get_or-append_seam}
use Rattle.lists.specs.Decimal.{digits_within, decimal, column, value_from}
use Rattle.lists.proofs.Orders.{le-or-lt}
use Rattle.lists.proofs.Parts.{drop-append, drop-replicate}
use Rattle.lists.proofs.Runs.{sets-append, sets-past, last-first}

-- a number below ten, and any other: the digits of a tenth of it, and then its last digit
pub digits-one : (k n : ℕ) → n < 10 → digits_within k n ≡ (48 + n) ∷ []
unfolding digits_within
digits-one zero n h = rw (mod-eq_of_lt h)
digits-one (suc k) n h = rw (lt-ltb n 10 h)

pub digits-least : (n : ℕ) → digits_within 0 n ≡ (48 + n % 10) ∷ []
unfolding digits_within
digits-least n = refl

pub digits_more : (k n : ℕ) → 10 ≤ n → digits_within (suc k) n ≡ digits_within k (n / 10) ++ ((48 + n % 10) ∷ [])
unfolding digits_within
digits_more k n h = rw (le-ltb n 10 h)

-- how many digits there are
pub digits-length-one : (k n : ℕ) → n < 10 → length (digits_within k n) ≡ 1
digits-length-one k n h = rw (digits-one k n h)

pub digits-length-more : (k n : ℕ) → 10 ≤ n → length (digits_within (suc k) n) ≡ length (digits_within k (n / 10)) + 1
digits-length-more k n h = rw (digits_more k n h, length-append)

pub digits-length-least : (n : ℕ) → length (digits_within 0 n) ≡ 1
digits-length-least n = rw (digits-least n)

-- one more than the logarithm
digits-length-log : (j k n : ℕ) → k ≤ j → 10 ^ k ≤ n → n < 10 * 10 ^ k → length (digits_within j n) ≡ k + 1
digits-length-log zero zero n h a b = digits-length-least n
digits-length-log zero (suc k) n h a b = absurd (omega arith)
digits-length-log (suc j) zero n h a b = digits-length-one (suc j) n b
digits-length-log (suc j) (suc k) n h a b =
    let p : 10 ^ suc k ≡ 10 ^ k * 10 = pow-suc 10 k in
    let ih : length (digits_within j (n / 10)) ≡ k + 1 =
    digits-length-log j k (n / 10) (omega arith) (omega (arith, p)) (omega (arith, p)) in
    omega (arith, ih, digits-length-more j n (omega (arith, p)))

pub decimal-length-log : (k n : ℕ) → k < 20 → 10 ^ k ≤ n → n < 10 * 10 ^ k → length (decimal n) ≡ k + 1
decimal-length-log k n h a b = digits-length-log 19 k n (omega arith) a b

pub decimal-length-none : (n : ℕ) → n ≡ 0 → length (decimal n) ≡ 1
decimal-length-none n h = digits-length-one 19 n (omega arith)

pub digits-few : (k n : ℕ) → length (digits_within k n) ≤ k + 1
digits-few zero n = omega (arith, digits-length-least n)
digits-few (suc k) n =
    ⊎_elim (λ h. omega (arith, digits-length-more k n h, digits-few k (n / 10)))
    (λ h. omega (arith, digits-length-one (suc k) n h))
    (le-or-lt 10 n)

pub digits-some : (k n : ℕ) → 0 < length (digits_within k n)
digits-some zero n = omega (arith, digits-length-least n)
digits-some (suc k) n =
    ⊎_elim (λ h. omega (arith, digits-length-more k n h))
    (λ h. omega (arith, digits-length-one (suc k) n h))
    (le-or-lt 10 n)

pub decimal-few : (n : ℕ) → length (decimal n) ≤ 20
decimal-few n = digits-few 19 n

pub decimal-some : (n : ℕ) → 0 < length (decimal n)
decimal-some n = digits-some 19 n

-- each of them is a digit
abbrev Digit : ℕ → Type 0
Digit c = (48 ≤ c) × (c ≤ 57)

digit-last : (n : ℕ) → Digit (48 + n % 10)
digit-last n = (omega arith, omega arith)

abbrev Digits : List ℕ → Type 0
Digits l = (i : ℕ) → i < length l → Digit (get_or l i 0)

digits-single : (c : ℕ) → Digit c → Digits (c ∷ [])
digits-single c h zero l = h
digits-single c h (suc i) l = absurd (omega arith)

digits-snoc : (l : List ℕ) (c : ℕ) → Digits l → Digit c → Digits (l ++ (c ∷ []))
digits-snoc l c f h i b =
    ⊎_elim (λ g. let e : i ≡ length l = omega (arith, length-append l (c ∷ [])) in rw (e, get_or-append_seam l c [] 0) h)
    (λ g. rw (get_or-append l (c ∷ []) 0 i g) (f i g))
    (le-or-lt (length l) i)

digits_are : (k n : ℕ) → Digits (digits_within k n)
digits_are zero n = rw (digits-least n) (digits-single (48 + n % 10) (digit-last n))
digits_are (suc k) n =
    ⊎_elim (λ h. rw (digits_more k n h) (digits-snoc (digits_within k (n / 10)) (48 + n % 10) (digits_are k (n / 10)) (digit-last n)))
    (λ h. rw (digits-one (suc k) n h) (digits-single (48 + n) (omega arith, omega arith)))
    (le-or-lt 10 n)

pub decimal_digit : (n i : ℕ) → i < length (decimal n) → (48 ≤ get_or (decimal n) i 0) × (get_or (decimal n) i 0 ≤ 57)
decimal_digit n i h = digits_are 19 n i h

-- what digits are worth
pub value-append : (v : ℕ) (a b : List ℕ) → value_from v (a ++ b) ≡ value_from (value_from v a) b
value-append v [] b = refl
value-append v (c ∷ a) b = value-append (10 * v + (c - 48)) a b

tenth : (k n : ℕ) → n < 10 ^ (suc k + 1) → n / 10 < 10 ^ (k + 1)
tenth k n h = let e : suc k + 1 ≡ suc (k + 1) = omega arith in omega (arith, rw (e, pow-suc 10 (k + 1)) at h)

pub digits_value : (k n : ℕ) → n < 10 ^ (k + 1) → value_from 0 (digits_within k n) ≡ n
digits_value zero n h = rw (digits-least n) (omega arith)
digits_value (suc k) n h =
    ⊎_elim
    (λ g.
    rw (digits_more k n g, value-append 0 (digits_within k (n / 10)) ((48 + n % 10) ∷ []), digits_value k (n / 10) (tenth k n h)) (omega arith))
    (λ g. rw (digits-one (suc k) n g) (omega arith))
    (le-or-lt 10 n)

pub decimal-value : (n : ℕ) → n < 10 ^ 20 → value_from 0 (decimal n) ≡ n
decimal-value n h = digits_value 19 n h

-- no zero in front but that of the number zero
digits-first : (k n : ℕ) → n < 10 ^ (k + 1) → 0 < n → 49 ≤ get_or (digits_within k n) 0 0
digits-first zero n h p = rw (digits-least n) (omega arith)
digits-first (suc k) n h p =
    ⊎_elim
    (λ g.
    rw (digits_more k n g, get_or-append (digits_within k (n / 10)) ((48 + n % 10) ∷ []) 0 0 (digits-some k (n / 10)))
    (digits-first k (n / 10) (tenth k n h) (omega arith)))
    (λ g. rw (digits-one (suc k) n g) (omega arith))
    (le-or-lt 10 n)

pub decimal-first : (n : ℕ) → n < 10 ^ 20 → 0 < n → 49 ≤ get_or (decimal n) 0 0
decimal-first n h p = digits-first 19 n h p

-- the last k digits of n, with zeros in front where it has fewer
unfoldable pub last_digits : ℕ → ℕ → List ℕ
last_digits zero n = []
last_digits (suc k) n = last_digits k (n / 10) ++ ((48 + n % 10) ∷ [])

pub length-last_digits : (k n : ℕ) → length (last_digits k n) ≡ k
unfolding last_digits
length-last_digits zero n = refl
length-last_digits (suc k) n = rw (length-append, length-last_digits k (n / 10)) (omega arith)

end_snoc : (ys : List ℕ) (b c : ℕ) → c ≤ length ys → drop (length (ys ++ (b ∷ [])) - suc c) (ys ++ (b ∷ [])) ≡ drop (length ys - c) ys ++ (b ∷ [])
end_snoc ys b c h =
    let e : length (ys ++ (b ∷ [])) - suc c ≡ length ys - c = omega (arith, length-append ys (b ∷ [])) in
    rw (e, drop-append-le (length ys - c) ys (b ∷ []) (omega arith))

end-one : (m b c : ℕ) → suc c ≤ 1 → last_digits c m ++ (b ∷ []) ≡ drop (1 - suc c) (b ∷ [])
unfolding last_digits
end-one m b zero h = refl
end-one m b (suc c) h = absurd (omega arith)

-- the last digits of a number are the end of its digits
pub last_digits_lem : (k c n : ℕ) → c ≤ length (digits_within k n) → last_digits c n ≡ drop (length (digits_within k n) - c) (digits_within k n)
unfolding last_digits
last_digits_lem k zero n h = rw (sub-zero (length (digits_within k n)), drop-length (digits_within k n))
last_digits_lem zero (suc c) n h = rw (digits-least n) (end-one (n / 10) (48 + n % 10) c (rw (digits-least n) at h))
last_digits_lem (suc k) (suc c) n h =
    ⊎_elim
    (λ g.
    let l : c ≤ length (digits_within k (n / 10)) = omega (arith, digits-length-more k n g) in
    rw (digits_more k n g) (rw (last_digits_lem k c (n / 10) l) (sym (end_snoc (digits_within k (n / 10)) (48 + n % 10) c l))))
    (λ g.
    rw (digits-one (suc k) n g, mod-eq_of_lt g) (end-one (n / 10) (48 + n) c (rw (digits-one (suc k) n g) at h)))
    (le-or-lt 10 n)

-- one digit written, the last first; and all of them
pub digit-turn : (l : List ℕ) (at i n : ℕ) → 0 < i → sets (set l (at + (i - 1)) (48 + n % 10)) at (last_digits (i - 1) (n / 10)) ≡ sets l at (last_digits i n)
unfolding last_digits
digit-turn l at zero n h = absurd (omega arith)
digit-turn l at (suc i) n h =
    let e : suc i - 1 ≡ i = omega arith in
    rw e (ap (λ (m : ℕ). sets (set l (at + m) (48 + n % 10)) at (last_digits i (n / 10))) (sym (length-last_digits i (n / 10)))
    ∙ last-first (last_digits i (n / 10)) l at (48 + n % 10))

pub digit-end : (l : List ℕ) (at i n : ℕ) → i ≤ 0 → sets l at (last_digits i n) ≡ l
unfolding last_digits
digit-end l at i n h = let e : i ≡ 0 = omega arith in rw e

-- the last digits of a number are those at the end of its decimal
pub digits-start : (c n : ℕ) → c ≤ length (decimal n) → last_digits c n ≡ drop (length (decimal n) - c) (decimal n)
digits-start c n h = last_digits_lem 19 c n h

-- a column: blanks, and the digits or the last of them
pub column-is : (w n : ℕ) → column w n ≡ replicate (w - length (decimal n)) 32 ++ drop (length (decimal n) - w) (decimal n)
column-is w n = rw (drop-append (length (decimal n)) (replicate w 32) (decimal n), length-replicate {A = ℕ} w 32, drop-replicate {A = ℕ} (length (decimal n)) w 32)

pub column-length : (w n : ℕ) → length (column w n) ≡ w
column-length w n =
    let d = decimal n in
    omega (arith, length-drop (length d) (replicate w 32 ++ d), length-append (replicate w 32) d, length-replicate {A = ℕ} w 32)

pub column_fits : (w n : ℕ) → length (decimal n) ≤ w → column w n ≡ replicate (w - length (decimal n)) 32 ++ decimal n
column_fits w n h = let e : length (decimal n) - w ≡ 0 = omega arith in rw e at (column-is w n)

-- blanks written, and then the end of the digits, or none of it where the blanks reach the end
pub column-drawn : (l : List ℕ) (at w n : ℕ)
    → sets (sets l at (replicate (w - length (decimal n)) 32)) (at + (w - length (decimal n))) (drop (length (decimal n) - min w (length (decimal n))) (decimal n)) ≡ sets l at (column w n)
column-drawn l at w n =
    let d = decimal n in
    let g : length d - min w (length d) ≡ length d - w = omega arith in
    rw (g, column-is w n, sets-append (replicate (w - length d) 32) (drop (length d - w) d) l at, length-replicate {A = ℕ} (w - length d) 32)

pub column-blank : (l : List ℕ) (at w n : ℕ) → length l ≤ at + (w - length (decimal n))
    → sets l at (replicate (w - length (decimal n)) 32) ≡ sets l at (column w n)
column-blank l at w n h =
    let d = decimal n in
    let b = replicate (w - length d) 32 in
    sym (sets-past (drop (length d - min w (length d)) d) (sets l at b) (at + (w - length d)) (omega (arith, length-sets l at b)))
    ∙ column-drawn l at w n

-- for a count of digits, for the loop that writes them, and for a column
pub ruleset counting = (decimal-length-log, decimal-length-none)

pub ruleset writing = (decimal-few, digits-start, digit-turn, digit-end)

pub ruleset drawing = (column-drawn, column-blank)
