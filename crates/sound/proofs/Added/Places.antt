-- What a new row leads to: the directory at the index that an addition gives it is the one asked for, and the bits of its
-- flags say what was put. Relies on the laws of equality of `lists` and of tables of `tables`.
use mathlib.Core.Path.{◌≡◌, refl, sym, ap, ◌∙◌}
use mathlib.Core.Bool.{Bool, true, false, cond, false≢true}
use mathlib.Core.List.{List, [], ◌∷◌}
use Prim.Native.Nat.{ℕ, suc, ◌+◌, ◌-◌, ◌*◌, ◌/◌, ◌%◌, ◌^◌, ◌≤◌, ◌<◌}
use native.Mathlib.Omega.{arith}
use lib.Dec.{eqb}
use lib.ListN.{length, get_or, length-append}
use lib.Seq.{get_or-append_seam}
use borrow.Author.Tests.{ne_eqb}
use Rattle.lists.specs.Lists.{equal}
use Rattle.lists.proofs.Equality.{equal-true}
use Rattle.tables.specs.declared.rows.Row.{Row}
use Rattle.tables.specs.Rows.{has}
use Rattle.tables.specs.Model.{Directory, single, absolute, stored, Store, directory_text, directory_of, view_of}
use Rattle.tables.proofs.Tabled.{get_or-tabled, length-tabled}
use Rattle.additions.specs.Addition.{is_among, with_directory, with_directory_of, flags_kept}
use Rattle.plan.specs.Write.{directory_index_from, directory_index, path_index_of, is_outside}

-- ---- places of directories

-- where a directory is found: behind the first i places, and it is there
record At (p i : ℕ) (d : List ℕ) (es : List (List ℕ)) : Type 0 where
  from : i ≤ p
  to : p < i + length es
  is : get_or es (p - i) [] ≡ d

place_none : (found i : ℕ) (d : List ℕ) (es : List (List ℕ)) → is_among d es ≡ false → directory_index_from found i d es ≡ found
unfolding directory_index_from
place_none found i d [] e = refl
place_none found i d (x ∷ es) e = at (equal d x) refl e (λ f. place_none (cond (equal d x) i found) (i + 1) d es f)
  where
    at : (b : Bool) → equal d x ≡ b → cond b true (is_among d es) ≡ false → (is_among d es ≡ false → directory_index_from (cond (equal d x) i found) (i + 1) d es ≡ cond (equal d x) i found) → directory_index_from (cond (equal d x) i found) (i + 1) d es ≡ found
    at true q r h = absurd (false≢true (sym r))
    at false q r h = h r ∙ rw q

found_here : (p i : ℕ) (d x : List ℕ) (es : List (List ℕ)) → p ≡ i → equal d x ≡ true → At p i d (x ∷ es)
found_here p i d x es e q =
    let z : p - i ≡ 0 = omega arith in
    record { from = omega arith; to = omega arith; is = rw z (sym (equal-true d x q)) }

found-later : (p i : ℕ) (d x : List ℕ) (es : List (List ℕ)) → At p (i + 1) d es → At p i d (x ∷ es)
found-later p i d x es h =
    let z : p - i ≡ suc (p - (i + 1)) = omega (arith, h.from) in
    record { from = omega (arith, h.from); to = omega (arith, h.to); is = rw z h.is }

place_found : (found i : ℕ) (d : List ℕ) (es : List (List ℕ)) → is_among d es ≡ true → At (directory_index_from found i d es) i d es
unfolding directory_index_from
place_found found i d [] e = absurd (false≢true e)
place_found found i d (x ∷ es) e =
    at (is_among d es) refl (λ f. place_found (cond (equal d x) i found) (i + 1) d es f) (place_none (cond (equal d x) i found) (i + 1) d es)
  where
    last : (b : Bool) → equal d x ≡ b → is_among d es ≡ false → directory_index_from (cond (equal d x) i found) (i + 1) d es ≡ cond (equal d x) i found → At (directory_index_from (cond (equal d x) i found) (i + 1) d es) i d (x ∷ es)
    last true q f g = found_here (directory_index_from (cond (equal d x) i found) (i + 1) d es) i d x es (g ∙ rw q) q
    last false q f g = absurd (false≢true (sym f ∙ (rw q at e)))

    at : (b : Bool) → is_among d es ≡ b → (is_among d es ≡ true → At (directory_index_from (cond (equal d x) i found) (i + 1) d es) (i + 1) d es)
        → (is_among d es ≡ false → directory_index_from (cond (equal d x) i found) (i + 1) d es ≡ cond (equal d x) i found)
        → At (directory_index_from (cond (equal d x) i found) (i + 1) d es) i d (x ∷ es)
    at true q h g = found-later (directory_index_from (cond (equal d x) i found) (i + 1) d es) i d x es (h q)
    at false q h g = last (equal d x) refl q (g q)

-- with the directory among them, or put behind them, it is at its place
pub place_at_lem : (d : List ℕ) (ds : List (List ℕ)) → (directory_index d ds < length (with_directory d ds)) × (get_or (with_directory d ds) (directory_index d ds) [] ≡ d)
place_at_lem d ds = at (is_among d ds) refl
  where
    at : (b : Bool) → is_among d ds ≡ b → (directory_index d ds < length (with_directory d ds)) × (get_or (with_directory d ds) (directory_index d ds) [] ≡ d)
    at true e =
        let p = place_found (length ds) 0 d ds e in
        let z : directory_index d ds - 0 ≡ directory_index d ds = omega arith in
        rw e (omega (arith, p.to), rw z at p.is)
    at false e =
        rw (e, place_none (length ds) 0 d ds e)
        (omega (arith, length-append ds (d ∷ [])), get_or-append_seam ds d [] [])

-- ---- a row's directory

module _ (t : Store) (ds : List (List ℕ)) (few : t.fs.num_paths ≤ 65535) where
  abbrev Leads : Directory → Type 0
  Leads p = (r : Row) → (view_of t).directories ≡ with_directory_of p ds → r.path_index ≡ path_index_of p ds → has r.flags 32 ≡ is_outside p → directory_of t r ≡ p

  leads-stored : (d : List ℕ) (o : Bool) → Leads (stored d o)
  leads-stored d o r e q f =
      let p = place_at_lem d ds in
      let n : t.fs.num_paths ≡ length (with_directory d ds) = sym (length-tabled t.fs.num_paths (directory_text t)) ∙ ap length e in
      let l : directory_index d ds < t.fs.num_paths = omega (arith, p.0) in
      let b : directory_index d ds < 65535 = omega arith in
      rw (q, ne_eqb (directory_index d ds) 1073741823 (λ z. omega arith), ne_eqb (directory_index d ds) 1073741822 (λ z. omega arith), f)
      (ap (λ (x : List ℕ). stored x o) (sym (get_or-tabled t.fs.num_paths (directory_text t) (directory_index d ds) [] l) ∙ ap (λ (x : List (List ℕ)). get_or x (directory_index d ds) []) e ∙ p.1))

  pub leads : (p : Directory) → Leads p
  leads single r e q f = rw q
  leads absolute r e q f = rw q
  leads (stored d o) r e q f = leads-stored d o r e q f

-- a row's directory is there, or it has none
pub index-placed : (p : Directory) (ds : List (List ℕ)) → path_index_of p ds < 1073741822 → path_index_of p ds < length (with_directory_of p ds)
index-placed single ds h = absurd (omega arith)
index-placed absolute ds h = absurd (omega arith)
index-placed (stored d o) ds h = (place_at_lem d ds).0

pub index-small : (p : Directory) (ds : List (List ℕ)) → length (with_directory_of p ds) ≤ 65535 → path_index_of p ds ≤ 1073741823
index-small single ds h = omega arith
index-small absolute ds h = omega arith
index-small (stored d o) ds h = omega (arith, (place_at_lem d ds).0)

-- ---- flags

abbrev one : Bool → ℕ
one b = cond b 1 0

one-small : (b : Bool) → one b ≤ 1
one-small true = omega arith
one-small false = omega arith

one-is : (b : Bool) → eqb (one b) 1 ≡ b
one-is true = refl
one-is false = refl

times-one : (b : Bool) (n : ℕ) → cond b n 0 ≡ one b * n
times-one true n = omega arith
times-one false n = omega arith

abbrev bits_of : ℕ → ℕ → ℕ → ℕ → ℕ
bits_of x k o r = x + k * 16 + o * 32 + r * 128

module _ (x k o r : ℕ) (small : x < 16) (hk : k ≤ 1) (ho : o ≤ 1) (hr : r ≤ 1) where
  bits_small : bits_of x k o r < 2 ^ 16
  bits_small = omega arith

  bits-low : bits_of x k o r % 16 ≡ x
  bits-low = omega arith

  bits-one : bits_of x k o r / 1 % 2 ≡ x % 2
  bits-one = omega arith

  bits-link : bits_of x k o r / 16 % 2 ≡ k
  bits-link = omega arith

  bits-outside : bits_of x k o r / 32 % 2 ≡ o
  bits-outside = omega arith

  bits-made : bits_of x k o r / 64 % 2 ≡ 0
  bits-made = omega arith

  bits-root : bits_of x k o r / 128 % 2 ≡ r
  bits-root = omega arith

-- the flags of a row: the first four bits, and whether there is a link text, a directory outside the set's name, a root
abbrev pub flags_of : ℕ → Bool → Bool → Bool → ℕ
flags_of x k o r = x + cond k 16 0 + cond o 32 0 + cond r 128 0

module _ (x : ℕ) (k o r : Bool) (small : x < 16) where
  flags-bits : flags_of x k o r ≡ bits_of x (one k) (one o) (one r)
  flags-bits = omega (arith, times-one k 16, times-one o 32, times-one r 128)

  pub flags-small : flags_of x k o r < 2 ^ 16
  flags-small = rw flags-bits (bits_small x (one k) (one o) (one r) small (one-small k) (one-small o) (one-small r))

  pub flags-low : flags_of x k o r % 16 ≡ x
  flags-low = rw flags-bits (bits-low x (one k) (one o) (one r) small (one-small k) (one-small o) (one-small r))

  pub flags-one : has (flags_of x k o r) 1 ≡ eqb (x % 2) 1
  flags-one = rw (flags-bits, bits-one x (one k) (one o) (one r) small (one-small k) (one-small o) (one-small r))

  pub flags-link : has (flags_of x k o r) 16 ≡ k
  flags-link = rw (flags-bits, bits-link x (one k) (one o) (one r) small (one-small k) (one-small o) (one-small r)) (one-is k)

  pub flags-outside : has (flags_of x k o r) 32 ≡ o
  flags-outside = rw (flags-bits, bits-outside x (one k) (one o) (one r) small (one-small k) (one-small o) (one-small r)) (one-is o)

  pub flags-made : has (flags_of x k o r) 64 ≡ false
  flags-made = rw (flags-bits, bits-made x (one k) (one o) (one r) small (one-small k) (one-small o) (one-small r))

  pub flags-root : has (flags_of x k o r) 128 ≡ r
  flags-root = rw (flags-bits, bits-root x (one k) (one o) (one r) small (one-small k) (one-small o) (one-small r)) (one-is r)

pub kept_small : (flags : ℕ) (b : Bool) → flags_kept flags b < 16
kept_small flags true = omega arith
kept_small flags false = omega arith

pub kept-one : (flags : ℕ) (b : Bool) → flags_kept flags b % 2 ≡ flags % 2
kept-one flags true = omega arith
kept-one flags false = omega arith
