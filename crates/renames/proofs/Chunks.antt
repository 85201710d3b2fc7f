-- The entries of a table as an iterator over chunks of four words gives them, and what they are, count and sum to. These laws rely on
-- the definitions of specs/Finding.antt and on the laws of iterators of `std`.
use Prim.Native.Nat.{ℕ, zero, suc, ◌+◌, ◌*◌, ◌/◌, ◌<◌}
use mathlib.Core.Path.{◌≡◌, refl, subst, ap, ◌∙◌}
use mathlib.Core.List.{List, [], ◌∷◌, ◌++◌}
use native.Mathlib.Omega.{arith}
use lib.ListN.{length, get_or, take, drop, length-append}
use lib.Seq.{take_at, drop_at, drop-drop, get_or-drop, get_or-take}
use denote.Ref.{Bor}
use Rattle.std.specs.Prelude.{Some, None}
use Rattle.std.specs.Simd.{first_chunks}
use Rattle.std.specs.List.{sum_by}
use Rattle.std.specs.declared.slice.ChunksExact.{ChunksExact}
use Rattle.std.specs.Slice.Iter.{chunks_exact_size, chunks_exact_rest, chunks_exact_steps}
use Rattle.std.proofs.lemmas.Iterator.{YieldsList}
use Rattle.std.proofs.lemmas.List.Sums.{sum_by-cons}
use Rattle.std.proofs.lemmas.Iterator.Splits.{YieldsList-from_shown_while}
use Rattle.renames.specs.private.Slots.{bytes_from}

-- n entries from the front on
abbrev pub entries_of : ℕ → List ℕ → List (List ℕ)
entries_of zero e = []
entries_of (suc n) e = take 4 e ∷ entries_of n (drop 4 e)

-- all of a table
abbrev pub all_entries : List ℕ → List (List ℕ)
all_entries e = entries_of (length e / 4) e

pub entries-long : (n : ℕ) (e : List ℕ) → length (entries_of n e) ≡ n
entries-long zero e = refl
entries-long (suc n) e = ap (λ (m : ℕ). suc m) (entries-long n (drop 4 e))

-- those that an iterator has left, and that it gives them
abbrev shown : ChunksExact ℕ → List (List ℕ)
shown s = all_entries (chunks_exact_rest s)

pub chunks-give : {s : ChunksExact ℕ} (e : List ℕ) → chunks_exact_size s ≡ 4 → chunks_exact_rest s ≡ e → YieldsList chunks_exact_steps (λ x. x.now) s (all_entries e)
chunks-give {s} e size is =
    subst (λ (l : List ℕ). YieldsList chunks_exact_steps (λ x. x.now) s (all_entries l)) is
    (YieldsList-from_shown_while chunks_exact_steps (λ x. x.now) shown (λ s. chunks_exact_size s ≡ 4) none some s size)
  where
    none : (s t : ChunksExact ℕ) → chunks_exact_size s ≡ 4 → chunks_exact_steps s None t → length (shown s) ≡ 0
    none s t size p = entries-long (length (chunks_exact_rest s) / 4) (chunks_exact_rest s) ∙ omega (arith, p.1.0)

    one : (n : ℕ) (l x r : List ℕ) → l ≡ x ++ r → length x ≡ 4 → n ≡ suc (length r / 4) → entries_of n l ≡ x ∷ entries_of (length r / 4) r
    one n l x r e long m = rw (m, e, take_at x r 4 long, drop_at x r 4 long)

    some : (s : ChunksExact ℕ) (x : Bor (List ℕ)) (t : ChunksExact ℕ) → chunks_exact_size s ≡ 4 → chunks_exact_steps s (Some x) t → (chunks_exact_size t ≡ 4) × (shown s ≡ x.now ∷ shown t)
    some s x t size p =
        let long : length x.now ≡ 4 = p.1.1 ∙ size in
        (p.0 ∙ size, one _ (chunks_exact_rest s) x.now (chunks_exact_rest t) p.1.0 long (omega (arith, ap length p.1.0, length-append x.now (chunks_exact_rest t), long)))

-- ---- what stands in them

-- word j of entry i
word-at : (e : List ℕ) (i j : ℕ) → j < 4 → get_or (take 4 (drop (i * 4) e)) j 0 ≡ get_or e (i * 4 + j) 0
word-at e i j h = get_or-take 4 (drop (i * 4) e) j 0 h ∙ get_or-drop (i * 4) e j 0

-- the entries behind entry i
next-entries : (n i : ℕ) (e : List ℕ) → entries_of n (drop 4 (drop (i * 4) e)) ≡ entries_of n (drop ((i + 1) * 4) e)
next-entries n i e = let m : i * 4 + 4 ≡ (i + 1) * 4 = omega arith in ap (entries_of n) (drop-drop 4 (i * 4) e ∙ ap (λ (k : ℕ). drop k e) m)

-- entry j of them
entry-at : (n j i : ℕ) (e d : List ℕ) → j < n → get_or (entries_of n (drop (i * 4) e)) j d ≡ take 4 (drop ((i + j) * 4) e)
entry-at zero j i e d h = absurd (omega arith)
entry-at (suc n) zero i e d h = let z : i + 0 ≡ i = omega arith in rw z
entry-at (suc n) (suc j) i e d h =
    let z : i + 1 + j ≡ i + suc j = omega arith in
    rw (next-entries n i e) (entry-at n j (i + 1) e d (omega arith) ∙ rw z)

-- the words of the one that comes behind i others
pub entry-word : (n i : ℕ) (e x : List ℕ) → i < length (entries_of n e) → x ≡ get_or (entries_of n e) i x → (j : ℕ) → j < 4 → get_or x j 0 ≡ get_or e (i * 4 + j) 0
entry-word n i e x h is j l =
    let z : 0 + i ≡ i = omega arith in
    ap (λ (y : List ℕ). get_or y j 0) (is ∙ entry-at n i 0 e x (omega (arith, entries-long n e)))
    ∙ rw z (word-at e i j l)

-- the bytes of their texts
bytes-at : (n i : ℕ) (e : List ℕ) → sum_by (λ x. get_or x 2 0) (entries_of n (drop (i * 4) e)) ≡ bytes_from n i e
unfolding bytes_from
bytes-at zero i e = refl
bytes-at (suc n) i e =
    sum_by-cons (λ x. get_or x 2 0) (take 4 (drop (i * 4) e)) (entries_of n (drop 4 (drop (i * 4) e)))
    ∙ rw (word-at e i 2 (omega arith), next-entries n i e, bytes-at n (i + 1) e)

pub all-bytes : (e : List ℕ) → sum_by (λ x. get_or x 2 0) (all_entries e) ≡ bytes_from (length e / 4) 0 e
all-bytes e = bytes-at (length e / 4) 0 e

-- ---- an entry read as an array of its words

-- word j of entry i
pub chunk-word : (k i j : ℕ) (e : List ℕ) → i < k → j < 4 → get_or (get_or (first_chunks 4 k e) i []) j 0 ≡ get_or e (i * 4 + j) 0
chunk-word zero i j e h l = absurd (omega arith)
chunk-word (suc k) zero j e h l =
    let front : j ≡ 0 + j = omega arith in
    get_or-take 4 e j 0 l ∙ ap (λ (n : ℕ). get_or e n 0) front
chunk-word (suc k) (suc i) j e h l =
    let behind : 4 + (i * 4 + j) ≡ suc i * 4 + j = omega arith in
    chunk-word k i j (drop 4 e) (omega arith) l ∙ get_or-drop 4 e (i * 4 + j) 0 ∙ ap (λ (n : ℕ). get_or e n 0) behind
