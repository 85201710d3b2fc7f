-- The renames that stay when a list is imported: how they are counted and moved together, entry by entry, and that the tables then
-- hold the list of them. These laws rely on those of `renames` (its proofs/Readings.antt).
use Prim.Native.Nat.{ℕ, zero, suc, ◌+◌, ◌-◌, ◌*◌, ◌/◌, ◌≤◌, ◌<◌}
use mathlib.Core.Path.{◌≡◌, refl, sym, ap, ◌∙◌}
use mathlib.Core.Bool.{Bool, true, false, cond}
use mathlib.Core.List.{List, [], ◌∷◌, ◌++◌, append_assoc}
use native.Mathlib.Nat.{add-zero}
use native.Mathlib.Omega.{arith}
use lib.ListN.{length, get_or, take, drop, length-append, length-drop, take-append-drop}
use lib.Seq.{paste, sets, sets-eq, length-sets, length-take-le, drop-drop, get_or-drop, get_or-take}
use Rattle.lists.specs.Lists.{part_of}
use Rattle.lists.proofs.Parts.{drop-take}
use Rattle.lists.proofs.Runs.{sets-append, drop-sets-le}
use Rattle.renames.specs.Renames.{Renamed, mode_word, renames_from, words_from, texts_of}
use Rattle.renames.specs.private.Slots.{bytes_from}
use Rattle.imports.specs.private.Importing.{renames_kept, kept_count, kept_bytes, kept_words}
use Rattle.renames.proofs.Readings.{mode-word}
use Rattle.renames.proofs.Splices.{copied}

-- ---- one entry, and one text, as it is moved down

part-is : (t : List ℕ) (from len : ℕ) → drop from (take (from + len) t) ≡ part_of t from len
part-is t from len = let n : from + len - from ≡ len = omega arith in drop-take from (from + len) t ∙ rw n

pub kept_text : (t : List ℕ) (from len to : ℕ) → to ≤ from → from + len ≤ length t
    → paste t to (drop from t) (from + len - from) ≡ sets t to (part_of t from len)
kept_text t from len to a b = copied t from (from + len) to (omega arith) b (omega arith) ∙ ap (λ (x : List ℕ). sets t to x) (part-is t from len)

module _ (named : ℕ → Bool) where
  -- ---- the counts are those of the list

  abbrev listed : List ℕ → ℕ → Bool
  listed e i = named (get_or e (i * 4) 0)

  one-count : (b : Bool) (r : Renamed) (l : List Renamed) → length (cond b l (r ∷ l)) ≡ cond b 0 1 + length l
  one-count true r l = omega arith
  one-count false r l = omega arith

  pub kept-count : (n i : ℕ) (e t : List ℕ) → length (renames_kept named (renames_from n i e t)) ≡ kept_count named n i e
  unfolding renames_from kept_count
  kept-count zero i e t = refl
  kept-count (suc n) i e t =
      one-count (listed e i) _ (renames_kept named (renames_from n (i + 1) e (drop (get_or e (i * 4 + 2) 0) t)))
      ∙ rw (kept-count n (i + 1) e (drop (get_or e (i * 4 + 2) 0) t))

  one-text : (b : Bool) (r : Renamed) (l : List Renamed) → texts_of (cond b l (r ∷ l)) ≡ cond b [] r.name ++ texts_of l
  one-text true r l = refl
  one-text false r l = refl

  one-length : (b : Bool) (name : List ℕ) → length (cond b [] name) ≡ cond b 0 (length name)
  one-length true name = refl
  one-length false name = refl

  pub kept-bytes : (n i : ℕ) (e t : List ℕ) → bytes_from n i e ≤ length t → length (texts_of (renames_kept named (renames_from n i e t))) ≡ kept_bytes named n i e
  unfolding renames_from bytes_from kept_bytes
  kept-bytes zero i e t h = refl
  kept-bytes (suc n) i e t h =
      let l = get_or e (i * 4 + 2) 0 in
      let rest = renames_kept named (renames_from n (i + 1) e (drop l t)) in
      let b = listed e i in
      ap length (one-text b _ rest)
      ∙ length-append (cond b [] (take l t)) (texts_of rest)
      ∙ rw (one-length b (take l t), length-take-le l t (omega arith), kept-bytes n (i + 1) e (drop l t) (omega (arith, length-drop l t)))

  one-words : (b : Bool) (r : Renamed) (l : List Renamed) (at f m k : ℕ) (v w : List ℕ) → r.file ≡ f → mode_word r.mode ≡ m → length r.name ≡ k
      → words_from at l ≡ v → words_from (at + k) l ≡ w → words_from at (cond b l (r ∷ l)) ≡ cond b v (f ∷ m ∷ k ∷ at ∷ w)
  one-words true r l at f m k v w p q s h g = h
  one-words false r l at f m k v w p q s h g = rw (p, q, s, g)

  pub kept-words : (n i at : ℕ) (e t : List ℕ) → ((j : ℕ) → i ≤ j → j < i + n → get_or e (j * 4 + 1) 0 ≤ 2) → bytes_from n i e ≤ length t
      → words_from at (renames_kept named (renames_from n i e t)) ≡ kept_words named n i at e
  unfolding renames_from bytes_from kept_words
  kept-words zero i at e t m h = refl
  kept-words (suc n) i at e t m h =
      let l = get_or e (i * 4 + 2) 0 in
      let rest : (x : ℕ) → words_from x (renames_kept named (renames_from n (i + 1) e (drop l t))) ≡ kept_words named n (i + 1) x e =
      λ x. kept-words n (i + 1) x e (drop l t) (λ j a c. m j (omega arith) (omega arith)) (omega (arith, length-drop l t)) in
      one-words (listed e i) _ (renames_kept named (renames_from n (i + 1) e (drop l t))) at (get_or e (i * 4) 0) (get_or e (i * 4 + 1) 0) l
      (kept_words named n (i + 1) at e) (kept_words named n (i + 1) (at + l) e) refl
      (mode-word (get_or e (i * 4 + 1) 0) (m i (omega arith) (omega arith)))
      (length-take-le l t (omega arith))
      (rest at)
      (rest (at + l))

  -- ---- their bounds

  one-le : (b : Bool) → cond b 0 1 ≤ 1
  one-le true = omega arith
  one-le false = omega arith

  pub kept-few : (n i : ℕ) (e : List ℕ) → kept_count named n i e ≤ n
  unfolding kept_count
  kept-few zero i e = omega arith
  kept-few (suc n) i e = omega (arith, one-le (listed e i), kept-few n (i + 1) e)

  some-le : (b : Bool) (k : ℕ) → cond b 0 k ≤ k
  some-le true k = omega arith
  some-le false k = omega arith

  pub kept-short : (n i : ℕ) (e : List ℕ) → kept_bytes named n i e ≤ bytes_from n i e
  unfolding kept_bytes bytes_from
  kept-short zero i e = omega arith
  kept-short (suc n) i e = omega (arith, some-le (listed e i) (get_or e (i * 4 + 2) 0), kept-short n (i + 1) e)

  -- ---- one entry of the counts, and their end

  module _ (n i : ℕ) (e : List ℕ) where
    pub count_turn : i < n → kept_count named (n - i) i e ≡ cond (listed e i) 0 1 + kept_count named (n - (i + 1)) (i + 1) e
    unfolding kept_count
    count_turn h = let m : n - i ≡ suc (n - (i + 1)) = omega arith in rw m

    pub size-turn : i < n → kept_bytes named (n - i) i e ≡ cond (listed e i) 0 (get_or e (i * 4 + 2) 0) + kept_bytes named (n - (i + 1)) (i + 1) e
    unfolding kept_bytes
    size-turn h = let m : n - i ≡ suc (n - (i + 1)) = omega arith in rw m

    pub count-end : n ≤ i → kept_count named (n - i) i e ≡ 0
    unfolding kept_count
    count-end h = let m : n - i ≡ 0 = omega arith in rw m

    pub size-end : n ≤ i → kept_bytes named (n - i) i e ≡ 0
    unfolding kept_bytes
    size-end h = let m : n - i ≡ 0 = omega arith in rw m

  -- ---- the entries moved together: those from i on are as they were, and what is left of them gives the whole

  abbrev pub Moved : ℕ → ℕ → List ℕ → List ℕ → ℕ → ℕ → ℕ → Type 0
  Moved n at₀ e₀ e i to at =
      (to ≤ i)
      × (i ≤ n)
      × (n * 4 ≤ length e₀)
      × (length e ≡ length e₀)
      × (drop (i * 4) e ≡ drop (i * 4) e₀)
      × (at + kept_bytes named (n - i) i e₀ ≡ at₀ + kept_bytes named n 0 e₀)
      × (sets e (to * 4) (kept_words named (n - i) i at e₀) ≡ sets e₀ 0 (kept_words named n 0 at₀ e₀))

  module _ (n at₀ : ℕ) (e₀ : List ℕ) where
    -- an entry that is not moved yet
    moved_word : (e : List ℕ) (i to at j : ℕ) → Moved n at₀ e₀ e i to at → get_or e (i * 4 + j) 0 ≡ get_or e₀ (i * 4 + j) 0
    moved_word e i to at j (a, b, h, l, d, u, s) =
        sym (get_or-drop (i * 4) e j 0) ∙ ap (λ (x : List ℕ). get_or x j 0) d ∙ get_or-drop (i * 4) e₀ j 0

    moved-file : (e : List ℕ) (i to at : ℕ) → Moved n at₀ e₀ e i to at → get_or e (i * 4) 0 ≡ get_or e₀ (i * 4) 0
    moved-file e i to at m = let w = moved_word e i to at 0 m in rw (add-zero (i * 4)) at w

    abbrev entry : ℕ → ℕ → List ℕ
    entry i at = get_or e₀ (i * 4) 0 ∷ get_or e₀ (i * 4 + 1) 0 ∷ get_or e₀ (i * 4 + 2) 0 ∷ at ∷ []

    words-turn : (i at : ℕ) → i < n
        → kept_words named (n - i) i at e₀
        ≡ cond (named (get_or e₀ (i * 4) 0)) (kept_words named (n - (i + 1)) (i + 1) at e₀)
        (entry i at ++ kept_words named (n - (i + 1)) (i + 1) (at + get_or e₀ (i * 4 + 2) 0) e₀)
    unfolding kept_words
    words-turn i at h = let m : n - i ≡ suc (n - (i + 1)) = omega arith in rw m

    words-end : (i at : ℕ) → n ≤ i → kept_words named (n - i) i at e₀ ≡ []
    unfolding kept_words
    words-end i at h = let m : n - i ≡ 0 = omega arith in rw m

    rest-same : (e : List ℕ) (i to at : ℕ) → Moved n at₀ e₀ e i to at → drop ((i + 1) * 4) e ≡ drop ((i + 1) * 4) e₀
    rest-same e i to at (a, b, h, l, d, u, s) =
        let p : (i + 1) * 4 ≡ i * 4 + 4 = omega arith in
        rw p (sym (drop-drop 4 (i * 4) e) ∙ ap (drop 4) d ∙ drop-drop 4 (i * 4) e₀)

    -- the bytes of the texts that are kept from an entry on
    bytes-skip : (i : ℕ) → i < n → named (get_or e₀ (i * 4) 0) ≡ true → kept_bytes named (n - i) i e₀ ≡ kept_bytes named (n - (i + 1)) (i + 1) e₀
    bytes-skip i g q = size-turn n i e₀ g ∙ rw q (omega arith)

    bytes-keep : (i : ℕ) → i < n → named (get_or e₀ (i * 4) 0) ≡ false
        → kept_bytes named (n - i) i e₀ ≡ get_or e₀ (i * 4 + 2) 0 + kept_bytes named (n - (i + 1)) (i + 1) e₀
    bytes-keep i g q = size-turn n i e₀ g ∙ rw q

    -- the place of the next text fits a word where all do
    pub moved_fits : (e : List ℕ) (i to at : ℕ) → Moved n at₀ e₀ e i to at → i < n → named (get_or e (i * 4) 0) ≡ false
        → at + get_or e (i * 4 + 2) 0 ≤ at₀ + kept_bytes named n 0 e₀
    moved_fits e i to at (a, b, h, l, d, u, s) g r =
        let m : Moved n at₀ e₀ e i to at = (a, b, h, l, d, u, s) in
        omega (arith, u, bytes-keep i g (rw (moved-file e i to at m) at r), moved_word e i to at 2 m)

    pub moved-skip : (e : List ℕ) (i to at : ℕ) → Moved n at₀ e₀ e i to at → i < n → named (get_or e (i * 4) 0) ≡ true → Moved n at₀ e₀ e (i + 1) to at
    moved-skip e i to at (a, b, h, l, d, u, s) g r =
        let m : Moved n at₀ e₀ e i to at = (a, b, h, l, d, u, s) in
        let w = words-turn i at g in
        let q = rw (moved-file e i to at m) at r in
        (omega arith, omega arith, h, l, rest-same e i to at m, omega (arith, u, bytes-skip i g q), rw (w, q) at s)

    pub moved-keep : (e : List ℕ) (i to at : ℕ) → Moved n at₀ e₀ e i to at → i < n → named (get_or e (i * 4) 0) ≡ false
        → Moved n at₀ e₀ (sets e (to * 4) (get_or e (i * 4) 0 ∷ get_or e (i * 4 + 1) 0 ∷ get_or e (i * 4 + 2) 0 ∷ at ∷ [])) (i + 1) (to + 1) (at + get_or e (i * 4 + 2) 0)
    moved-keep e i to at (a, b, h, l, d, u, s) g r =
        let m : Moved n at₀ e₀ e i to at = (a, b, h, l, d, u, s) in
        let w = words-turn i at g in
        let f = moved-file e i to at m in
        let q = rw f at r in
        let p : (to + 1) * 4 ≡ to * 4 + 4 = omega arith in
        rw (f, moved_word e i to at 1 m, moved_word e i to at 2 m) (
          omega arith,
          omega arith,
          h,
          length-sets e (to * 4) (entry i at) ∙ l,
          drop-sets-le (entry i at) e (to * 4) ((i + 1) * 4) (omega arith) ∙ rest-same e i to at m,
          omega (arith, u, bytes-keep i g q),
          rw p (sym (sets-append (entry i at) (kept_words named (n - (i + 1)) (i + 1) (at + get_or e₀ (i * 4 + 2) 0) e₀) e (to * 4)) ∙ (rw (w, q) at s)),
        )

    pub moved-end : (e : List ℕ) (i to at : ℕ) → Moved n at₀ e₀ e i to at → n ≤ i → e ≡ sets e₀ 0 (kept_words named n 0 at₀ e₀)
    moved-end e i to at (a, b, h, l, d, u, s) g = let w = words-end i at g in rw w at s

  -- the first words of a table, lent and filled, before its others
  pub front-filled : (w e : List ℕ) (k : ℕ) → length w ≤ k → k ≤ length e → sets (take k e) 0 w ++ drop k e ≡ sets e 0 w
  front-filled w e k a b =
      let m = length w in
      let p : sets (take k e) 0 w ≡ w ++ drop (0 + m) (take k e) = sets-eq w (take k e) 0 (omega (arith, length-take-le k e b)) in
      let q : sets e 0 w ≡ w ++ drop (0 + m) e = sets-eq w e 0 (omega arith) in
      let z : 0 + m ≡ m = omega arith in
      let n : m + (k - m) ≡ k = omega arith in
      let r : drop m (take k e) ++ drop k e ≡ drop m e =
      rw (drop-take m k e) (ap (λ (l : List ℕ). take (k - m) (drop m e) ++ l) (ap (λ (j : ℕ). drop j e) (sym n) ∙ sym (drop-drop (k - m) m e)) ∙ take-append-drop (k - m) (drop m e)) in
      rw (p, q, z) (append_assoc w (drop m (take k e)) (drop k e) ∙ ap (λ (l : List ℕ). w ++ l) r)

  -- the kept ones of the first n entries, lent and moved, before the others
  words-short : (n i at : ℕ) (e : List ℕ) → length (kept_words named n i at e) ≤ n * 4
  unfolding kept_words
  words-short zero i at e = omega arith
  words-short (suc n) i at e = either (listed e i) (words-short n (i + 1) at e) (words-short n (i + 1) (at + get_or e (i * 4 + 2) 0) e)
    where
      either : (b : Bool) → length (kept_words named n (i + 1) at e) ≤ n * 4 → length (kept_words named n (i + 1) (at + get_or e (i * 4 + 2) 0) e) ≤ n * 4
          → length (cond b (kept_words named n (i + 1) at e)
          (get_or e (i * 4) 0 ∷ get_or e (i * 4 + 1) 0 ∷ get_or e (i * 4 + 2) 0 ∷ at ∷ kept_words named n (i + 1) (at + get_or e (i * 4 + 2) 0) e)) ≤ suc n * 4
      either true h g = omega arith
      either false h g = omega arith

  words-front : (k n i at : ℕ) (e : List ℕ) → (i + n) * 4 ≤ k → kept_words named n i at (take k e) ≡ kept_words named n i at e
  unfolding kept_words
  words-front k zero i at e h = refl
  words-front k (suc n) i at e h =
      rw (
        get_or-take k e (i * 4) 0 (omega arith),
        get_or-take k e (i * 4 + 1) 0 (omega arith),
        get_or-take k e (i * 4 + 2) 0 (omega arith),
        words-front k n (i + 1) at e (omega arith),
        words-front k n (i + 1) (at + get_or e (i * 4 + 2) 0) e (omega arith),
      )
      refl

  -- the kept ones of the entries in use are counted
  count-front : (k n i : ℕ) (e : List ℕ) → (i + n) * 4 ≤ k → kept_count named n i (take k e) ≡ kept_count named n i e
  unfolding kept_count
  count-front k zero i e h = refl
  count-front k (suc n) i e h = rw (get_or-take k e (i * 4) 0 (omega arith), count-front k n (i + 1) e (omega arith)) refl

  size-front : (k n i : ℕ) (e : List ℕ) → (i + n) * 4 ≤ k → kept_bytes named n i (take k e) ≡ kept_bytes named n i e
  unfolding kept_bytes
  size-front k zero i e h = refl
  size-front k (suc n) i e h =
      rw (get_or-take k e (i * 4) 0 (omega arith), get_or-take k e (i * 4 + 2) 0 (omega arith), size-front k n (i + 1) e (omega arith)) refl

  pub count_in_use : (n : ℕ) (e : List ℕ) → n * 4 ≤ length e
      → (kept_count named (length (take (n * 4) e) / 4) 0 (take (n * 4) e) ≡ kept_count named n 0 e)
      × (kept_bytes named (length (take (n * 4) e) / 4) 0 (take (n * 4) e) ≡ kept_bytes named n 0 e)
  count_in_use n e h =
      let c : length (take (n * 4) e) / 4 ≡ n = omega (arith, length-take-le (n * 4) e h) in
      rw c (count-front (n * 4) n 0 e (omega arith), size-front (n * 4) n 0 e (omega arith))

  pub moved-front : (n at : ℕ) (e x : List ℕ) → n * 4 ≤ length e
      → x ≡ sets (take (n * 4) e) 0 (kept_words named (length (take (n * 4) e) / 4) 0 at (take (n * 4) e))
      → x ++ drop (n * 4) e ≡ sets e 0 (kept_words named n 0 at e)
  moved-front n at e x h q =
      let c : length (take (n * 4) e) / 4 ≡ n = omega (arith, length-take-le (n * 4) e h) in
      let w : x ≡ sets (take (n * 4) e) 0 (kept_words named n 0 at e) = q ∙ rw c (ap (λ (l : List ℕ). sets (take (n * 4) e) 0 l) (words-front (n * 4) n 0 at e (omega arith))) in
      rw w (front-filled (kept_words named n 0 at e) e (n * 4) (words-short n 0 at e) h)

  -- ---- the texts moved together, in the same way

  abbrev pub Joined : ℕ → List ℕ → List ℕ → List ℕ → ℕ → ℕ → ℕ → Type 0
  Joined n e t₀ t i from to =
      (to ≤ from)
      × (i ≤ n)
      × (from + bytes_from (n - i) i e ≤ length t₀)
      × (length t ≡ length t₀)
      × (drop from t ≡ drop from t₀)
      × (sets t to (texts_of (renames_kept named (renames_from (n - i) i e (drop from t₀)))) ≡ sets t₀ 0 (texts_of (renames_kept named (renames_from n 0 e t₀))))

  module _ (n : ℕ) (e t₀ : List ℕ) where
    abbrev len : ℕ → ℕ
    len i = get_or e (i * 4 + 2) 0

    bytes-step : (i : ℕ) → i < n → bytes_from (n - i) i e ≡ len i + bytes_from (n - (i + 1)) (i + 1) e
    unfolding bytes_from
    bytes-step i h = let m : n - i ≡ suc (n - (i + 1)) = omega arith in rw m

    texts-turn : (i from : ℕ) → i < n
        → texts_of (renames_kept named (renames_from (n - i) i e (drop from t₀)))
        ≡ cond (named (get_or e (i * 4) 0)) [] (part_of t₀ from (len i)) ++ texts_of (renames_kept named (renames_from (n - (i + 1)) (i + 1) e (drop (from + len i) t₀)))
    unfolding renames_from
    texts-turn i from h =
        let m : n - i ≡ suc (n - (i + 1)) = omega arith in
        rw (m, ← drop-drop (len i) from t₀) (one-text (listed e i) _ (renames_kept named (renames_from (n - (i + 1)) (i + 1) e (drop (len i) (drop from t₀)))))

    texts-end : (i from : ℕ) → n ≤ i → texts_of (renames_kept named (renames_from (n - i) i e (drop from t₀))) ≡ []
    unfolding renames_from
    texts-end i from h = let m : n - i ≡ 0 = omega arith in rw m

    text-rest : (t : List ℕ) (i from to : ℕ) → Joined n e t₀ t i from to → drop (from + len i) t ≡ drop (from + len i) t₀
    text-rest t i from to (a, b, h, l, d, s) = sym (drop-drop (len i) from t) ∙ ap (drop (len i)) d ∙ drop-drop (len i) from t₀

    -- a text that lies where it lay
    joined-part : (t : List ℕ) (i from to : ℕ) → Joined n e t₀ t i from to → part_of t from (len i) ≡ part_of t₀ from (len i)
    joined-part t i from to (a, b, h, l, d, s) = ap (take (len i)) d

    pub joined_in : (t : List ℕ) (i from to : ℕ) → Joined n e t₀ t i from to → i < n → from + get_or e (i * 4 + 2) 0 ≤ length t
    joined_in t i from to (a, b, h, l, d, s) g = omega (arith, bytes-step i g)

    pub joined-skip : (t : List ℕ) (i from to : ℕ) → Joined n e t₀ t i from to → i < n → named (get_or e (i * 4) 0) ≡ true
        → Joined n e t₀ t (i + 1) (from + get_or e (i * 4 + 2) 0) to
    joined-skip t i from to (a, b, h, l, d, s) g q =
        let w = texts-turn i from g in
        (omega arith, omega arith, omega (arith, bytes-step i g), l, text-rest t i from to (a, b, h, l, d, s), rw (w, q) at s)

    pub joined-keep : (t : List ℕ) (i from to : ℕ) → Joined n e t₀ t i from to → i < n → named (get_or e (i * 4) 0) ≡ false
        → Joined n e t₀ (sets t to (part_of t from (get_or e (i * 4 + 2) 0))) (i + 1) (from + get_or e (i * 4 + 2) 0) (to + get_or e (i * 4 + 2) 0)
    joined-keep t i from to (a, b, h, l, d, s) g q =
        let w = texts-turn i from g in
        let part = part_of t from (len i) in
        let same = joined-part t i from to (a, b, h, l, d, s) in
        let k : length part ≡ len i = length-take-le (len i) (drop from t) (omega (arith, length-drop from t, bytes-step i g)) in
        let u = sets-append part (texts_of (renames_kept named (renames_from (n - (i + 1)) (i + 1) e (drop (from + len i) t₀)))) t to in (
          omega arith,
          omega arith,
          omega (arith, bytes-step i g),
          length-sets t to part ∙ l,
          drop-sets-le part t to (from + len i) (omega arith) ∙ text-rest t i from to (a, b, h, l, d, s),
          sym (rw k at u) ∙ rw same ((rw (w, q) at s)),
        )

    pub joined_end : (t : List ℕ) (i from to : ℕ) → Joined n e t₀ t i from to → n ≤ i → t ≡ sets t₀ 0 (texts_of (renames_kept named (renames_from n 0 e t₀)))
    joined_end t i from to (a, b, h, l, d, s) g = let w = texts-end i from g in rw w at s

-- ---- for the functions that count and move them

pub ruleset counting = (count_turn, size-turn, count-end, size-end, kept-few, kept-short)

pub ruleset moving = (moved_fits, moved-skip, moved-keep, moved-end)

pub ruleset joining = (joined_in, joined-skip, joined-keep, joined_end)
