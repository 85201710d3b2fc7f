-- Laws of where texts begin: one entry of the check, where the text of an entry begins, and a table after the texts of some of its
-- entries are placed. They rely on the definitions of specs/Renames.antt and specs/private/Slots.antt.
use Prim.Native.Nat.{ℕ, zero, suc, ◌+◌, ◌-◌, ◌*◌, ◌≤◌, ◌<◌}
use mathlib.Core.Path.{◌≡◌, refl, sym, ◌∙◌}
use mathlib.Core.Bool.{true, ◌&&◌}
use mathlib.Core.List.{List, [], ◌∷◌, ◌++◌, append_assoc}
use native.Mathlib.Nat.{zero-add, add-zero}
use native.Mathlib.Omega.{arith}
use borrow.Author.Tests.{eqb-true}
use lib.Dec.{eqb}
use lib.ListN.{length, get_or, length-append}
use Rattle.std.specs.Prelude.{set}
use Rattle.std.proofs.lemmas.List.{get_or-set_other, get_or-append_right, set-append_right}
use Rattle.rules.proofs.Rules.{both_true}
use Rattle.renames.specs.Renames.{Renamed, mode_word, placed_from, words_from, texts_of}
use Rattle.renames.specs.private.Slots.{bytes_from, with_places}

-- one entry of the check, or its end
module _ (n i at : ℕ) (e : List ℕ) where
  pub place_turn : i < n → placed_from (n - i) i at e
      ≡ (eqb (get_or e (i * 4 + 3) 0) at && placed_from (n - (i + 1)) (i + 1) (at + get_or e (i * 4 + 2) 0) e)
  unfolding placed_from
  place_turn h = let m : n - i ≡ suc (n - (i + 1)) = omega arith in rw m

  pub place_end : n ≤ i → placed_from (n - i) i at e ≡ true
  unfolding placed_from
  place_end h = let m : n - i ≡ 0 = omega arith in rw m

-- the bytes of the texts from an entry on
module _ (n i : ℕ) (e : List ℕ) where
  pub bytes_turn : i < n → bytes_from (n - i) i e ≡ get_or e (i * 4 + 2) 0 + bytes_from (n - (i + 1)) (i + 1) e
  unfolding bytes_from
  bytes_turn h = let m : n - i ≡ suc (n - (i + 1)) = omega arith in rw m

pub ruleset turns = (place_turn, place_end, bytes_turn)

-- the text of entry i + j begins behind those of the j before it
pub place-at : (n i at : ℕ) (e : List ℕ) → placed_from n i at e ≡ true → (j : ℕ) → j < n → get_or e ((i + j) * 4 + 3) 0 ≡ at + bytes_from j i e
unfolding placed_from bytes_from
place-at zero i at e h j l = absurd (omega arith)
place-at (suc n) i at e h zero l =
    let p = both_true (eqb (get_or e (i * 4 + 3) 0) at) (placed_from n (i + 1) (at + get_or e (i * 4 + 2) 0) e) h in
    rw (add-zero i, add-zero at) (eqb-true _ _ p.0)
place-at (suc n) i at e h (suc j) l =
    let p = both_true (eqb (get_or e (i * 4 + 3) 0) at) (placed_from n (i + 1) (at + get_or e (i * 4 + 2) 0) e) h in
    let z : i + suc j ≡ i + 1 + j = omega arith in
    rw z (place-at n (i + 1) (at + get_or e (i * 4 + 2) 0) e p.1 j (omega arith) ∙ omega arith)

-- ---- texts are placed

-- one entry more, or none
module _ (n i at : ℕ) (e : List ℕ) where
  pub with_turn : i < n → with_places (n - i) i at e ≡ with_places (n - (i + 1)) (i + 1) (at + get_or e (i * 4 + 2) 0) (set e (i * 4 + 3) at)
  unfolding with_places
  with_turn h = let m : n - i ≡ suc (n - (i + 1)) = omega arith in rw m

  pub with_end : n ≤ i → with_places (n - i) i at e ≡ e
  unfolding with_places
  with_end h = let m : n - i ≡ 0 = omega arith in rw m

pub ruleset placings = (with_turn, with_end)

with-step : (n i at : ℕ) (e : List ℕ) → with_places (suc n) i at e ≡ with_places n (i + 1) (at + get_or e (i * 4 + 2) 0) (set e (i * 4 + 3) at)
unfolding with_places
with-step n i at e = refl

-- the bytes of the texts behind an entry don't hang on where its own text is said to begin
pub bytes-set : (n j i x : ℕ) (e : List ℕ) → bytes_from n j (set e (i * 4 + 3) x) ≡ bytes_from n j e
unfolding bytes_from
bytes-set zero j i x e = refl
bytes-set (suc n) j i x e =
    rw (get_or-set_other e (i * 4 + 3) (j * 4 + 2) x 0 (λ q. omega arith), bytes-set n (j + 1) i x e)

-- the entries in front of others, and those behind them
pub placed-front : (k m i at : ℕ) (e : List ℕ) → placed_from (k + m) i at e ≡ true → placed_from k i at e ≡ true
unfolding placed_from
placed-front zero m i at e h = refl
placed-front (suc k) m i at e h =
    let z : suc k + m ≡ suc (k + m) = omega arith in
    let a = get_or e (i * 4 + 2) 0 in
    let p = both_true (eqb (get_or e (i * 4 + 3) 0) at) (placed_from (k + m) (i + 1) (at + a) e) (rw z at h) in
    rw (p.0, placed-front k m (i + 1) (at + a) e p.1)

pub placed-behind : (k m i at : ℕ) (e : List ℕ) → placed_from (k + m) i at e ≡ true → placed_from m (i + k) (at + bytes_from k i e) e ≡ true
unfolding placed_from bytes_from
placed-behind zero m i at e h = rw (add-zero i, add-zero at) (rw (zero-add m) at h)
placed-behind (suc k) m i at e h =
    let z : suc k + m ≡ suc (k + m) = omega arith in
    let a = get_or e (i * 4 + 2) 0 in
    let p = both_true (eqb (get_or e (i * 4 + 3) 0) at) (placed_from (k + m) (i + 1) (at + a) e) (rw z at h) in
    let x : i + suc k ≡ i + 1 + k = omega arith in
    let y : at + (a + bytes_from k (i + 1) e) ≡ at + a + bytes_from k (i + 1) e = omega arith in
    rw (x, y) (placed-behind k m (i + 1) (at + a) e p.1)

-- a list of renames among other words, its texts placed anew
pub placed-list : (rs : List Renamed) (i a at : ℕ) (pre post : List ℕ) → length pre ≡ i * 4
    → with_places (length rs) i at (pre ++ (words_from a rs ++ post)) ≡ pre ++ (words_from at rs ++ post)
unfolding with_places
placed-list [] i a at pre post h = refl
placed-list (r ∷ rs) i a at pre post h =
    let w = words_from (a + length r.name) rs ++ post in
    let own : List ℕ = r.file ∷ mode_word r.mode ∷ length r.name ∷ a ∷ w in
    let new : List ℕ = r.file ∷ mode_word r.mode ∷ length r.name ∷ at ∷ [] in
    let two : i * 4 + 2 - i * 4 ≡ 2 = omega arith in
    let three : i * 4 + 3 - i * 4 ≡ 3 = omega arith in
    let len : get_or (pre ++ own) (i * 4 + 2) 0 ≡ length r.name = get_or-append_right pre own (i * 4) (i * 4 + 2) 0 h (omega arith) ∙ rw two in
    let put : set (pre ++ own) (i * 4 + 3) at ≡ (pre ++ new) ++ w =
    set-append_right pre own (i * 4) (i * 4 + 3) at h (omega arith) ∙ rw three (sym (append_assoc pre new w)) in
    let long : length (pre ++ new) ≡ (i + 1) * 4 = length-append pre new ∙ omega (arith, h) in
    with-step (length rs) i at (pre ++ own)
    ∙ rw (len, put)
    (placed-list rs (i + 1) (a + length r.name) (at + length r.name) (pre ++ new) post long
    ∙ append_assoc pre new (words_from (at + length r.name) rs ++ post))

-- and how many words they are
pub length-words : (at : ℕ) (rs : List Renamed) → length (words_from at rs) ≡ length rs * 4
length-words at [] = refl
length-words at (r ∷ rs) = omega (arith, length-words (at + length r.name) rs)

-- the bytes of the texts, read off the words
pub bytes-list : (rs : List Renamed) (i a : ℕ) (pre post : List ℕ) → length pre ≡ i * 4
    → bytes_from (length rs) i (pre ++ (words_from a rs ++ post)) ≡ length (texts_of rs)
unfolding bytes_from
bytes-list [] i a pre post h = refl
bytes-list (r ∷ rs) i a pre post h =
    let w = words_from (a + length r.name) rs ++ post in
    let new : List ℕ = r.file ∷ mode_word r.mode ∷ length r.name ∷ a ∷ [] in
    let two : i * 4 + 2 - i * 4 ≡ 2 = omega arith in
    let len : get_or (pre ++ (new ++ w)) (i * 4 + 2) 0 ≡ length r.name = get_or-append_right pre (new ++ w) (i * 4) (i * 4 + 2) 0 h (omega arith) ∙ rw two in
    let long : length (pre ++ new) ≡ (i + 1) * 4 = length-append pre new ∙ omega (arith, h) in
    let ih = bytes-list rs (i + 1) (a + length r.name) (pre ++ new) post long in
    rw (len, ← append_assoc pre new w, ih, length-append r.name (texts_of rs))
