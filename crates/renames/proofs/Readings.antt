-- Laws of the list that the lent tables read: on tables in order it reads back as their words and texts, and with a rename more
-- both tables are spliced. They rely on the laws of proofs/Ordered.antt and proofs/Slots.antt.
use Prim.Native.Nat.{ℕ, zero, suc, ◌+◌, ◌-◌, ◌*◌, ◌≤◌, ◌<◌}
use mathlib.Core.Path.{◌≡◌, refl, sym, ap, ◌∙◌}
use mathlib.Core.Bool.{Bool, true, cond, ◌&&◌}
use mathlib.Core.Logic.{◌⊎◌, inl, inr}
use mathlib.Core.List.{List, [], ◌∷◌, ◌++◌, append_assoc}
use native.Mathlib.Nat.{zero-add, add-zero, sub-zero}
use native.Mathlib.Omega.{arith}
use borrow.Author.Tests.{lt-ltb, le-ltb, ne_eqb, eq-eqb, eqb-true}
use lib.Dec.{eqb, ltb}
use lib.ListN.{length, get_or, take, drop, length-drop, length-append}
use lib.Seq.{take-add, drop-cons, drop-drop, length-take-le}
use Rattle.lists.proofs.Orders.{le-or-lt}
use Rattle.rules.proofs.Rules.{both_true}
use Rattle.renames.specs.Renames.{Renamed, mode_word, mode_of, renames_from, placed_from, words_from, texts_of, with_rename}
use Rattle.renames.specs.private.Slots.{bytes_from}
use Rattle.renames.proofs.Halves.{below_from}

-- ---- what the tables read

-- a mode's word is read back
pub mode-word : (m : ℕ) → m ≤ 2 → mode_word (mode_of m) ≡ m
mode-word zero h = refl
mode-word (suc zero) h = refl
mode-word (suc (suc zero)) h = refl
mode-word (suc (suc (suc m))) h = absurd (omega arith)

pub length-renames : (n i : ℕ) (e t : List ℕ) → length (renames_from n i e t) ≡ n
unfolding renames_from
length-renames zero i e t = refl
length-renames (suc n) i e t = ap suc (length-renames n (i + 1) e (drop (get_or e (i * 4 + 2) 0) t))

-- the texts are the first bytes of the text area
pub texts-back : (n i : ℕ) (e t : List ℕ) → texts_of (renames_from n i e t) ≡ take (bytes_from n i e) t
unfolding renames_from bytes_from
texts-back zero i e t = refl
texts-back (suc n) i e t =
    let l = get_or e (i * 4 + 2) 0 in
    rw (texts-back n (i + 1) e (drop l t)) (sym (take-add l (bytes_from n (i + 1) e) t))

-- the words are those of the entries, where the modes are words of modes and the texts lie in the text area, where they are said to
pub words_back : (n i at : ℕ) (e t : List ℕ) → ((j : ℕ) → i ≤ j → j < i + n → get_or e (j * 4 + 1) 0 ≤ 2) → placed_from n i at e ≡ true
    → (i + n) * 4 ≤ length e → bytes_from n i e ≤ length t → words_from at (renames_from n i e t) ≡ take (n * 4) (drop (i * 4) e)
unfolding renames_from bytes_from placed_from
words_back zero i at e t m p h b = refl
words_back (suc n) i at e t m p h b =
    let l = get_or e (i * 4 + 2) 0 in
    let o = both_true (eqb (get_or e (i * 4 + 3) 0) at) (placed_from n (i + 1) (at + l) e) p in
    let f = drop-cons e (i * 4) 0 (omega arith) in
    let p1 : i * 4 + 1 ≡ suc (i * 4) = omega arith in
    let p2 : i * 4 + 2 ≡ suc (suc (i * 4)) = omega arith in
    let p3 : i * 4 + 3 ≡ suc (suc (suc (i * 4))) = omega arith in
    let p4 : (i + 1) * 4 ≡ suc (suc (suc (suc (i * 4)))) = omega arith in
    let g : drop (suc (i * 4)) e ≡ get_or e (i * 4 + 1) 0 ∷ drop (suc (suc (i * 4))) e = rw p1 (drop-cons e (suc (i * 4)) 0 (omega arith)) in
    let k : drop (suc (suc (i * 4))) e ≡ get_or e (i * 4 + 2) 0 ∷ drop (suc (suc (suc (i * 4)))) e = rw p2 (drop-cons e (suc (suc (i * 4))) 0 (omega arith)) in
    let w : drop (suc (suc (suc (i * 4)))) e ≡ get_or e (i * 4 + 3) 0 ∷ drop ((i + 1) * 4) e = rw (p3, p4) (drop-cons e (suc (suc (suc (i * 4)))) 0 (omega arith)) in
    let q : suc n * 4 ≡ suc (suc (suc (suc (n * 4)))) = omega arith in
    let ih = words_back n (i + 1) (at + l) e (drop l t) (λ j a c. m j (omega arith) (omega arith)) o.1 (omega arith) (omega (arith, length-drop l t)) in
    rw (q, f, g, k, w, eqb-true _ _ o.0, mode-word (get_or e (i * 4 + 1) 0) (m i (omega arith) (omega arith)), length-take-le l t (omega arith))
    (ap (λ (r : List ℕ). get_or e (i * 4) 0 ∷ get_or e (i * 4 + 1) 0 ∷ l ∷ at ∷ r) ih)

pub words_append : (at : ℕ) (a b : List Renamed) → words_from at (a ++ b) ≡ words_from at a ++ words_from (at + length (texts_of a)) b
words_append at [] b = rw (add-zero at)
words_append at (r ∷ a) b =
    let z : at + length r.name + length (texts_of a) ≡ at + (length r.name + length (texts_of a)) = omega arith in
    rw (length-append r.name (texts_of a), ← z)
    (ap (λ (x : List ℕ). r.file ∷ mode_word r.mode ∷ length r.name ∷ at ∷ x) (words_append (at + length r.name) a b))

pub texts-append : (a b : List Renamed) → texts_of (a ++ b) ≡ texts_of a ++ texts_of b
texts-append [] b = refl
texts-append (r ∷ a) b = rw (texts-append a b) (sym (append_assoc r.name (texts_of a) (texts_of b)))

-- ---- a rename more

-- the list with a rename: those before its slot, itself, and those after what it had already
abbrev renames_with : Renamed → ℕ → ℕ → ℕ → ℕ → ℕ → List ℕ → List ℕ → List Renamed
renames_with r n i k s old e t =
    renames_from k i e t ++ (r ∷ renames_from (n - (k + s)) (i + (k + s)) e (drop (bytes_from k i e + old) t))

-- whether entry i + k is one of the n from entry i on, and has that number
abbrev pub is_named_from : ℕ → ℕ → ℕ → ℕ → List ℕ → Bool
is_named_from n file i k e = ltb k n && eqb (get_or e ((i + k) * 4) 0) file

-- one rename that stands before the slot
module _ (r : Renamed) (n i k s old : ℕ) (e t : List ℕ) where
  abbrev first : Renamed
  first =
      record {
        file = get_or e (i * 4) 0;
        mode = mode_of (get_or e (i * 4 + 1) 0);
        name = take (get_or e (i * 4 + 2) 0) t;
      }

  with-behind : first ∷ renames_with r n (i + 1) k s old e (drop (get_or e (i * 4 + 2) 0) t) ≡ renames_with r (suc n) i (k + 1) s old e t
  unfolding renames_from bytes_from
  with-behind =
      let l = get_or e (i * 4 + 2) 0 in
      let p : k + 1 ≡ suc k = omega arith in
      let q : suc n - (suc k + s) ≡ n - (k + s) = omega arith in
      let w : i + (suc k + s) ≡ i + 1 + (k + s) = omega arith in
      let d : l + bytes_from k (i + 1) e + old ≡ l + (bytes_from k (i + 1) e + old) = omega arith in
      rw (p, q, w, d, ← drop-drop (bytes_from k (i + 1) e + old) l t)

pub ltb-both : (a b : ℕ) → ltb (a + 1) (suc b) ≡ ltb a b
ltb-both a b = at (le-or-lt b a)
  where
    at : (b ≤ a) ⊎ (a < b) → ltb (a + 1) (suc b) ≡ ltb a b
    at (inl h) = rw (le-ltb (a + 1) (suc b) (omega arith), le-ltb a b h)
    at (inr h) = rw (lt-ltb (a + 1) (suc b) (omega arith), lt-ltb a b h)

-- where the slot is, and what it has already
module _ (r : Renamed) (n i : ℕ) (e t : List ℕ) where
  abbrev Placed : ℕ → Type 0
  Placed k =
      with_rename r (renames_from n i e t)
      ≡ renames_with r n i k (cond (is_named_from n r.file i k e) 1 0) (cond (is_named_from n r.file i k e) (get_or e ((i + k) * 4 + 2) 0) 0) e t

pub with-rename : (r : Renamed) (n i : ℕ) (e t : List ℕ) → Placed r n i e t (below_from n i r.file e)
unfolding renames_from below_from bytes_from
with-rename r zero i e t = refl
with-rename r (suc n) i e t =
    step (le-or-lt r.file (get_or e (i * 4) 0)) (le-or-lt (get_or e (i * 4) 0) r.file) (with-rename r n (i + 1) e (drop (get_or e (i * 4 + 2) 0) t))
  where
    step : (r.file ≤ get_or e (i * 4) 0) ⊎ (get_or e (i * 4) 0 < r.file) → (get_or e (i * 4) 0 ≤ r.file) ⊎ (r.file < get_or e (i * 4) 0)
        → Placed r n (i + 1) e (drop (get_or e (i * 4 + 2) 0) t) (below_from n (i + 1) r.file e)
        → Placed r (suc n) i e t (below_from (suc n) i r.file e)
    step (inr h) b ih =
        let f = get_or e (i * 4) 0 in
        let k = below_from n (i + 1) r.file e in
        let w : i + (k + 1) ≡ i + 1 + k = omega arith in
        let named = is_named_from n r.file (i + 1) k e in
        rw (le-ltb r.file f (omega arith), ne_eqb r.file f (λ q. omega arith), lt-ltb f r.file h, ltb-both k n, w)
        (ap (λ (x : List Renamed). first r n i k 0 0 e t ∷ x) ih ∙ with-behind r n i k (cond named 1 0) (cond named (get_or e ((i + 1 + k) * 4 + 2) 0) 0) e t)
    step (inl h) (inr g) ih =
        let f = get_or e (i * 4) 0 in
        rw (lt-ltb r.file f g, le-ltb f r.file h, lt-ltb 0 (suc n) (omega arith), add-zero i, ne_eqb f r.file (λ q. omega arith), sub-zero (suc n), add-zero i)
    step (inl h) (inl g) ih =
        let f = get_or e (i * 4) 0 in
        let q : suc n - 1 ≡ n = omega arith in
        rw (le-ltb r.file f g, eq-eqb r.file f (omega arith), le-ltb f r.file h, lt-ltb 0 (suc n) (omega arith), add-zero i, eq-eqb f r.file (omega arith), q, zero-add (get_or e (i * 4 + 2) 0))
