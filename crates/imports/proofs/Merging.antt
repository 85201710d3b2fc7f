-- Laws of the merge: one file of it in the lists and in the tables, that nothing unread is overwritten, and that the tables hold the
-- whole in the end. They rely on the laws of `renames` (its proofs/Readings.antt).
use Prim.Native.Nat.{ℕ, zero, suc, ◌+◌, ◌-◌, ◌*◌, ◌≤◌, ◌<◌}
use mathlib.Core.Path.{◌≡◌, refl, sym, ap, ◌∙◌}
use mathlib.Core.Bool.{Bool, true, false, cond, true≢false}
use mathlib.Core.Logic.{◌⊎◌, inl, inr}
use mathlib.Core.List.{List, [], ◌∷◌, ◌++◌, append-nil, append_assoc}
use native.Mathlib.Nat.{add-zero}
use native.Mathlib.Omega.{arith}
use borrow.Author.Tests.{lt-ltb, le-ltb, ltb-true}
use lib.Dec.{eqb, ltb}
use lib.ListN.{length, get_or, take, drop, length-append, length-drop, take-append-drop}
use lib.Seq.{sets, sets-eq, length-sets, length-take-le, drop-drop, get_or-drop}
use Rattle.lists.specs.Lists.{part_of}
use Rattle.lists.proofs.Orders.{le-or-lt}
use Rattle.lists.proofs.Runs.{sets-append, drop-sets-le}
use Rattle.rules.proofs.Rules.{both_true}
use Rattle.renames.specs.declared.rename.RenameMode.TheVariants.{FullPath}
use Rattle.imports.specs.declared.merge.Place.{Place}
use Rattle.renames.specs.Renames.{Renamed, mode_of, placed_from, renames_from, words_from, words_of, texts_of}
use Rattle.renames.specs.Finding.{entry_is_named}
use Rattle.renames.specs.private.Slots.{bytes_from}
use Rattle.imports.specs.private.Merging.{own_at, left_at, step_at, rest_at, merged_from, kept_in, step_words, step_text, step_place}
use Rattle.renames.proofs.Placed.{place_turn, length-words}
use Rattle.renames.proofs.Readings.{mode-word, length-renames, texts-back, words_back, words_append, texts-append}

-- ---- the lists

module _ (named : ℕ → Bool) (given : ℕ → Renamed) where
  pub merged-turn : (files k : ℕ) (rs : List Renamed) → k < files
      → merged_from named given (files - k) k rs ≡ step_at named given k rs ++ merged_from named given (files - (k + 1)) (k + 1) (rest_at named k rs)
  unfolding merged_from
  merged-turn files k rs h = let m : files - k ≡ suc (files - (k + 1)) = omega arith in rw m

  pub merged-end : (files k : ℕ) (rs : List Renamed) → files ≤ k → merged_from named given (files - k) k rs ≡ rs
  unfolding merged_from
  merged-end files k rs h = let m : files - k ≡ 0 = omega arith in rw m

  -- none of the kept ones is lost
  abbrev More : List Renamed → List Renamed → Type 0
  More rs all = (length rs ≤ length all) × (length (texts_of rs) ≤ length (texts_of all))

  step-more : (k : ℕ) (rs all : List Renamed) (b : Bool) → More (cond b rs (left_at k rs)) all → More rs (cond b (given k ∷ []) (own_at k rs) ++ all)
  step-more k rs all true (x, y) = (omega (arith, x), omega (arith, y, length-append (given k).name (texts_of all)))
  step-more k [] all false (x, y) = (omega arith, omega arith)
  step-more k (r ∷ rs) all false m = at (eqb r.file k) m
    where
      at : (c : Bool) → More (cond c rs (r ∷ rs)) all → More (r ∷ rs) (cond c (r ∷ []) [] ++ all)
      at true (x, y) = (omega (arith, x), omega (arith, y, length-append r.name (texts_of rs), length-append r.name (texts_of all)))
      at false (x, y) = (x, y)

  pub merged-more : (n k : ℕ) (rs : List Renamed) → More rs (merged_from named given n k rs)
  unfolding merged_from
  merged-more zero k rs = (omega arith, omega arith)
  merged-more (suc n) k rs = step-more k rs (merged_from named given n (k + 1) (rest_at named k rs)) (named k) (merged-more n (k + 1) (rest_at named k rs))

-- ---- the kept ones in the tables

module _ (total : ℕ) (e t : List ℕ) where
  abbrev len : ℕ → ℕ
  len i = get_or e (i * 4 + 2) 0

  abbrev first_in : ℕ → ℕ → Renamed
  first_in i from = record { file = get_or e (i * 4) 0; mode = mode_of (get_or e (i * 4 + 1) 0); name = part_of t from (get_or e (i * 4 + 2) 0) }

  kept-first : (i from : ℕ) → i < total → kept_in total i from e t ≡ first_in i from ∷ kept_in total (i + 1) (from + get_or e (i * 4 + 2) 0) e t
  unfolding renames_from
  kept-first i from h =
      let m : total - i ≡ suc (total - (i + 1)) = omega arith in
      rw (m, ← drop-drop (len i) from t)

  kept-none : (i from : ℕ) → total ≤ i → kept_in total i from e t ≡ []
  unfolding renames_from
  kept-none i from h = let m : total - i ≡ 0 = omega arith in rw m

  bytes-first : (i : ℕ) → i < total → bytes_from (total - i) i e ≡ get_or e (i * 4 + 2) 0 + bytes_from (total - (i + 1)) (i + 1) e
  unfolding bytes_from
  bytes-first i h = let m : total - i ≡ suc (total - (i + 1)) = omega arith in rw m

  placed-next : (i from : ℕ) → i < total → placed_from (total - i) i from e ≡ true → placed_from (total - (i + 1)) (i + 1) (from + get_or e (i * 4 + 2) 0) e ≡ true
  placed-next i from h q =
      (both_true (eqb (get_or e (i * 4 + 3) 0) from) (placed_from (total - (i + 1)) (i + 1) (from + get_or e (i * 4 + 2) 0) e) (sym (place_turn total i from e h) ∙ q)).1

  pub kept-size : (i from : ℕ) → from + bytes_from (total - i) i e ≤ length t → length (texts_of (kept_in total i from e t)) ≡ bytes_from (total - i) i e
  kept-size i from h =
      ap length (texts-back (total - i) i e (drop from t)) ∙ length-take-le (bytes_from (total - i) i e) (drop from t) (omega (arith, length-drop from t))

  -- one file: what is written is what it gets, and the place after it is that of the kept ones that are left
  module _ (named : ℕ → Bool) (given : ℕ → Renamed) (k : ℕ) (p : Place) (file : (given k).file ≡ k) (mode : (given k).mode ≡ FullPath)
      (modes : (j : ℕ) → p.next ≤ j → j < total → get_or e (j * 4 + 1) 0 ≤ 2) (placed : placed_from (total - p.next) p.next p.from e ≡ true) (fits : p.from + bytes_from (total - p.next) p.next e ≤ length t) (here : p.next ≤ total) where
    abbrev rs : List Renamed
    rs = kept_in total p.next p.from e t

    pub record Stepped (words text : List ℕ) (q : Place) (step rest : List Renamed) : Type 0 where
      pub words_are : words ≡ words_from p.at step
      pub text-is : text ≡ texts_of step
      pub to_is : q.to ≡ p.to + length step
      pub at-is : q.at ≡ p.at + length (texts_of step)
      pub rest-is : rest ≡ kept_in total q.next q.from e t
      pub placed-are : placed_from (total - q.next) q.next q.from e ≡ true
      pub ends-are : q.from + bytes_from (total - q.next) q.next e ≡ p.from + bytes_from (total - p.next) p.next e
      pub here-is : (p.next ≤ q.next) × (q.next ≤ total) × (p.from ≤ q.from)

    abbrev new : List ℕ
    new = (given k).name

    abbrev old : ℕ
    old = get_or e (p.next * 4 + 2) 0

    abbrev Step : Bool → Bool → List Renamed → List Renamed → Type 0
    Step noted own step rest = Stepped (step_words noted own k p.at new e p.next) (step_text noted own new t p.from old) (step_place noted own (length new) old p) step rest

    step_given : (own : Bool) → Step true own (given k ∷ []) rs
    step_given own =
        let n = append-nil new in
        record {
          words_are = rw (file, mode);
          text-is = sym n;
          to_is = refl;
          at-is = rw n;
          rest-is = refl;
          placed-are = placed;
          ends-are = refl;
          here-is = (omega arith, here, omega arith);
        }

    step_kept : p.next < total → Step false true (first_in p.next p.from ∷ []) (kept_in total (p.next + 1) (p.from + old) e t)
    step_kept h =
        let n = append-nil (part_of t p.from old) in
        let l : length (part_of t p.from old) ≡ old = length-take-le old (drop p.from t) (omega (arith, length-drop p.from t, bytes-first p.next h)) in
        record {
          words_are = rw (mode-word (get_or e (p.next * 4 + 1) 0) (modes p.next (omega arith) h), l);
          text-is = sym n;
          to_is = refl;
          at-is = rw (n, l);
          rest-is = refl;
          placed-are = placed-next p.next p.from h placed;
          ends-are = omega (arith, bytes-first p.next h);
          here-is = (omega arith, omega arith, omega arith);
        }

    step-none : Step false false [] rs
    step-none =
        record {
          words_are = refl;
          text-is = refl;
          to_is = omega arith;
          at-is = omega arith;
          rest-is = refl;
          placed-are = placed;
          ends-are = refl;
          here-is = (omega arith, here, omega arith);
        }

    -- the file's own rename is the next of the kept ones
    step-own : (own : Bool) → entry_is_named total k p.next e ≡ own → Step false own (own_at k rs) (left_at k rs)
    step-own own h = at (le-or-lt total p.next) own h
      where
        more : p.next < total → (own : Bool) → eqb (get_or e (p.next * 4) 0) k ≡ own
            → Step false own (own_at k (first_in p.next p.from ∷ kept_in total (p.next + 1) (p.from + old) e t)) (left_at k (first_in p.next p.from ∷ kept_in total (p.next + 1) (p.from + old) e t))
        more g true q = rw q (step_kept g)
        more g false q = let s = step-none in let f = kept-first p.next p.from g in rw q (rw f at s)

        at : (total ≤ p.next) ⊎ (p.next < total) → (own : Bool) → entry_is_named total k p.next e ≡ own → Step false own (own_at k rs) (left_at k rs)
        at (inl g) true q = absurd (true≢false (sym q ∙ rw (le-ltb p.next total g)))
        at (inl g) false q = let n = kept-none p.next p.from g in let s = step-none in rw n (rw n at s)
        at (inr g) own q = let w = lt-ltb p.next total g in rw (kept-first p.next p.from g) (more g own (rw w at q))

    pub stepped : (noted own : Bool) → named k ≡ noted → entry_is_named total k p.next e ≡ own
        → Stepped (step_words noted own k p.at new e p.next) (step_text noted own new t p.from old) (step_place noted own (length new) old p) (step_at named given k rs) (rest_at named k rs)
    stepped true own a b = rw a (step_given own)
    stepped false own a b = rw a (step-own own b)

-- ---- the whole merge

-- a table's own cells, written where they stand, change nothing
sets-still : (l : List ℕ) (i n : ℕ) → i + n ≤ length l → sets l i (take n (drop i l)) ≡ l
sets-still l i n h =
    let k : length (take n (drop i l)) ≡ n = length-take-le n (drop i l) (omega (arith, length-drop i l)) in
    sets-eq (take n (drop i l)) l i (omega arith)
    ∙ rw (k, ← drop-drop n i l, append_assoc, take-append-drop n (drop i l), take-append-drop i l)

-- what agrees from a on agrees further on
drop-further : (a b : ℕ) (x y : List ℕ) → a ≤ b → drop a x ≡ drop a y → drop b x ≡ drop b y
drop-further a b x y h e =
    let q : b ≡ a + (b - a) = omega arith in
    rw q (sym (drop-drop (b - a) a x) ∙ ap (drop (b - a)) e ∙ drop-drop (b - a) a y)

-- the files are gone through from the kept ones at entry n₀ and byte f₀
module _ (named : ℕ → Bool) (given : ℕ → Renamed) (file : (k : ℕ) → (given k).file ≡ k) (mode : (k : ℕ) → (given k).mode ≡ FullPath) (files total n₀ f₀ : ℕ) (e₀ t₀ : List ℕ) where
  abbrev whole : List Renamed
  whole = merged_from named given files 0 (kept_in total n₀ f₀ e₀ t₀)

  abbrev left : ℕ → Place → List Renamed
  left k p = merged_from named given (files - k) k (kept_in total p.next p.from e₀ t₀)

  abbrev end : Place → ℕ
  end p = p.from + bytes_from (total - p.next) p.next e₀

  -- the files before k have got what they get: the kept ones that are left are as they were, and what is left to write gives the whole
  pub record Going (k : ℕ) (p : Place) (e t : List ℕ) : Type 0 where
    pub bound : k ≤ files
    pub words : length e ≡ length e₀
    pub bytes : length t ≡ length t₀
    pub held : total * 4 ≤ length e₀
    pub modes : (j : ℕ) → p.next ≤ j → j < total → get_or e₀ (j * 4 + 1) 0 ≤ 2
    pub placed : placed_from (total - p.next) p.next p.from e₀ ≡ true
    pub here : p.next ≤ total
    pub entries : drop (p.next * 4) e ≡ drop (p.next * 4) e₀
    pub text : drop p.from t ≡ drop p.from t₀
    pub fits : end p ≤ length t₀
    pub count : p.to + length (left k p) ≡ total
    pub size : p.at + length (texts_of (left k p)) ≡ end p
    pub left-entries : sets e (p.to * 4) (words_from p.at (left k p)) ≡ sets e₀ 0 (words_of whole)
    pub left-text : sets t p.at (texts_of (left k p)) ≡ sets t₀ 0 (texts_of whole)

  module _ (k : ℕ) (p : Place) (e t : List ℕ) (g : Going k p e t) where
    abbrev kept : List Renamed
    kept = kept_in total p.next p.from e₀ t₀

    kept-count : length kept ≡ total - p.next
    kept-count = length-renames (total - p.next) p.next e₀ (drop p.from t₀)

    -- the next free cells lie before the kept ones
    pub going_before : (p.to ≤ p.next) × (p.at ≤ p.from)
    going_before =
        let m = merged-more named given (files - k) k kept in
        (omega (arith, m.0, kept-count, g.count, g.here), omega (arith, m.1, kept-size total e₀ t₀ p.next p.from g.fits, g.size))

    word_same : (j : ℕ) → get_or e (p.next * 4 + j) 0 ≡ get_or e₀ (p.next * 4 + j) 0
    word_same j =
        sym (get_or-drop (p.next * 4) e j 0) ∙ ap (λ (x : List ℕ). get_or x j 0) g.entries ∙ get_or-drop (p.next * 4) e₀ j 0

    file-same : get_or e (p.next * 4) 0 ≡ get_or e₀ (p.next * 4) 0
    file-same = let w = word_same 0 in rw (add-zero (p.next * 4)) at w

    -- the end
    pub going_end : files ≤ k → (e ≡ sets e₀ 0 (words_of whole)) × (t ≡ sets t₀ 0 (texts_of whole))
    going_end h =
        let z = merged-end named given files k kept h in
        let n = total - p.next in
        let b = bytes_from n p.next e₀ in
        let c = g.count in
        let s = g.size in
        let to : p.to ≡ p.next = omega (arith, rw z at c, kept-count, g.here) in
        let at : p.at ≡ p.from = omega (arith, rw z at s, kept-size total e₀ t₀ p.next p.from g.fits) in
        let w : words_from p.from kept ≡ take (n * 4) (drop (p.next * 4) e) =
        words_back n p.next p.from e₀ (drop p.from t₀) (λ j a d. g.modes j a (omega (arith, d, g.here))) g.placed (omega (arith, g.here, g.held)) (omega (arith, length-drop p.from t₀, g.fits))
        ∙ ap (take (n * 4)) (sym g.entries) in
        let x : texts_of kept ≡ take b (drop p.from t) = texts-back n p.next e₀ (drop p.from t₀) ∙ ap (take b) (sym g.text) in
        let still = sets-still e (p.next * 4) (n * 4) (omega (arith, g.words, g.here, g.held)) in
        let quiet = sets-still t p.from b (omega (arith, g.bytes, g.fits)) in
        let y = g.left-entries in
        let r = g.left-text in
        (sym still ∙ (rw (z, to, at, w) at y), sym quiet ∙ (rw (z, at, x) at r))

    module _ (h : k < files) where
      abbrev step : List Renamed
      step = step_at named given k kept

      abbrev own : Bool
      own = entry_is_named total k p.next e₀

      abbrev q : Place
      q = step_place (named k) own (length (given k).name) (get_or e₀ (p.next * 4 + 2) 0) p

      abbrev one : Stepped total e₀ t₀ named given k p (file k) (mode k) g.modes g.placed g.fits g.here (step_words (named k) own k p.at (given k).name e₀ p.next) (step_text (named k) own (given k).name t₀ p.from (get_or e₀ (p.next * 4 + 2) 0)) q step (rest_at named k kept)
      one = stepped total e₀ t₀ named given k p (file k) (mode k) g.modes g.placed g.fits g.here (named k) own refl refl

      split : left k p ≡ step ++ left (k + 1) q
      split = merged-turn named given files k kept h ∙ ap (λ (l : List Renamed). step ++ merged_from named given (files - (k + 1)) (k + 1) l) one.rest-is

      own_same : entry_is_named total k p.next e ≡ own
      own_same = rw file-same

      -- there is room for what the file gets
      given-room : (b : Bool) → named k ≡ b → b ≡ true → (p.to < total) × (p.at + length (given k).name ≤ length t)
      given-room true a r =
          let s = ap length split in
          let u = ap (λ (l : List Renamed). length (texts_of l)) split in
          let m : step ≡ given k ∷ [] = rw a in
          let n = length-append (given k).name (texts_of (left (k + 1) q)) in
          (omega (arith, rw m at s, g.count), omega (arith, rw m at u, n, g.size, g.fits, g.bytes))
      given-room false a r = absurd (true≢false (sym r))

      pub going-given : named k ≡ true → (p.to < total) × (p.at + length (given k).name ≤ length t)
      going-given a = given-room (named k) refl a

      pub going-own : entry_is_named total k p.next e ≡ true → p.from + get_or e (p.next * 4 + 2) 0 ≤ length t
      going-own a =
          let b = both_true (ltb p.next total) (eqb (get_or e (p.next * 4) 0) k) a in
          let f = bytes-first total e₀ t₀ p.next (ltb-true p.next total b.0) in
          rw (word_same 2) (omega (arith, f, g.fits, g.bytes))

      abbrev all : List Renamed
      all = left (k + 1) q

      count_next : q.to + length all ≡ total
      count_next = omega (arith, g.count, ap length split, length-append step all, one.to_is)

      size-next : q.at + length (texts_of all) ≡ end q
      size-next =
          omega (
            arith,
            g.size,
            ap (λ (l : List Renamed). length (texts_of l)) split,
            ap length (texts-append step all),
            length-append (texts_of step) (texts_of all),
            one.at-is,
            one.ends-are,
          )

      fits_next : end q ≤ length t₀
      fits_next = omega (arith, g.fits, one.ends-are)

      before-next : (q.to ≤ q.next) × (q.at ≤ q.from)
      before-next =
          let m = merged-more named given (files - (k + 1)) (k + 1) (kept_in total q.next q.from e₀ t₀) in
          let c = length-renames (total - q.next) q.next e₀ (drop q.from t₀) in
          let s = kept-size total e₀ t₀ q.next q.from fits_next in
          (omega (arith, m.0, c, count_next, one.here-is.1), omega (arith, m.1, s, size-next))

      next-is : Going (k + 1) q (sets e (p.to * 4) (words_from p.at step)) (sets t p.at (texts_of step))
      next-is =
          let y = g.left-entries in
          let r = g.left-text in
          let a : q.to * 4 ≡ p.to * 4 + length (words_from p.at step) = omega (arith, one.to_is, length-words p.at step) in
          let w : words_from p.at (left k p) ≡ words_from p.at step ++ words_from q.at all = ap (words_from p.at) split ∙ words_append p.at step all ∙ ap (λ (n : ℕ). words_from p.at step ++ words_from n all) (sym one.at-is) in
          let x : texts_of (left k p) ≡ texts_of step ++ texts_of all = ap texts_of split ∙ texts-append step all in
          record {
            bound = omega (arith, h);
            words = length-sets e (p.to * 4) (words_from p.at step) ∙ g.words;
            bytes = length-sets t p.at (texts_of step) ∙ g.bytes;
            held = g.held;
            modes = λ j b c. g.modes j (omega (arith, b, one.here-is.0)) c;
            placed = one.placed-are;
            here = one.here-is.1;
            entries =
                drop-sets-le (words_from p.at step) e (p.to * 4) (q.next * 4) (omega (arith, a, before-next.0))
                ∙ drop-further (p.next * 4) (q.next * 4) e e₀ (omega (arith, one.here-is.0)) g.entries;
            text =
                drop-sets-le (texts_of step) t p.at q.from (omega (arith, one.at-is, before-next.1))
                ∙ drop-further p.from q.from t t₀ one.here-is.2 g.text;
            fits = fits_next;
            count = count_next;
            size = size-next;
            left-entries = rw a (sym (sets-append (words_from p.at step) (words_from q.at all) e (p.to * 4)) ∙ (rw w at y));
            left-text = rw one.at-is (sym (sets-append (texts_of step) (texts_of all) t p.at) ∙ (rw x at r));
          }

      pub going-turn : (q' : Place) (e' t' : List ℕ)
          → q' ≡ step_place (named k) (entry_is_named total k p.next e) (length (given k).name) (get_or e (p.next * 4 + 2) 0) p
          → e' ≡ sets e (p.to * 4) (step_words (named k) (entry_is_named total k p.next e) k p.at (given k).name e p.next)
          → t' ≡ sets t p.at (step_text (named k) (entry_is_named total k p.next e) (given k).name t p.from (get_or e (p.next * 4 + 2) 0))
          → Going (k + 1) q' e' t'
      going-turn q' e' t' a b c =
          let s : e' ≡ sets e (p.to * 4) (words_from p.at step) = b ∙ rw (own_same, file-same, word_same 1, word_same 2) (ap (sets e (p.to * 4)) one.words_are) in
          let d : t' ≡ sets t p.at (texts_of step) = c ∙ rw (own_same, word_same 2, g.text) (ap (sets t p.at) one.text-is) in
          let u : q' ≡ q = a ∙ rw (own_same, word_same 2) in
          rw (s, d, u) next-is
