-- The kept renames moved together and then up, behind the room for the names that come: what the tables read then, and that the merge
-- overwrites all that was moved. These laws rely on those of proofs/Keeping.antt and of `renames` (its proofs/Kept.antt).
use Prim.Native.Nat.{ℕ, suc, ◌+◌, ◌-◌, ◌*◌, ◌/◌, ◌≤◌, ◌<◌}
use mathlib.Core.Path.{◌≡◌, refl, sym, ap, ◌∙◌}
use mathlib.Core.Bool.{Bool, true}
use mathlib.Core.Logic.{⊎_elim}
use mathlib.Core.List.{List, [], ◌∷◌, ◌++◌, append-nil}
use native.Mathlib.Omega.{arith}
use lib.ListN.{length, get_or, set, take, drop, length-append, length-drop}
use lib.Seq.{paste, sets, sets-eq, length-sets, length-take-le, drop-append-add, take-append_seam}
use Rattle.lists.proofs.Orders.{le-or-lt}
use Rattle.lists.proofs.Parts.{drop-take}
use Rattle.lists.proofs.Runs.{sets-drop, sets_over, sets-set-below, part-sets}
use Rattle.renames.specs.declared.rename.RenamedFiles.{RenamedFiles}
use Rattle.renames.specs.Renames.{Renamed, placed_from, renames_from, renames_of, words_from, words_of, texts_of}
use Rattle.renames.specs.private.Slots.{bytes_from}
use Rattle.imports.specs.private.Importing.{renames_kept, kept_state, kept_words}
use Rattle.imports.specs.private.Merging.{merged_from, kept_in}
use Rattle.renames.proofs.Splices.{copied}
use Rattle.renames.proofs.Placed.{length-words}
use Rattle.renames.proofs.Kept.{at-word, words-rest, mode_small, list_read, list-placed}
use Rattle.imports.proofs.Keeping.{kept-count, kept-bytes, kept-words, front-filled}

-- ---- runs

-- a run within another, made before it
sets-within : (u l t : List ℕ) (i j : ℕ) → i ≤ j → j + length t ≤ i + length u → sets (sets l j t) i u ≡ sets l i u
sets-within [] l [] i j h k = refl
sets-within [] l (x ∷ t) i j h k = absurd (omega arith)
sets-within (y ∷ u) l t i j h k =
    ⊎_elim
    (λ g. let e : j ≡ i = omega arith in rw e (sets_over t (y ∷ u) l i (omega arith)))
    (λ g. rw (← sets-set-below t l j i y g) (sets-within u (set l i y) t (suc i) j (omega arith) (omega arith)))
    (le-or-lt j i)

-- what stands from a run on
drop-sets : (t l : List ℕ) (i : ℕ) → i + length t ≤ length l → drop i (sets l i t) ≡ t ++ drop (length t) (drop i l)
drop-sets t l i h =
    let n = length-take-le i l (omega arith) in
    let z : 0 + length t ≡ length t = omega arith in
    let d = drop-append-add (take i l) (sets (drop i l) 0 t) 0 in
    let a : length (take i l) + 0 ≡ i = omega arith in
    rw (sets-drop l i t (omega arith)) ((rw a at d) ∙ sets-eq t (drop i l) 0 (omega (arith, length-drop i l)) ∙ rw z)

-- ---- words that stand in a table from entry i on

bytes_read : (rs : List Renamed) (i at : ℕ) (e post : List ℕ) → drop (i * 4) e ≡ words_from at rs ++ post
    → bytes_from (length rs) i e ≡ length (texts_of rs)
unfolding bytes_from
bytes_read [] i at e post h = refl
bytes_read (r ∷ rs) i at e post h =
    omega (
      arith,
      at-word r rs i at e post h 2,
      bytes_read rs (i + 1) (at + length r.name) e post (words-rest r rs i at e post h),
      length-append r.name (texts_of rs),
    )

modes-read : (rs : List Renamed) (i at : ℕ) (e post : List ℕ) → drop (i * 4) e ≡ words_from at rs ++ post
    → (j : ℕ) → i ≤ j → j < i + length rs → get_or e (j * 4 + 1) 0 ≤ 2
modes-read [] i at e post h j a b = absurd (omega arith)
modes-read (r ∷ rs) i at e post h j a b =
    ⊎_elim
    (λ g. modes-read rs (i + 1) (at + length r.name) e post (words-rest r rs i at e post h) j (omega arith) (omega arith))
    (λ g. let q : j ≡ i = omega arith in rw q (omega (arith, at-word r rs i at e post h 1, mode_small r.mode)))
    (le-or-lt (suc i) j)

-- ---- the tables before the merge

module _ (named : ℕ → Bool) (given : ℕ → Renamed) (files : ℕ) (rf stay come : RenamedFiles) (e t : List ℕ)
    (words : rf.num_renames * 4 ≤ length e) (bytes : bytes_from rf.num_renames 0 e ≤ length t)
    (modes : (j : ℕ) → 0 ≤ j → j < 0 + rf.num_renames → get_or e (j * 4 + 1) 0 ≤ 2) (kept : stay ≡ kept_state named rf e)
    (held : (stay.num_renames + come.num_renames) * 4 ≤ length e) (room : stay.text_len + come.text_len ≤ length t) where
  abbrev stays : List Renamed
  stays = renames_kept named (renames_of rf e t)

  abbrev c : ℕ
  c = come.num_renames

  abbrev cb : ℕ
  cb = come.text_len

  stay-count : stay.num_renames ≡ length stays
  stay-count = rw kept (sym (kept-count named rf.num_renames 0 e t))

  stay-bytes : stay.text_len ≡ length (texts_of stays)
  stay-bytes = rw kept (sym (kept-bytes named rf.num_renames 0 e t bytes))

  -- their words, the first text beginning behind the names that come
  abbrev stays_words : List ℕ
  stays_words = words_from come.text_len stays

  words_are : kept_words named rf.num_renames 0 come.text_len e ≡ stays_words
  words_are = sym (kept-words named rf.num_renames 0 come.text_len e t modes bytes)

  count-is : length stays_words ≡ stay.num_renames * 4
  count-is = omega (arith, length-words come.text_len stays, stay-count)

  -- moved together
  module _ (e₁ t₁ : List ℕ) (x₁ : e₁ ≡ sets e 0 (kept_words named rf.num_renames 0 come.text_len e)) (y₁ : t₁ ≡ sets t 0 (texts_of stays)) where
    together : e₁ ≡ sets e 0 stays_words
    together = x₁ ∙ ap (sets e 0) words_are

    long : (length e₁ ≡ length e) × (length t₁ ≡ length t)
    long = (rw together (length-sets e 0 stays_words), rw y₁ (length-sets t 0 (texts_of stays)))

    first-words : take (stay.num_renames * 4) e₁ ≡ stays_words
    first-words =
        let p = part-sets stays_words e 0 (omega (arith, count-is)) in
        ap (take (stay.num_renames * 4)) together ∙ ap (λ (n : ℕ). take n (sets e 0 stays_words)) (sym count-is) ∙ p

    first-bytes : take stay.text_len t₁ ≡ texts_of stays
    first-bytes =
        let p = part-sets (texts_of stays) t 0 (omega (arith, stay-bytes)) in
        ap (take stay.text_len) y₁ ∙ ap (λ (n : ℕ). take n (sets t 0 (texts_of stays))) stay-bytes ∙ p

    -- and up
    module _ (e₂ t₂ : List ℕ) (x₂ : e₂ ≡ paste e₁ (come.num_renames * 4) (drop 0 e₁) (stay.num_renames * 4 - 0))
        (y₂ : t₂ ≡ paste t₁ come.text_len (drop 0 t₁) (stay.text_len - 0)) where
      up-words : e₂ ≡ sets e₁ (c * 4) stays_words
      up-words =
          x₂
          ∙ copied e₁ 0 (stay.num_renames * 4) (c * 4) (omega arith) (omega (arith, long.0)) (omega (arith, long.0))
          ∙ ap (sets e₁ (c * 4)) first-words

      up-bytes : t₂ ≡ sets t₁ cb (texts_of stays)
      up-bytes =
          y₂
          ∙ copied t₁ 0 stay.text_len cb (omega arith) (omega (arith, long.1)) (omega (arith, long.1))
          ∙ ap (sets t₁ cb) first-bytes

      abbrev total : ℕ
      total = stay.num_renames + c

      long-up : (length e₂ ≡ length e) × (length t₂ ≡ length t)
      long-up = (rw up-words (length-sets e₁ (c * 4) stays_words) ∙ long.0, rw up-bytes (length-sets t₁ cb (texts_of stays)) ∙ long.1)

      -- the entries that all need are lent to the merge
      abbrev front : List ℕ
      front = take ((stay.num_renames + come.num_renames) * 4) e₂

      front-count : length front / 4 ≡ total
      front-count = omega (arith, length-take-le (total * 4) e₂ (omega (arith, held, long-up.0)))

      there-words : drop (c * 4) front ≡ stays_words ++ []
      there-words =
          let n : total * 4 - c * 4 ≡ length stays_words = omega (arith, count-is) in
          let post = drop (length stays_words) (drop (c * 4) e₁) in
          let up : drop (c * 4) e₂ ≡ stays_words ++ post = rw up-words (drop-sets stays_words e₁ (c * 4) (omega (arith, count-is, long.0))) in
          drop-take (c * 4) (total * 4) e₂
          ∙ rw n (ap (take (length stays_words)) up ∙ take-append_seam stays_words post ∙ sym (append-nil stays_words))

      there-bytes : drop cb t₂ ≡ texts_of stays ++ drop (length (texts_of stays)) (drop cb t₁)
      there-bytes = rw up-bytes (drop-sets (texts_of stays) t₁ cb (omega (arith, stay-bytes, long.1)))

      rest-count : length front / 4 - c ≡ length stays
      rest-count = omega (arith, front-count, stay-count)

      kept_there : kept_in (length front / 4) come.num_renames come.text_len front t₂ ≡ stays
      kept_there =
          ap (λ (n : ℕ). renames_from n c front (drop cb t₂)) rest-count
          ∙ ap (renames_from (length stays) c front) there-bytes
          ∙ list_read stays c cb front [] (drop (length (texts_of stays)) (drop cb t₁)) there-words

      size-there : bytes_from (length front / 4 - c) c front ≡ length (texts_of stays)
      size-there = ap (λ (n : ℕ). bytes_from n c front) rest-count ∙ bytes_read stays c cb front [] there-words

      abbrev all : List Renamed
      all = merged_from named given files 0 stays

      module _ (count : length (merged_from named given files 0 stays) ≡ stay.num_renames + come.num_renames)
          (size : length (texts_of (merged_from named given files 0 stays)) ≡ stay.text_len + come.text_len) where
        abbrev there : List Renamed
        there = merged_from named given files 0 (kept_in (length front / 4) come.num_renames come.text_len front t₂)

        pub merge-ready : (come.num_renames ≤ length front / 4)
            × (come.text_len + bytes_from (length front / 4 - come.num_renames) come.num_renames front ≤ length t₂)
            × ((j : ℕ) → come.num_renames ≤ j → j < length front / 4 → get_or front (j * 4 + 1) 0 ≤ 2)
            × (placed_from (length front / 4 - come.num_renames) come.num_renames come.text_len front ≡ true)
            × (length there ≡ length front / 4)
            × (length (texts_of there) ≡ come.text_len + bytes_from (length front / 4 - come.num_renames) come.num_renames front)
        merge-ready = (
          omega (arith, front-count),
          omega (arith, size-there, stay-bytes, long-up.1),
          λ j a b. modes-read stays c cb front [] there-words j a (omega (arith, b, front-count, stay-count)),
          ap (λ (n : ℕ). placed_from n c cb front) rest-count ∙ list-placed stays c cb front [] there-words,
          rw kept_there count ∙ sym front-count,
          rw kept_there (omega (arith, size, size-there, stay-bytes)),
        )

        pub merge-done : (e₃ t₃ : List ℕ) → e₃ ≡ sets front 0 (words_of there) → t₃ ≡ sets t₂ 0 (texts_of there)
            → (e₃ ++ drop ((stay.num_renames + come.num_renames) * 4) e₂ ≡ sets e 0 (words_of (merged_from named given files 0 stays))) × (t₃ ≡ sets t 0 (texts_of (merged_from named given files 0 stays)))
        merge-done e₃ t₃ x₃ y₃ =
            let n = length-words 0 all in
            let m : length there ≡ total = rw kept_there count in
            let f : e₃ ++ drop (total * 4) e₂ ≡ sets e₂ 0 (words_of there) =
            rw x₃ (front-filled named (words_of there) e₂ (total * 4) (omega (arith, length-words 0 there, m)) (omega (arith, held, long-up.0))) in
            let p : sets e₂ 0 (words_of there) ≡ sets e₁ 0 (words_of all) =
            rw (kept_there, up-words) (sets-within (words_of all) e₁ stays_words 0 (c * 4) (omega arith) (omega (arith, n, count, count-is))) in
            let q : sets e₁ 0 (words_of all) ≡ sets e 0 (words_of all) =
            rw together (sets-within (words_of all) e stays_words 0 0 (omega arith) (omega (arith, n, count, count-is))) in
            let r : sets t₂ 0 (texts_of there) ≡ sets t₁ 0 (texts_of all) =
            rw (kept_there, up-bytes) (sets-within (texts_of all) t₁ (texts_of stays) 0 cb (omega arith) (omega (arith, size, stay-bytes))) in
            let u : sets t₁ 0 (texts_of all) ≡ sets t 0 (texts_of all) =
            rw y₁ (sets-within (texts_of all) t (texts_of stays) 0 0 (omega arith) (omega (arith, size, stay-bytes))) in
            (f ∙ p ∙ q, y₃ ∙ r ∙ u)
