-- A change keeps the tables in order, and what they read afterwards is the changed list: so one change may follow another. These
-- laws rely on those of proofs/Rising.antt and proofs/Decisions.antt.
use Prim.Native.Nat.{ℕ, ◌+◌, ◌-◌, ◌*◌, ◌/◌, ◌≤◌}
use mathlib.Core.Path.{◌≡◌, refl, sym, ap, ◌∙◌}
use mathlib.Core.Bool.{true}
use mathlib.Core.List.{List, [], ◌∷◌, ◌++◌, append_assoc}
use native.Mathlib.Nat.{add-zero}
use native.Mathlib.Omega.{arith}
use borrow.Author.Tests.{le-leb, eq-eqb}
use lib.ListN.{length, get_or, drop, length-append}
use lib.Seq.{sets, sets-eq, length-sets, get_or-drop, drop-drop, take-append_seam, drop-append_seam}
use Rattle.renames.specs.declared.rename.RenameMode.{RenameMode}
use Rattle.renames.specs.declared.rename.RenameMode.TheVariants.{FullPath, NoRootPath, AbsolutePath}
use Rattle.renames.specs.Renames.{Renamed, mode_word, mode_of, renames_from, renames_of, ordered_from, placed_from, in_order, state_of, words_from, words_of, texts_of}
use Rattle.renames.proofs.Rising.{Rises, Small}
use Rattle.renames.proofs.Placed.{length-words}

-- ---- a list written is read back

mode-back : (m : RenameMode) → mode_of (mode_word m) ≡ m
mode-back FullPath = refl
mode-back NoRootPath = refl
mode-back AbsolutePath = refl

pub mode_small : (m : RenameMode) → mode_word m ≤ 2
mode_small FullPath = omega arith
mode_small NoRootPath = omega arith
mode_small AbsolutePath = omega arith

-- the words of the first rename, and those behind it
module _ (r : Renamed) (rs : List Renamed) (i at : ℕ) (e post : List ℕ) (h : drop (i * 4) e ≡ words_from at (r ∷ rs) ++ post) where
  pub at-word : (j : ℕ) → get_or e (i * 4 + j) 0 ≡ get_or (words_from at (r ∷ rs) ++ post) j 0
  at-word j = sym (get_or-drop (i * 4) e j 0) ∙ ap (λ (x : List ℕ). get_or x j 0) h

  word-file : get_or e (i * 4) 0 ≡ r.file
  word-file = rw (add-zero (i * 4)) at (at-word 0)

  pub words-rest : drop ((i + 1) * 4) e ≡ words_from (at + length r.name) rs ++ post
  words-rest =
      let p : (i + 1) * 4 ≡ i * 4 + 4 = omega arith in
      rw p (sym (drop-drop 4 (i * 4) e) ∙ ap (drop 4) h)

pub list_read : (rs : List Renamed) (i at : ℕ) (e post more : List ℕ) → drop (i * 4) e ≡ words_from at rs ++ post
    → renames_from (length rs) i e (texts_of rs ++ more) ≡ rs
unfolding renames_from
list_read [] i at e post more h = refl
list_read (r ∷ rs) i at e post more h =
    let rest = texts_of rs ++ more in
    rw (
      word-file r rs i at e post h,
      at-word r rs i at e post h 1,
      at-word r rs i at e post h 2,
      mode-back r.mode,
      append_assoc r.name (texts_of rs) more,
      take-append_seam r.name rest,
      drop-append_seam r.name rest,
    )
    (ap (λ (x : List Renamed). r ∷ x) (list_read rs (i + 1) (at + length r.name) e post more (words-rest r rs i at e post h)))

pub list-ordered : (rs : List Renamed) (i at least : ℕ) (e post : List ℕ) → drop (i * 4) e ≡ words_from at rs ++ post → Rises least rs → Small rs
    → ordered_from (length rs) i least (length (texts_of rs)) e ≡ true
unfolding ordered_from
list-ordered [] i at least e post h a b = refl
list-ordered (r ∷ rs) i at least e post h a b =
    let n : length (r.name ++ texts_of rs) - length r.name ≡ length (texts_of rs) = omega (arith, length-append r.name (texts_of rs)) in
    rw (
      word-file r rs i at e post h,
      at-word r rs i at e post h 1,
      at-word r rs i at e post h 2,
      le-leb least r.file a.0,
      le-leb r.file 2147483647 b.0,
      le-leb (mode_word r.mode) 2 (mode_small r.mode),
      le-leb (length r.name) (length (r.name ++ texts_of rs)) (omega (arith, length-append r.name (texts_of rs))),
      n,
    )
    (list-ordered rs (i + 1) (at + length r.name) (r.file + 1) e post (words-rest r rs i at e post h) a.1 b.1)

pub list-placed : (rs : List Renamed) (i at : ℕ) (e post : List ℕ) → drop (i * 4) e ≡ words_from at rs ++ post → placed_from (length rs) i at e ≡ true
unfolding placed_from
list-placed [] i at e post h = refl
list-placed (r ∷ rs) i at e post h =
    rw (at-word r rs i at e post h 2, at-word r rs i at e post h 3, eq-eqb at at refl)
    (list-placed rs (i + 1) (at + length r.name) e post (words-rest r rs i at e post h))

-- ---- tables that hold a list

module _ (rs : List Renamed) (e t : List ℕ) (up : Rises 0 rs) (small : Small rs) (held : length rs ≤ length e / 4) (room : length (texts_of rs) ≤ length t) where
  abbrev entries : List ℕ
  entries = sets e 0 (words_of rs)

  abbrev text : List ℕ
  text = sets t 0 (texts_of rs)

  entries-are : entries ≡ words_of rs ++ drop (0 + length (words_of rs)) e
  entries-are = sets-eq (words_of rs) e 0 (omega (arith, length-words 0 rs))

  text-is : text ≡ texts_of rs ++ drop (0 + length (texts_of rs)) t
  text-is = sets-eq (texts_of rs) t 0 (omega arith)

  pub kept-order : in_order (state_of rs) entries text ≡ true
  kept-order =
      rw (
        length-sets e 0 (words_of rs),
        length-sets t 0 (texts_of rs),
        le-leb (length rs) (length e / 4) held,
        le-leb (length (texts_of rs)) (length t) room,
      )
      (rw (list-ordered rs 0 0 0 entries (drop (0 + length (words_of rs)) e) entries-are up small) (list-placed rs 0 0 entries (drop (0 + length (words_of rs)) e) entries-are))

  pub kept-list : renames_of (state_of rs) entries text ≡ rs
  kept-list =
      ap (λ (x : List ℕ). renames_from (length rs) 0 entries x) text-is
      ∙ list_read rs 0 0 entries (drop (0 + length (words_of rs)) e) (drop (0 + length (texts_of rs)) t) entries-are
