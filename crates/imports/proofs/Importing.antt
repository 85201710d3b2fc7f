-- Deciding an import and carrying it out: the order of the refusals, that the room is judged on the result, and that the merge of what
-- is kept and what is given is the change that document 01 asks for. These laws rely on those of proofs/Imported.antt,
-- proofs/Keeping.antt and proofs/Merged.antt, and of `renames` (its proofs/Decisions.antt).
use Rattle.std.specs.Prelude.{Result, IsErrAnd}
use Prim.Native.Nat.{ℕ, ◌+◌, ◌*◌, ◌/◌, ◌≤◌, ◌<◌}
use mathlib.Core.Path.{◌≡◌, refl, sym, ap, ◌∙◌}
use mathlib.Core.Bool.{Bool, true, false, cond, not, ◌&&◌}
use mathlib.Core.List.{List, [], ◌∷◌}
use native.Mathlib.Omega.{arith}
use borrow.Author.Tests.{ltb-false, not-false}
use Rattle.std.proofs.Common.{min}
use lib.Dec.{eqb, ltb}
use lib.IntN.{ℤ}
use lib.ListN.{length, get_or, drop, replicate}
use lib.Seq.{sets}
use Rattle.lists.specs.Lists.{any}
use Rattle.types.specs.declared.refusal.Refusal.{Refusal}
use Rattle.types.specs.Refusals.{number_of, outcome, value, refused}
use Rattle.types.proofs.Refusals.{exit}
use Rattle.tables.specs.declared.storage.FileStorage.{FileStorage}
use Rattle.rules.specs.Rules.{when, first_of, outcome_of}
use Rattle.rules.specs.Bounds.{bad_length, is_negative}
use Rattle.rules.specs.Questions.{few_entries}
use Rattle.rules.proofs.Rules.{both_true, either-false}
use Rattle.rules.proofs.Deciding.{denied}
use Rattle.renames.specs.declared.rename.RenamedFiles.{RenamedFiles}
use Rattle.renames.specs.Renames.{Renamed, RenamesChanged, renames_of, ordered_from, in_order, lacks_room, state_of, words_of, texts_of}
use Rattle.renames.specs.private.Slots.{bytes_from}
use Rattle.renames.specs.Renames.{in_order_in}
use Rattle.imports.specs.declared.counted.Counted.{Counted}
use Rattle.imports.specs.Imports.{namings, list_held, imported, has_negative, import_lent}
use Rattle.imports.specs.private.Importing.{is_listed, renames_kept, renames_given, with_all, kept_state, is_full, counted_with, import_number, import_asked}
use Rattle.imports.specs.private.Merging.{Noted, placed_from, is_noted, given_at, merged_from}
use Rattle.renames.proofs.Ordered.{order-mode, order-bytes}
use Rattle.renames.proofs.Deciding.{passes}
use Rattle.renames.proofs.Decisions.{five-passed, same_test, order-in}
use Rattle.renames.proofs.Rising.{rises-read}
use Rattle.imports.proofs.Imported.{imported-is, fresh_kept, with-given}
use Rattle.imports.proofs.Noting.{few-files, noted-named, noted-length}
use Rattle.imports.proofs.Merged.{merged-is}
use Rattle.imports.proofs.Keeping.{kept-count, kept-bytes, kept-few, kept-short}

-- ---- the refusals in order

-- none of them: the list is whole and the set not too large
five-held : {A : Type 0} (a b l o s : Bool) (p q : A) → value p ≡ outcome_of (first_of (when a 1 ∷ when b 11 ∷ when (not l) 10 ∷ when (not o) 10 ∷ when s 10 ∷ [])) q → l ≡ true
five-held a b l o s p q h =
    not-false l (passes (when a 1 ∷ when b 11 ∷ when (not l) 10 ∷ when (not o) 10 ∷ when s 10 ∷ []) refl p q h).0.1.1.0

-- what stays lies within the tables
pub stay-in : (named : ℕ → Bool) (rf : RenamedFiles) (e : List ℕ) (room : ℕ) → in_order_in rf e room ≡ true
    → (rf.num_renames * 4 ≤ length e) × (bytes_from rf.num_renames 0 e ≤ room)
    × ((kept_state named rf e).num_renames ≤ length e / 4) × ((kept_state named rf e).text_len ≤ room)
stay-in named rf e room h =
    let o = order-in rf e room h in
    let b = order-bytes rf.num_renames 0 0 rf.text_len e o.2 in (
      omega (arith, o.0),
      omega (arith, o.1, b),
      omega (arith, o.0, kept-few named rf.num_renames 0 e),
      omega (arith, o.1, b, kept-short named rf.num_renames 0 e),
    )

-- ---- the decision is that of the import

negative-is : (zs : List ℤ) (lengths t : List ℕ) → has_negative (namings zs lengths t) ≡ any is_negative zs
negative-is [] lengths t = refl
negative-is (z ∷ zs) lengths t = rw (negative-is zs (drop 1 lengths) (drop (get_or lengths 0 0) t))

module _ (fs : FileStorage) (rf : RenamedFiles) (e t : List ℕ) (zs : List ℤ) (lengths names : List ℕ) where
  abbrev files : ℕ
  files = fs.num_files

  -- the files that the list names
  abbrev named : ℕ → Bool
  named = is_listed files zs

  abbrev rs : List Renamed
  rs = renames_of rf e t

  abbrev stays : List Renamed
  stays = renames_kept named rs

  abbrev comes : List Renamed
  comes = renames_given files zs lengths names

  -- as both are counted
  abbrev counting : Counted
  counting = counted_with fs rf e zs (state_of comes)

  abbrev list : Bool
  list = list_held zs lengths names && few_entries fs

  abbrev final : List Renamed
  final = imported files (namings zs lengths names) rs

  module _ (ordered : in_order_in rf e (length t) ≡ true) where
    in_order_lem : ordered_from rf.num_renames 0 0 rf.text_len e ≡ true
    in_order_lem = (order-in rf e (length t) ordered).2

    final-is : final ≡ with_all comes stays
    final-is = imported-is files zs lengths names rs (rises-read rf.num_renames 0 0 rf.text_len e t in_order_lem)

    state-is : kept_state named rf e ≡ state_of stays
    state-is =
        rw (kept-count named rf.num_renames 0 e t, kept-bytes named rf.num_renames 0 e t (stay-in named rf e (length t) ordered).1)

    final-count : (length final ≡ length stays + length comes) × (length (texts_of final) ≡ length (texts_of stays) + length (texts_of comes))
    final-count = rw final-is (with-given files zs lengths names stays (fresh_kept files zs rs))

    room-is : lacks_room final e t ≡ is_full (length e) (length t) counting
    room-is =
        rw (final-count.0, final-count.1) (ap (λ (s : RenamedFiles). is_full (length e) (length t) (record { stay = s; come = state_of comes })) (sym state-is))

  abbrev number : ℕ
  number =
      cond (bad_length fs.piece_length) 1
      (cond (has_negative (namings zs lengths names)) 11
      (cond (not list) 10 (cond (not (in_order rf e t)) 10 (cond (lacks_room final e t) 10 0))))

  number_is : number ≡ import_number fs rf e (length t) zs list (state_of comes)
  number_is =
      rw (
        negative-is zs lengths names,
        same_test (in_order_in rf e (length t)) (lacks_room final e t) (is_full (length e) (length t) counting) room-is,
      )

  -- one refusal stops it, and a `?` leaves with it
  pub import-refused : (r : Result RenamedFiles Refusal) (x : Refusal) → IsErrAnd r (λ y. y ≡ x)
      → refused (number_of x) ≡ import_asked fs rf e (length t) zs list (state_of comes)
      → ◌≡◌ {A = RenamesChanged} (record { says = outcome r; entries = e; text = t }) (import_lent fs rf e t zs lengths names)
  import-refused r x i h =
      let n = import_number fs rf e (length t) zs list (state_of comes) in
      let d = denied n counting (eqb n 0) (number_of x) h in
      rw (exit r x i, number_is, d.0, d.1)

  -- none does: what stays is known, and the names that come have room
  module _ (st : Counted) (h : value st ≡ import_asked fs rf e (length t) zs list (state_of comes)) where
    known : (eqb (import_number fs rf e (length t) zs list (state_of comes)) 0 ≡ true) × (in_order_in rf e (length t) ≡ true)
        × (is_full (length e) (length t) counting ≡ false) × (st ≡ counting)
    known =
        five-passed (bad_length fs.piece_length) (any is_negative zs) list (in_order_in rf e (length t)) (is_full (length e) (length t) counting) st counting h

    pub import-in : (rf.num_renames * 4 ≤ length e) × (bytes_from rf.num_renames 0 e ≤ length t)
    import-in = let s = stay-in named rf e (length t) known.1 in (s.0, s.1)

    final-room : (length final ≤ length e / 4) × (length (texts_of final) ≤ length t)
    final-room =
        let f = room-is known.1 ∙ known.2 in
        let s = either-false (ltb (length e / 4) (length final)) (ltb (length t) (length (texts_of final))) f in
        (ltb-false _ _ s.0, ltb-false _ _ s.1)

    -- the list is whole, and the set is counted
    pub import-held : (list_held zs lengths names ≡ true) × (few_entries fs ≡ true)
    import-held =
        both_true (list_held zs lengths names) (few_entries fs)
        (five-held (bad_length fs.piece_length) (any is_negative zs) list (in_order_in rf e (length t)) (is_full (length e) (length t) counting) st counting h)

    -- there is a cell for each file
    pub import-files : min files 65536 ≡ files
    import-files = few-files fs import-held.1

    module _ (l p : List ℕ) (noted : Noted files zs l) (places : p ≡ placed_from 0 zs lengths (replicate files 0)) where
      size : length l ≡ files
      size = noted-length files zs l noted

      abbrev all : List Renamed
      all =
          merged_from (is_noted l) (given_at l p lengths names) (length l) 0 (renames_kept (is_noted l) (renames_of rf e t))

      all-is : all ≡ final
      all-is =
          ap (λ (n : ℕ). merged_from (is_noted l) (given_at l p lengths names) n 0 (renames_kept (is_noted l) rs)) size
          ∙ ap (λ (f : ℕ → Bool). merged_from f (given_at l p lengths names) files 0 (renames_kept f rs)) (noted-named files zs l noted)
          ∙ merged-is files zs lengths names l p rs noted places (rises-read rf.num_renames 0 0 rf.text_len e t (in_order_lem known.1))

      sums : (st.stay.num_renames + st.come.num_renames ≡ length final) × (st.stay.text_len + st.come.text_len ≡ length (texts_of final))
      sums =
          let c = final-count known.1 in
          let s : st ≡ record { stay = state_of stays; come = state_of comes } =
          known.3 ∙ ap (λ (r : RenamedFiles). record { stay = r; come = state_of comes }) (state-is known.1) in
          rw s (sym c.0, sym c.1)

      pub import-ready : (rf.num_renames * 4 ≤ length e) × (bytes_from rf.num_renames 0 e ≤ length t)
          × ((j : ℕ) → 0 ≤ j → j < 0 + rf.num_renames → get_or e (j * 4 + 1) 0 ≤ 2)
          × (st.stay ≡ kept_state (is_noted l) rf e)
          × ((st.stay.num_renames + st.come.num_renames) * 4 ≤ length e)
          × (st.stay.text_len + st.come.text_len ≤ length t)
          × (length all ≡ st.stay.num_renames + st.come.num_renames)
          × (length (texts_of all) ≡ st.stay.text_len + st.come.text_len)
      import-ready = (
        import-in.0,
        import-in.1,
        λ j a b. order-mode rf.num_renames 0 0 rf.text_len e (in_order_lem known.1) j a b,
        ap (λ (c : Counted). c.stay) known.3 ∙ ap (λ (f : ℕ → Bool). kept_state f rf e) (sym (noted-named files zs l noted)),
        omega (arith, sums.0, final-room.0),
        omega (arith, sums.1, final-room.1),
        rw all-is (sym sums.0),
        rw all-is (sym sums.1),
      )

      pub import-changed : (e' t' : List ℕ) → e' ≡ sets e 0 (words_of all) → t' ≡ sets t 0 (texts_of all)
          → ◌≡◌ {A = RenamesChanged}
          (record { says = value (record { num_renames = st.stay.num_renames + st.come.num_renames; text_len = st.stay.text_len + st.come.text_len }); entries = e'; text = t' })
          (import_lent fs rf e t zs lengths names)
      import-changed e' t' b c =
          let x : e' ≡ sets e 0 (words_of final) = b ∙ ap (λ (r : List Renamed). sets e 0 (words_of r)) all-is in
          let y : t' ≡ sets t 0 (texts_of final) = c ∙ ap (λ (r : List Renamed). sets t 0 (texts_of r)) all-is in
          rw (number_is, known.0, sums.0, sums.1, x, y)
