-- Deciding before a change: the order of the refusals, what is known once none stops the call, and that the decision on numbers is
-- that of the change. These laws rely on those of proofs/Changes.antt.
use Rattle.std.specs.Prelude.{Result, IsErrAnd}
use Prim.Native.Nat.{ℕ, ◌+◌, ◌-◌, ◌*◌, ◌/◌, ◌≤◌}
use mathlib.Core.Path.{◌≡◌, refl, ◌∙◌}
use mathlib.Core.Bool.{Bool, true, false, cond, not, ◌&&◌}
use mathlib.Core.List.{List, [], ◌∷◌}
use native.Mathlib.Omega.{arith}
use borrow.Author.Tests.{leb-true, ltb-false, not-false}
use lib.Dec.{eqb, ltb, leb}
use lib.IntN.{ℤ}
use lib.ListN.{length, take}
use lib.Seq.{sets}
use Rattle.types.specs.declared.refusal.Refusal.{Refusal}
use Rattle.types.specs.Refusals.{number_of, outcome, value, refused}
use Rattle.types.proofs.Refusals.{exit}
use Rattle.tables.specs.declared.storage.FileStorage.{FileStorage}
use Rattle.rules.specs.Rules.{when, first_of, outcome_of}
use Rattle.rules.specs.Bounds.{bad_length, clamped_of, is_below}
use Rattle.rules.proofs.Rules.{either-false, both_true}
use Rattle.rules.specs.Questions.{few_entries}
use Rattle.rules.proofs.Deciding.{allowed, denied}
use Rattle.renames.proofs.Deciding.{passes}
use Rattle.renames.specs.declared.rename.RenamedFiles.{RenamedFiles}
use Rattle.renames.specs.declared.slot.Slot.{Slot}
use Rattle.renames.specs.Renames.{Renamed, RenamesChanged, ordered_from, placed_from, renames_held, renames_of, renamed_to, lacks_room, in_order, state_of, words_of, texts_of, rename_file_answer}
use Rattle.renames.specs.private.Slots.{slot_of}
use Rattle.renames.specs.Renames.{in_order_in}
use Rattle.renames.specs.private.Changing.{is_short, slot_number, slot_given, rename_of}
use Rattle.renames.proofs.Ordered.{order-bytes}
use Rattle.renames.proofs.Used.{slot_in_use}
use Rattle.renames.proofs.Changes.{slot_in, count-after, bytes_after}

-- what tables in order hold
pub order-in : (rf : RenamedFiles) (e : List ℕ) (room : ℕ) → in_order_in rf e room ≡ true
    → (rf.num_renames ≤ length e / 4) × (rf.text_len ≤ room) × (ordered_from rf.num_renames 0 0 rf.text_len e ≡ true) × (placed_from rf.num_renames 0 0 e ≡ true)
order-in rf e room h =
    let c = both_true (renames_held rf e room) (ordered_from rf.num_renames 0 0 rf.text_len e && placed_from rf.num_renames 0 0 e) h in
    let a = both_true (leb rf.num_renames (length e / 4)) (leb rf.text_len room) c.0 in
    let b = both_true (ordered_from rf.num_renames 0 0 rf.text_len e) (placed_from rf.num_renames 0 0 e) c.1 in
    (leb-true _ _ a.0, leb-true _ _ a.1, b.0, b.1)

-- what a slot among the entries in use asks of the room
pub room_asked : (rf : RenamedFiles) (e : List ℕ) (room k : ℕ) (p : Slot) → in_order_in rf e room ≡ true
    → p ≡ slot_of (length (take (rf.num_renames * 4) e) / 4) k (take (rf.num_renames * 4) e)
    → (rf.num_renames ≤ length e / 4) × (rf.text_len ≤ room) × (p.old ≤ rf.text_len) × (p.same ≤ 1)
room_asked rf e room k p h is =
    let o = order-in rf e room h in
    let s = slot_in rf.num_renames rf.text_len k e o.2 p (is ∙ slot_in_use rf.num_renames e (omega (arith, o.0)) k) in
    (o.0, o.1, omega (arith, s.2), s.1)

-- with the bytes of the texts
pub ruleset orders = (order-in, order-bytes)

-- ---- refusals in a row

-- none of them: what is known
pub five-passed : {A : Type 0} (a b l o s : Bool) (p q : A) → value p ≡ outcome_of (first_of (when a 1 ∷ when b 11 ∷ when (not l) 10 ∷ when (not o) 10 ∷ when s 10 ∷ [])) q
    → (eqb (first_of (when a 1 ∷ when b 11 ∷ when (not l) 10 ∷ when (not o) 10 ∷ when s 10 ∷ [])) 0 ≡ true) × (o ≡ true) × (s ≡ false) × (p ≡ q)
five-passed a b l o s p q h =
    let n = first_of (when a 1 ∷ when b 11 ∷ when (not l) 10 ∷ when (not o) 10 ∷ when s 10 ∷ []) in
    let t = passes (when a 1 ∷ when b 11 ∷ when (not l) 10 ∷ when (not o) 10 ∷ when s 10 ∷ []) refl p q h in
    ((allowed n q (eqb n 0) p h).0, not-false o t.0.1.1.1.0, t.0.1.1.1.1.0, t.1)

-- the last two, where the last is known only in order
pub same_test : (o x y : Bool) → (o ≡ true → x ≡ y) → ◌≡◌ {A = ℕ} (cond (not o) 10 (cond x 10 0)) (cond (not o) 10 (cond y 10 0))
same_test true x y h = rw (h refl)
same_test false x y h = refl

-- ---- the decision is that of the change

module _ (fs : FileStorage) (rf : RenamedFiles) (e t : List ℕ) (z : ℤ) (name : List ℕ) where
  abbrev after : List Renamed
  after = renamed_to z name (renames_of rf e t)

  abbrev there : Slot
  there = slot_of rf.num_renames (clamped_of z) e

  room-is : in_order_in rf e (length t) ≡ true → lacks_room after e t ≡ is_short rf there (length e) (length t) (length name)
  room-is h =
      let o = order-in rf e (length t) h in
      let r : Renamed = rename_of (clamped_of z) name in
      let n = rf.num_renames in
      let u = rf.text_len in
      let held : n * 4 ≤ length e = omega arith in
      rw (count-after n u r e t o.2 o.3 held o.1, bytes_after n u r e t o.2 o.3 held o.1)

  abbrev change_number : ℕ
  change_number =
      cond (bad_length fs.piece_length) 1
      (cond (not (is_below fs.num_files z)) 11 (cond (not (few_entries fs)) 10 (cond (not (in_order rf e t)) 10 (cond (lacks_room after e t) 10 0))))

  number_is : change_number ≡ slot_number fs rf e (length t) z (length name)
  number_is =
      rw (same_test (in_order_in rf e (length t)) (lacks_room after e t) (is_short rf there (length e) (length t) (length name)) room-is)

  module _ (p : Slot) (h : value p ≡ slot_given fs rf e (length t) z (length name)) where
    abbrev known : (eqb (slot_number fs rf e (length t) z (length name)) 0 ≡ true) × (in_order_in rf e (length t) ≡ true) × (is_short rf there (length e) (length t) (length name) ≡ false) × (p ≡ there)
    known =
        five-passed (bad_length fs.piece_length) (not (is_below fs.num_files z)) (few_entries fs) (in_order_in rf e (length t)) (is_short rf there (length e) (length t) (length name)) p there h

    pub slot-known : (ordered_from rf.num_renames 0 0 rf.text_len e ≡ true) × (placed_from rf.num_renames 0 0 e ≡ true) × (p ≡ there)
        × (rf.num_renames ≤ length e / 4) × (rf.text_len ≤ length t)
        × (rf.num_renames + 1 - p.same ≤ length e / 4) × (rf.text_len - p.old + length name ≤ length t)
    slot-known =
        let o = order-in rf e (length t) known.1 in
        let s = either-false (ltb (length e / 4) (rf.num_renames + 1 - there.same)) (ltb (length t) (rf.text_len - there.old + length name)) known.2 in
        (o.2, o.3, known.3, o.0, o.1, rw known.3 (ltb-false _ _ s.0), rw known.3 (ltb-false _ _ s.1))

    pub slot-changed : (rf' : RenamedFiles) (e' t' : List ℕ) → rf' ≡ state_of after → e' ≡ sets e 0 (words_of after) → t' ≡ sets t 0 (texts_of after)
        → ◌≡◌ {A = RenamesChanged} (record { says = value rf'; entries = e'; text = t' }) (rename_file_answer fs rf e t z name)
    slot-changed rf' e' t' a b d = rw (number_is, known.0, a, b, d)

  -- one stops it, and a `?` leaves with it
  pub slot-refused : (r : Result RenamedFiles Refusal) (x : Refusal) → IsErrAnd r (λ y. y ≡ x)
      → refused (number_of x) ≡ slot_given fs rf e (length t) z (length name)
      → ◌≡◌ {A = RenamesChanged} (record { says = outcome r; entries = e; text = t }) (rename_file_answer fs rf e t z name)
  slot-refused r x i h =
      let n = slot_number fs rf e (length t) z (length name) in
      let d = denied n there (eqb n 0) (number_of x) h in
      rw (exit r x i, number_is, d.0, d.1)
