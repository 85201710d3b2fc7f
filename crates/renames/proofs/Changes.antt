-- What a rename more makes of tables in order: both are spliced at its slot. These laws rely on those of proofs/Readings.antt,
-- proofs/Ordered.antt, proofs/Slots.antt and proofs/Splices.antt.
use Prim.Native.Nat.{ℕ, ◌+◌, ◌-◌, ◌*◌, ◌≤◌}
use mathlib.Core.Path.{◌≡◌, sym, ap, ◌∙◌}
use mathlib.Core.Bool.{true}
use mathlib.Core.List.{List, [], ◌∷◌, ◌++◌, append_assoc}
use native.Mathlib.Nat.{zero-add}
use native.Mathlib.Omega.{arith}
use lib.ListN.{length, take, drop, length-append, length-drop}
use lib.Seq.{sets, sets-eq, length-take-le}
use Rattle.lists.proofs.Parts.{drop-take}
use Rattle.renames.specs.declared.slot.Slot.{Slot}
use Rattle.renames.specs.declared.rename.RenamedFiles.{RenamedFiles}
use Rattle.renames.specs.Renames.{Renamed, mode_word, renames_from, ordered_from, placed_from, words_from, words_of, texts_of, state_of, with_rename}
use Rattle.renames.specs.private.Slots.{bytes_from, same_at, slot_of, spliced, with_places}
use Rattle.renames.proofs.Ordered.{order-mode, order-bytes}
use Rattle.renames.proofs.Halves.{below_from, sought_le, sought-below}
use Rattle.renames.proofs.Placed.{placed-list, placed-front, placed-behind, length-words, bytes-list}
use Rattle.renames.proofs.Slots.{same-le, same-one, same_old, bytes-split, bytes-slot, bytes_first}
use Rattle.renames.proofs.Readings.{length-renames, texts-back, words_back, words_append, texts-append, with-rename}
use Rattle.renames.proofs.Splices.{sets-own}

-- the slot of a file among n entries in order, whose texts have u bytes
module _ (n u file : ℕ) (e : List ℕ) (ordered : ordered_from n 0 0 u e ≡ true) where
  abbrev p : Slot
  p = slot_of n file e

  -- how many bytes stand behind what the rename has already
  abbrev more : ℕ
  more = bytes_from (n - (p.entry + p.same)) (p.entry + p.same) e

  pub slot-entry : p.entry + p.same ≤ n
  slot-entry = same-le n file p.entry e (sought_le n file e)

  pub slot-one : p.same ≤ 1
  slot-one = same-one n file p.entry e

  slot-bytes : u ≡ p.at + p.old + more
  slot-bytes = sym (order-bytes n 0 0 u e ordered) ∙ bytes-slot n file p.entry e (sought_le n file e)

  pub slot-text : p.at + p.old ≤ u
  slot-text = omega (arith, slot-bytes)

  -- the same of a slot x that is known to be the file's
  pub slot_in : (x : Slot) → x ≡ slot_of n file e → (x.entry + x.same ≤ n) × (x.same ≤ 1) × (x.at + x.old ≤ u)
  slot_in x h = rw h (slot-entry, slot-one, slot-text)

-- the list with a rename more, and what it makes of the tables
module _ (n u : ℕ) (r : Renamed) (e t : List ℕ) (ordered : ordered_from n 0 0 u e ≡ true) (placed : placed_from n 0 0 e ≡ true) (held : n * 4 ≤ length e) (room : u ≤ length t) where
  abbrev q : Slot
  q = slot_of n r.file e

  abbrev before : List Renamed
  before = renames_from q.entry 0 e t

  abbrev behind : List Renamed
  behind = renames_from (n - (q.entry + q.same)) (q.entry + q.same) e (drop (q.at + q.old) t)

  abbrev after : List Renamed
  after = with_rename r (renames_from n 0 e t)

  -- the words of the rename, whose text begins at the slot's place
  abbrev words : List ℕ
  words = r.file ∷ mode_word r.mode ∷ length r.name ∷ q.at ∷ []

  with-slot : after ≡ before ++ (r ∷ behind)
  with-slot =
      let s = sought-below n 0 u r.file e ordered in
      let w = with-rename r n 0 e t in
      rw (zero-add (below_from n 0 r.file e), zero-add (below_from n 0 r.file e + same_at n r.file (below_from n 0 r.file e) e), ← s) at w

  -- those before it and behind it are what the entries say
  words-before : words_from 0 before ≡ take (q.entry * 4) e
  words-before =
      let k = slot-entry n u r.file e ordered in
      let m : n ≡ q.entry + (n - q.entry) = omega arith in
      words_back q.entry 0 0 e t (λ j a b. order-mode n 0 0 u e ordered j (omega arith) (omega arith))
      (placed-front q.entry (n - q.entry) 0 0 e (ap (λ (x : ℕ). placed_from x 0 0 e) (sym m) ∙ placed))
      (omega arith)
      (omega (arith, bytes_first q.entry n e (sought_le n r.file e), order-bytes n 0 0 u e ordered))

  -- the bytes of the texts before the slot, and with what it has already
  bytes-passed : bytes_from (q.entry + q.same) 0 e ≡ q.at + q.old
  bytes-passed =
      let z : 0 + q.entry ≡ q.entry = omega arith in
      bytes-split q.entry q.same 0 e ∙ rw z (ap (λ (x : ℕ). q.at + x) (same_old n r.file q.entry e))

  words-behind : words_from (q.at + q.old) behind ≡ drop (q.entry * 4 + q.same * 4) (take (n * 4) e)
  words-behind =
      let k = slot-entry n u r.file e ordered in
      let b = slot-bytes n u r.file e ordered in
      let x : q.entry * 4 + q.same * 4 ≡ (q.entry + q.same) * 4 = omega arith in
      let y : n * 4 - (q.entry + q.same) * 4 ≡ (n - (q.entry + q.same)) * 4 = omega arith in
      let m : n ≡ q.entry + q.same + (n - (q.entry + q.same)) = omega arith in
      let p = placed-behind (q.entry + q.same) (n - (q.entry + q.same)) 0 0 e (ap (λ (x : ℕ). placed_from x 0 0 e) (sym m) ∙ placed) in
      words_back (n - (q.entry + q.same)) (q.entry + q.same) (q.at + q.old) e (drop (q.at + q.old) t)
      (λ j a c. order-mode n 0 0 u e ordered j (omega arith) (omega arith))
      (rw (zero-add (q.entry + q.same), zero-add (bytes_from (q.entry + q.same) 0 e), bytes-passed) at p)
      (omega arith)
      (omega (arith, length-drop (q.at + q.old) t))
      ∙ rw (x, drop-take ((q.entry + q.same) * 4) (n * 4) e, y)

  texts-behind : texts_of behind ≡ drop (q.at + q.old) (take u t)
  texts-behind =
      let b = slot-bytes n u r.file e ordered in
      let y : u - (q.at + q.old) ≡ more n u r.file e ordered = omega arith in
      texts-back (n - (q.entry + q.same)) (q.entry + q.same) e (drop (q.at + q.old) t) ∙ rw (drop-take (q.at + q.old) u t, y)

  texts-with : texts_of after ≡ take q.at t ++ (r.name ++ drop (q.at + q.old) (take u t))
  texts-with = rw (with-slot, texts-append before (r ∷ behind), texts-back q.entry 0 e t, texts-behind)

  length-behind : length behind ≡ n - (q.entry + q.same)
  length-behind = length-renames (n - (q.entry + q.same)) (q.entry + q.same) e (drop (q.at + q.old) t)

  texts-long : length (texts_of before) ≡ q.at
  texts-long =
      let k = slot-text n u r.file e ordered in
      rw (texts-back q.entry 0 e t) (length-take-le q.at t (omega arith))

  words-with : words_of after ≡ take (q.entry * 4) e ++ (words ++ words_from (q.at + length r.name) behind)
  words-with = rw (with-slot, words_append 0 before (r ∷ behind), words-before, texts-long, zero-add q.at)

  -- the entries after the new one is put among them, and after the texts behind it are placed
  abbrev spliced_in : List ℕ
  spliced_in = spliced e (n * 4) (q.entry * 4) (q.same * 4) words

  abbrev front : List ℕ
  front = take (q.entry * 4) e ++ words

  front-long : length front ≡ (q.entry + 1) * 4
  front-long =
      let k = slot-entry n u r.file e ordered in
      length-append (take (q.entry * 4) e) words ∙ omega (arith, length-take-le (q.entry * 4) e (omega arith))

  abbrev post : List ℕ
  post = drop (q.entry * 4 + (4 + length behind * 4)) e

  -- the words of the rename and of those behind it, written at the slot
  placed-at : (n + 1 - q.same) * 4 ≤ length e → (a : ℕ) → sets e (q.entry * 4) (words ++ words_from a behind) ≡ front ++ (words_from a behind ++ post)
  placed-at fits a =
      let k = slot-entry n u r.file e ordered in
      let m : length (words ++ words_from a behind) ≡ 4 + length behind * 4 = omega (arith, length-words a behind) in
      sets-eq (words ++ words_from a behind) e (q.entry * 4) (omega (arith, m, length-behind, slot-one n u r.file e ordered))
      ∙ rw m (append_assoc (take (q.entry * 4) e) (words ++ words_from a behind) post ∙ sym (append_assoc (take (q.entry * 4) e) words (words_from a behind ++ post)))

  pub entries-after : (n + 1 - q.same) * 4 ≤ length e → with_places (length behind) (q.entry + 1) (q.at + length r.name) spliced_in ≡ sets e 0 (words_of after)
  entries-after fits =
      let k = slot-entry n u r.file e ordered in
      let at = q.at + length r.name in
      rw (← words-behind, placed-at fits (q.at + q.old), placed-list behind (q.entry + 1) (q.at + q.old) at front post front-long, ← placed-at fits at)
      (sym (rw words-with (sets-own e (words ++ words_from at behind) (q.entry * 4) (omega arith))))

  -- the bytes of the texts that are placed
  pub bytes-after : (n + 1 - q.same) * 4 ≤ length e → bytes_from (length behind) (q.entry + 1) spliced_in ≡ length (texts_of behind)
  bytes-after fits = rw (← words-behind, placed-at fits (q.at + q.old)) (bytes-list behind (q.entry + 1) (q.at + q.old) front post front-long)

  pub text-after : sets t 0 (texts_of after) ≡ spliced t u q.at q.old r.name
  text-after =
      let k = slot-text n u r.file e ordered in
      rw texts-with (sets-own t (r.name ++ drop (q.at + q.old) (take u t)) q.at (omega arith))

  pub count-after : length after ≡ n + 1 - q.same
  count-after =
      let k = slot-entry n u r.file e ordered in
      rw (with-slot, length-append before (r ∷ behind), length-renames q.entry 0 e t, length-behind)
      (omega (arith, slot-one n u r.file e ordered))

  pub bytes_after : length (texts_of after) ≡ u - q.old + length r.name
  bytes_after =
      let k = slot-text n u r.file e ordered in
      rw (texts-with, length-append (take q.at t) (r.name ++ drop (q.at + q.old) (take u t)), length-append r.name (drop (q.at + q.old) (take u t)), length-drop (q.at + q.old) (take u t), length-take-le u t room, length-take-le q.at t (omega arith))
      (omega arith)

  -- the same of a slot x that is known to be the file's
  module _ (x : Slot) (h : x ≡ slot_of n r.file e) where
    pub put-state : ◌≡◌ {A = RenamedFiles} (record { num_renames = n + 1 - x.same; text_len = u - x.old + length r.name }) (state_of after)
    put-state = rw (h, count-after, bytes_after)

    abbrev pub put_in : List ℕ
    put_in = spliced e (n * 4) (x.entry * 4) (x.same * 4) (r.file ∷ mode_word r.mode ∷ length r.name ∷ x.at ∷ [])

    behind-is : n + 1 - x.same - (x.entry + 1) ≡ length behind
    behind-is =
        let k = slot-entry n u r.file e ordered in
        rw (h, length-behind) (omega arith)

    pub put_entries : (n + 1 - x.same) * 4 ≤ length e → with_places (n + 1 - x.same - (x.entry + 1)) (x.entry + 1) (x.at + length r.name) put_in ≡ sets e 0 (words_of after)
    put_entries fits = rw (behind-is, h) (entries-after (rw h at fits))

    -- the places of the entries behind, and the bytes of their texts
    pub put-room : (n + 1 - x.same) * 4 ≤ length e → (x.entry + 1 ≤ n + 1 - x.same) × (x.at + length r.name + bytes_from (n + 1 - x.same - (x.entry + 1)) (x.entry + 1) put_in ≡ u - x.old + length r.name)
    put-room fits =
        let k = slot-entry n u r.file e ordered in
        let b = slot-bytes n u r.file e ordered in
        let o = slot-one n u r.file e ordered in
        rw (behind-is, h) (omega arith, rw (bytes-after (rw h at fits), texts-behind) (omega (arith, length-drop (q.at + q.old) (take u t), length-take-le u t room)))

    pub put-text : spliced t u x.at x.old r.name ≡ sets t 0 (texts_of after)
    put-text = rw h (sym text-after)
