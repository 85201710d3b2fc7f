-- `renames::change::put_rename` meets its contract.
use Prim.Native.Nat.{ℕ, ◌+◌, ◌-◌, ◌*◌, ◌≤◌}
use mathlib.Core.Path.{ap, ◌∙◌}
use mathlib.Core.List.{List, [], ◌∷◌}
use native.Mathlib.Omega.{arith}
use lib.ListN.{length}
use Rattle.renames.specs.Renames.{Renamed}
use Rattle.renames.specs.private.Slots.{bytes_from, spliced, with_places}
use Rattle.renames.proofs.Changes.{slot_in, put-state, put_entries, put-room, put-text}
use Rattle.renames.proofs.change.put_rename.Goals as goal

pub overflow_add-p-2 : goal.overflow_add-p-2
overflow_add-p-2 c =
    let s = slot_in c.args.renames.num_renames c.args.renames.text_len c.args.file c.args.entries.now c.requires.0 c.args.p c.requires.2 in
    omega (arith, s.2, c.requires.6)

pub place_texts-requires : goal.place_texts-requires
place_texts-requires c =
    let a = c.args in
    let n = a.renames.num_renames in
    let u = a.renames.text_len in
    let r : Renamed = record { file = a.file; mode = a.mode; name = a.name.now } in
    let held : n * 4 ≤ length a.entries.now = omega (arith, c.requires.3) in
    let fits : (n + 1 - a.p.same) * 4 ≤ length a.entries.now = omega (arith, c.requires.5) in
    let p = put-room n u r a.entries.now a.text.now c.requires.0 c.requires.1 held c.requires.4 a.p c.requires.2 fits in
    let word = ap (λ (m : ℕ). spliced a.entries.now (n * 4) (a.p.entry * 4) (a.p.same * 4) (a.file ∷ m ∷ length a.name.now ∷ a.p.at ∷ [])) c.from.ensures in
    let same = c.splice-2.ensures ∙ word in
    let b = ap (λ (l : List ℕ). bytes_from (n + 1 - a.p.same - (a.p.entry + 1)) (a.p.entry + 1) l) same in
    (p.0, omega (arith, c.splice-2.auto.items, c.requires.5), omega (arith, b, p.1, c.requires.6))

pub returns : goal.returns
returns c =
    let a = c.args in
    let n = a.renames.num_renames in
    let u = a.renames.text_len in
    let r : Renamed = record { file = a.file; mode = a.mode; name = a.name.now } in
    let held : n * 4 ≤ length a.entries.now = omega (arith, c.requires.3) in
    let fits : (n + 1 - a.p.same) * 4 ≤ length a.entries.now = omega (arith, c.requires.5) in
    let word = ap (λ (m : ℕ). spliced a.entries.now (n * 4) (a.p.entry * 4) (a.p.same * 4) (a.file ∷ m ∷ length a.name.now ∷ a.p.at ∷ [])) c.from.ensures in record {
      value = put-state n u r a.entries.now a.text.now c.requires.0 c.requires.1 held c.requires.4 a.p c.requires.2;
      entries_after = c.place_texts.ensures ∙ ap (λ (l : List ℕ). with_places (n + 1 - a.p.same - (a.p.entry + 1)) (a.p.entry + 1) (a.p.at + length a.name.now) l) (c.splice-2.ensures ∙ word) ∙ put_entries n u r a.entries.now a.text.now c.requires.0 c.requires.1 held c.requires.4 a.p c.requires.2 fits;
      text_after = c.splice.ensures ∙ put-text n u r a.entries.now a.text.now c.requires.0 c.requires.1 held c.requires.4 a.p c.requires.2;
    }
