-- `files::file::map_tested` meets its contract.
use Rattle.std.proofs.Common.{◌≡◌, ℕ, zero, suc, not, ◌+◌, ◌/◌, ◌^◌, ◌<◌, Bool, true, false, ◌&&◌, ◌⊎◌, inl, inr, eqb, leb, List, length, ℤ, pos, sym, refl, ap, ◌∙◌, arith, to_z-of_z, w32, w64, SFits, to_z, of_z, rules, eqb-true}
use borrow.Author.Tests.{not-false}
use Rattle.std.proofs.Math.Dec.{eqb-suc-zero}
use denote.Param.{number}
use Rattle.types.specs.Refusals.{value, refused}
use Rattle.tables.specs.declared.storage.FileStorage.{FileStorage}
use Rattle.tables.specs.Rows.{row_at}
use Rattle.rules.specs.Rules.{first_of}
use Rattle.rules.specs.Bounds.{clamped_of, is_below}
use Rattle.rules.specs.Questions.{bad_piece_length, no_file, many_pieces, bad_range, few_entries}
use Rattle.rules.proofs.Rules.{Passed, passed}
use Rattle.rules.proofs.Deciding.{index-low}
use Rattle.layout.proofs.Deciding.{few-pieces}
use Rattle.files.specs.Request.{Request, request_at, map_file}
use Rattle.files.specs.private.Deciding.{bytes_rules, set_rules, position_rules}
use Rattle.files.specs.contracts.file.map_tested.{PASSES-type}
use Rattle.files.proofs.Deciding.{past_index, position-range, last-known, place-known, past-set, bytes_past}
use Rattle.files.proofs.Requests.{Placed, placed}
use Rattle.files.proofs.file.map_tested.Goals as goal
use Rattle.files.proofs.file.map_tested.Given.{Over}
use Rattle.files.proofs.file.map_tested.Goals.{After-passes_position-in_place}

not-both : (a b : Bool) → ((a ≡ true) × (b ≡ false)) ⊎ (a ≡ false) → (a && b) ≡ false
not-both a b (inl h) = rw (h.0, h.1)
not-both a b (inr h) = rw h

size_is : (size : ℤ) {x : ℤ} {n : ℕ} → SFits w32 size → SFits w64 x → x ≡ to_z w32 (of_z w32 size) → n ≡ clamped_of (to_z w64 (of_z w64 x)) → n ≡ clamped_of size
size_is size f g e h = h ∙ ap clamped_of (to_z-of_z g ∙ e ∙ to_z-of_z f)

-- the number counted round, and whether the set and the question pass their tests
record Asked (fs : FileStorage) (rows : List ℕ) (z offset size : ℤ) (k : ℕ) (set own : Bool) : Type 0 where
  index : SFits w32 z
  room : length rows / 8 < 2 ^ 63
  offset-fits : SFits w64 offset
  size-fits : SFits w32 size
  number : k ≡ of_z w64 z
  set-passes : set ≡ eqb (first_of (set_rules fs (length rows / 8))) 0
  passes : own ≡ eqb (first_of (position_rules fs (pos k) (to_z w64 (of_z w64 offset)) (to_z w32 (of_z w32 size)))) 0

-- PASSES, which is a byte here, as a Bool
set-true : (n : ℕ) → (n ≡ 0 → ⊥) → not (eqb n 0) ≡ true
set-true zero h = absurd (h refl)
set-true (suc n) h = ap not (eqb-suc-zero n)

set-false : (n : ℕ) → n ≡ 0 → not (eqb n 0) ≡ false
set-false n h = rw h

asked : {g : Over} (c : After-passes_position-in_place g)
    → Asked c.args.fs c.args.rows.now c.args.index.0 c.args.offset c.args.size c.file_or_past-k.result (PASSES-type (number g.row.PASSES)) c.passes_position-in_place.result
asked {g = g} c = record {
  index = search rules;
  room = search rules;
  offset-fits = search rules;
  size-fits = search rules;
  number = c.file_or_past-k.ensures;
  set-passes = c.requires;
  passes = c.passes_position-in_place.ensures;
}

module _ {fs : FileStorage} {rows : List ℕ} {z offset size : ℤ} {k : ℕ} {set own : Bool} (a : Asked fs rows z offset size k set own) where
  in_place : own ≡ eqb (first_of (position_rules fs (pos (of_z w64 z)) offset size)) 0
  in_place = rw (a.number, to_z-of_z a.offset-fits, to_z-of_z a.size-fits) at a.passes

  answered-is : (set && own) ≡ eqb (first_of (bytes_rules fs z offset size (length rows / 8))) 0
  answered-is = rw (a.set-passes, in_place) (bytes_past fs z offset size (length rows / 8) a.index a.room)

  -- where both pass, no refusal's test holds, and the request is the one that is due
  module _ (h : set ≡ true) (i : own ≡ true) where
    whole : eqb (first_of (bytes_rules fs z offset size (length rows / 8))) 0 ≡ true
    whole = sym answered-is ∙ rw (h, i)

    tests : Passed (bytes_rules fs z offset size (length rows / 8))
    tests = passed (bytes_rules fs z offset size (length rows / 8)) refl (sym (eqb-true _ 0 whole))

    number_is : k ≡ clamped_of z
    number_is = a.number ∙ past_index z fs.num_files (not-false (is_below fs.num_files z) tests.1.0)

    request-is : {off p n : ℕ} {x : ℤ} {q : Request} → off ≡ (row_at rows k).offset → p ≡ clamped_of (to_z w64 (of_z w64 offset)) → SFits w64 x
        → x ≡ to_z w32 (of_z w32 size) → n ≡ clamped_of (to_z w64 (of_z w64 x)) → q ≡ request_at fs (off + p) n → q ≡ map_file fs rows (clamped_of z) (clamped_of offset) (clamped_of size)
    request-is i j g x n e = rw (i, number_is, j, to_z-of_z a.offset-fits, size_is size a.size-fits g x n) at e

    due : Placed fs ((row_at rows (clamped_of z)).offset + clamped_of offset) (clamped_of size) (map_file fs rows (clamped_of z) (clamped_of offset) (clamped_of size))
    due = placed fs _ (clamped_of size) _ (few-pieces fs tests.0 tests.1.1.0) refl

pub signed_request-requires : goal.signed_request-requires
signed_request-requires g c =
    let k = asked (goal.at.signed_request-requires g c).After-passes_position-in_place in
    let q = request-is k (set-true _ c.if-this-ne0.true) c.if-in_place.true c.offset_of.ensures c.clamped.ensures (search rules) c.from.ensures c.clamped-then-in_place.ensures c.request_at.ensures in
    let p = due k (set-true _ c.if-this-ne0.true) c.if-in_place.true in
    (omega (arith, ap (λ (r : Request). r.piece) q, p.piece), omega (arith, ap (λ (r : Request). r.start) q, p.start), omega (arith, ap (λ (r : Request). r.length) q, p.length, index-low c.args.size k.size-fits))

pub returns-then-in_place : goal.returns-then-in_place
returns-then-in_place g c =
    let k = asked (goal.at.returns-then-in_place g c).After-passes_position-in_place in
    let q = request-is k (set-true _ c.if-this-ne0.true) c.if-in_place.true c.offset_of.ensures c.clamped.ensures (search rules) c.from.ensures c.clamped-then-in_place.ensures c.request_at.ensures in
    let h = c.signed_request.ensures in
    rw (whole k (set-true _ c.if-this-ne0.true) c.if-in_place.true)
    (ap value
    (cc (
      h.0 ∙ ap (λ (r : Request). pos r.piece) q,
      h.1 ∙ ap (λ (r : Request). pos r.start) q,
      h.2 ∙ ap (λ (r : Request). pos r.length) q,
    )))

-- where the question is not answered, a refusal's test holds: where the set passes, one of the question's
pub returns-then-this-ne0 : goal.returns-then-this-ne0
returns-then-this-ne0 g c =
    let a = c.args in
    let k = asked (goal.at.returns-then-this-ne0 g c).After-passes_position-in_place in
    let s = set-true _ c.if-this-ne0.true in
    let e = sym (answered-is k) ∙ not-both _ _ (inl (s, c.if-in_place.false)) in
    let p = sym k.set-passes ∙ s in
    let l = place-known (bad_piece_length a.fs).test (no_file a.fs a.index.0).test (many_pieces a.fs).test (bad_range a.offset a.size).test (leb a.fs.num_files (length a.rows.now / 8) && few_entries a.fs)
    p e in
    let r = rw (k.number, past-set a.fs a.index.0 (length a.rows.now / 8) k.index k.room p) at c.refused_place.ensures in
    rw e (ap refused (r ∙ l))

pub returns : goal.returns
returns g c =
    let a = c.args in
    let k = asked (goal.at.returns g c).After-passes_position-in_place in
    let e = sym (answered-is k) ∙ not-both _ _ (inr (set-false _ c.if-this-ne0.false)) in
    let l = last-known (bad_piece_length a.fs).test (no_file a.fs a.index.0).test (many_pieces a.fs).test (bad_range a.offset a.size).test (leb a.fs.num_files (length a.rows.now / 8) && few_entries a.fs) _
    (λ h. in_place k ∙ position-range a.fs a.index.0 a.offset a.size h) e in
    rw e (ap refused (c.refused_bytes.ensures ∙ l))
