-- The decision of `map_file` in two parts, and numbers by their low 31 bits. They rely on the rules in order of `rules`.
--     low-as, low-whole                   the low 31 bits of a number
--     past-held, past_index, bytes_past   a negative number's file is past the end of every set that a table holds
--     past-set                            so is it past the end of a set that passes its tests
--     position-range                      the tests of a question, where there is such a file
--     last-known                          the refusal of a question that does not pass
--     place-known                         the same, where the set passes
--     rules-apart                         a question about bytes of a file is answered where the set and the question pass
use Rattle.std.proofs.Common.{◌≡◌, ℕ, suc, ◌-◌, ◌%◌, ◌^◌, ◌<◌, ◌≤◌, Bool, true, false, not, ◌&&◌, eqb, ltb, leb, [], ◌∷◌, ℤ, pos, negsuc, sym, refl, ap, ◌∙◌, true≢false, arith, w32, w64, SFits, of_z, le-ltb, leb-true, eqb-true}
use Rattle.tables.specs.declared.storage.FileStorage.{FileStorage}
use Rattle.rules.specs.Rules.{when, first_of}
use Rattle.rules.specs.Bounds.{clamped_of, is_below}
use Rattle.files.specs.private.Deciding.{set_rules, position_rules, bytes_rules}
use Rattle.rules.specs.Questions.{bad_piece_length, no_file, many_pieces, bad_range, short, few_entries}
use Rattle.rules.proofs.Rules.{both_true, passed}
use borrow.Author.Tests.{not-false}
use Rattle.rules.proofs.Deciding.{low-i32}

-- the low 31 bits of a number that is another
pub low-as : {z : ℤ} {n m : ℕ} → z ≡ pos (n % 2 ^ 31) → n ≡ m → z ≡ pos (m % 2 ^ 31)
low-as h e = h ∙ ap (λ (k : ℕ). pos (k % 2 ^ 31)) e

-- the number itself, where it is below 2 ^ 31
pub low-whole : {z : ℤ} {n m : ℕ} → z ≡ pos (n % 2 ^ 31) → n ≡ m → m ≤ 2147483647 → z ≡ pos m
low-whole {m = m} h e l = low-as h e ∙ low-i32 m l

-- the tests of the set and those of the question, apart and in their order
rules-apart : (a b c d e : Bool)
    → eqb (first_of (when a 1 ∷ when b 11 ∷ when c 13 ∷ when d 14 ∷ when e 10 ∷ [])) 0
    ≡ (eqb (first_of (when a 1 ∷ when c 13 ∷ when e 10 ∷ [])) 0 && eqb (first_of (when b 11 ∷ when d 14 ∷ [])) 0)
rules-apart true b c d e = refl
rules-apart false true true d e = refl
rules-apart false true false d true = refl
rules-apart false true false d false = refl
rules-apart false false true d e = refl
rules-apart false false false true true = refl
rules-apart false false false true false = refl
rules-apart false false false false true = refl
rules-apart false false false false false = refl

-- the refusal of a question that does not pass: one test is known where there is such a file, and the last holds where
-- none before it does
pub last-known : (a b c d h p : Bool) → (b ≡ false → p ≡ not d)
    → eqb (first_of (when a 1 ∷ when b 11 ∷ when c 13 ∷ when d 14 ∷ short h ∷ [])) 0 ≡ false
    → first_of (when a 1 ∷ when b 11 ∷ when c 13 ∷ when (not p) 14 ∷ short false ∷ []) ≡ first_of (when a 1 ∷ when b 11 ∷ when c 13 ∷ when d 14 ∷ short h ∷ [])
last-known true b c d h p q e = refl
last-known false true c d h p q e = refl
last-known false false true d h p q e = refl
last-known false false false true h p q e = rw (q refl)
last-known false false false false true p q e = absurd (true≢false e)
last-known false false false false false p q e = rw (q refl)

-- the refusal of a question that does not pass, where the set passes its tests
pub place-known : (a b c d h : Bool) → eqb (first_of (when a 1 ∷ when c 13 ∷ short h ∷ [])) 0 ≡ true
    → eqb (first_of (when a 1 ∷ when b 11 ∷ when c 13 ∷ when d 14 ∷ short h ∷ [])) 0 ≡ false
    → first_of (when b 11 ∷ when true 14 ∷ []) ≡ first_of (when a 1 ∷ when b 11 ∷ when c 13 ∷ when d 14 ∷ short h ∷ [])
place-known true b c d h s e = absurd (true≢false (sym s))
place-known false b true d h s e = absurd (true≢false (sym s))
place-known false b false d false s e = absurd (true≢false (sym s))
place-known false true false d true s e = refl
place-known false false false true true s e = refl
place-known false false false false true s e = absurd (true≢false e)

-- a negative number's file is past the end of every set that a table holds
past-held : (z : ℤ) (n : ℕ) → SFits w32 z → n < 2 ^ 63 → ltb (of_z w64 z) n ≡ is_below n z
past-held (pos k) n f h = refl
past-held (negsuc k) n f h =
    let m : k < 2 ^ 31 = f.sfits in
    le-ltb (2 ^ 64 - suc k) n (omega arith)

pub past_index : (z : ℤ) (n : ℕ) → is_below n z ≡ true → of_z w64 z ≡ clamped_of z
past_index (pos k) n e = refl
past_index (negsuc k) n e = absurd (true≢false (sym e))

-- where the set passes, the number counted round is that of a file where the number itself is
pub past-set : (fs : FileStorage) (z : ℤ) (room : ℕ) → SFits w32 z → room < 2 ^ 63 → eqb (first_of (set_rules fs room)) 0 ≡ true
    → is_below fs.num_files (pos (of_z w64 z)) ≡ is_below fs.num_files z
past-set fs z room f h e =
    let t = passed (set_rules fs room) refl (sym (eqb-true _ 0 e)) in
    let held = both_true (leb fs.num_files room) (few_entries fs) (not-false _ t.1.1.0) in
    past-held z fs.num_files f (omega (arith, leb-true fs.num_files room held.0))

-- where there is such a file, its question passes unless the range is bad
pub position-range : (fs : FileStorage) (z offset size : ℤ) → (no_file fs z).test ≡ false
    → eqb (first_of (position_rules fs (pos (of_z w64 z)) offset size)) 0 ≡ not (bad_range offset size).test
position-range fs (pos k) offset size h = rw h (by (bad_range offset size).test)
  where
    by : (b : Bool) → eqb (first_of (when b 14 ∷ [])) 0 ≡ not b
    by true = refl
    by false = refl
position-range fs (negsuc k) offset size h = absurd (true≢false h)

-- a question is answered where the set passes its tests and the question its own, by the number counted round
pub bytes_past : (fs : FileStorage) (z offset size : ℤ) (room : ℕ) → SFits w32 z → room < 2 ^ 63
    → (eqb (first_of (set_rules fs room)) 0 && eqb (first_of (position_rules fs (pos (of_z w64 z)) offset size)) 0) ≡ eqb (first_of (bytes_rules fs z offset size room)) 0
bytes_past fs z offset size room f h = by (leb fs.num_files room && few_entries fs) refl
  where
    apart : (eqb (first_of (set_rules fs room)) 0 && eqb (first_of (position_rules fs z offset size)) 0) ≡ eqb (first_of (bytes_rules fs z offset size room)) 0
    apart = sym (rules-apart (bad_piece_length fs).test (no_file fs z).test (many_pieces fs).test (bad_range offset size).test (short (leb fs.num_files room && few_entries fs)).test)

    unfit : (a b : Bool) → eqb (first_of (when a 1 ∷ when b 13 ∷ when true 10 ∷ [])) 0 ≡ false
    unfit true b = refl
    unfit false true = refl
    unfit false false = refl

    by : (b : Bool) → (leb fs.num_files room && few_entries fs) ≡ b
        → (eqb (first_of (set_rules fs room)) 0 && eqb (first_of (position_rules fs (pos (of_z w64 z)) offset size)) 0) ≡ eqb (first_of (bytes_rules fs z offset size room)) 0
    by true e = rw (past-held z fs.num_files f (omega (arith, leb-true fs.num_files room (both_true (leb fs.num_files room) (few_entries fs) e).0))) apart
    by false e =
        let u : eqb (first_of (set_rules fs room)) 0 ≡ false = rw e (unfit (bad_piece_length fs).test (many_pieces fs).test) in
        rw u (rw u at apart)
