-- Rules in order: two lists of them in a row, what is known where none stops a call, and the rules of an addition on
-- numbers, group by group.
use Rattle.std.specs.Prelude.{Option, unwrap_or, Result, IsErrAnd, eqb}
use Rattle.std.specs.Bool.{then_some}
use Prim.Native.Nat.{ℕ, ◌+◌, ◌-◌, ◌%◌, ◌≤◌, ◌<◌}
use mathlib.Core.Path.{◌≡◌, refl, sym, ap, ◌∙◌}
use mathlib.Core.Bool.{Bool, true, false, not}
use mathlib.Core.List.{List, ◌++◌}
use native.Mathlib.Nat.{mod-lt, mod_self, mod-eq_of_lt, sub-zero}
use native.Mathlib.Omega.{arith}
use lib.IntN.{ℤ}
use borrow.Author.Tests.{lt-ltb, eqb-true}
use Rattle.types.specs.Refusals.{number_of, outcome, Outcome, refused}
use Rattle.types.specs.declared.refusal.Refusal.{Refusal}
use Rattle.types.proofs.Refusals.{exit}
use Rattle.tables.specs.declared.storage.FileStorage.{FileStorage}
use Rattle.additions.specs.declared.checks.Sizes.{Sizes}
use Rattle.additions.specs.declared.parts.PathParts.{PathParts}
use Rattle.rules.specs.Rules.{Rule, first_of, outcome_of}
use Rattle.rules.specs.Bounds.{limit, is_negative, clamped_of}
use Rattle.additions.specs.Addition.{decides, is_left_open, pad_to, pad_after, size_rules, version_rules, pad_rules}
use Rattle.additions.specs.private.Checks.{names_of, version_for, pad_if, sizes_for, number_rules}
use Rattle.rules.proofs.Rules.{after, stopped}

-- ---- the rules of an addition on numbers

-- what is missing to a multiple
pub pad-none : (n total : ℕ) → total % n ≡ 0 → 0 ≡ pad_to n total
pad-none n total e = rw (e, sub-zero n, mod_self n)

pub pad-some : (n total : ℕ) → 1 ≤ n → (total % n ≡ 0 → ⊥) → n - total % n ≡ pad_to n total
pad-some n total h e =
    let l = mod-lt total {m = n} h in
    let p : n - total % n < n = omega arith in
    sym (mod-eq_of_lt p)

-- how many bytes a pad has, 0 for none
pub pad-size : (n : ℕ) → unwrap_or (pad_if n) 0 ≡ n
pad-size n = at (eqb n 0) refl
  where
    at : (t : Bool) → eqb n 0 ≡ t → unwrap_or (then_some (not t) n) 0 ≡ n
    at true e = sym (eqb-true n 0 e)
    at false e = refl

module _ (fs : FileStorage) (given : Option (List ℕ)) (parts : PathParts) (z : ℤ) (link : List ℕ) (root : Bool) where
  abbrev sized : List Rule
  sized = size_rules fs.piece_length fs.total_size (is_negative z) (clamped_of z)

  abbrev named : List Rule
  named = names_of fs.num_files given parts

  abbrev kinds : List Rule
  kinds = version_rules fs.v2 (decides (clamped_of z) link) (is_left_open fs.total_size fs.num_symlinks fs.num_files) root

  abbrev pub pad : ℕ
  pad = pad_after (version_for fs z link root) fs.piece_length (fs.total_size + clamped_of z)

  abbrev padded : List Rule
  padded = pad_rules (fs.total_size + clamped_of z) pad

  abbrev result : Outcome Sizes
  result = outcome_of (first_of (number_rules fs given parts z link root)) (sizes_for fs z link root)

  -- what the exit of a `?` says where a group of rules stops
  abbrev Left : Refusal → Type 0
  Left e = (r : Result Sizes Refusal) → IsErrAnd r (λ x. x ≡ e) → outcome r ≡ result

  pub stop-size : (e : Refusal) → number_of e ≡ first_of sized → Left e
  stop-size e k r h = exit r e h ∙ stopped sized (named ++ (kinds ++ padded)) e (sizes_for fs z link root) refl k

  module _ (p : 0 ≡ first_of sized) where
    past-size : first_of (number_rules fs given parts z link root) ≡ first_of (named ++ (kinds ++ padded))
    past-size = after sized (named ++ (kinds ++ padded)) refl p

    pub stop-name : (e : Refusal) → number_of e ≡ first_of named → Left e
    stop-name e k r h = exit r e h ∙ rw past-size (stopped named (kinds ++ padded) e (sizes_for fs z link root) refl k)

    module _ (q : 0 ≡ first_of named) where
      past-name : first_of (number_rules fs given parts z link root) ≡ first_of (kinds ++ padded)
      past-name = past-size ∙ after named (kinds ++ padded) refl q

      -- the size, and whether the file decides and the set is open, as the code reads them
      module _ (size : ℕ) (plain free : Bool) (m : size ≡ clamped_of z) (a : plain ≡ decides size link) (b : free ≡ is_left_open fs.total_size fs.num_symlinks fs.num_files) where
        as_kinds : {k : ℕ} → k ≡ first_of (version_rules fs.v2 plain free root) → k ≡ first_of kinds
        as_kinds k = k ∙ rw (a, b, m)

        pub stop-kind : (e : Refusal) → number_of e ≡ first_of (version_rules fs.v2 plain free root) → Left e
        stop-kind e k r h = exit r e h ∙ rw past-name (stopped kinds padded e (sizes_for fs z link root) refl (as_kinds k))

        pub stop-pad : 0 ≡ first_of (version_rules fs.v2 plain free root) → (o : Option ℕ) → o ≡ (sizes_for fs z link root).pad
            → limit < fs.total_size + size + unwrap_or o 0 → refused 4 ≡ result
        stop-pad r o q h =
            let n : unwrap_or o 0 ≡ pad = ap (λ (x : Option ℕ). unwrap_or x 0) q ∙ pad-size pad in
            let k : limit < fs.total_size + clamped_of z + pad = omega (arith, h, m, n) in
            rw (past-name, after kinds padded refl (as_kinds r), lt-ltb limit (fs.total_size + clamped_of z + pad) k)
