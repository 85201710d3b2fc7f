-- Laws of `judge_links`: what is known where none of its refusals stops it, and its outcome in both cases. They rely on the laws
-- of rules in order (`rules`).
use Prim.Native.Nat.{ℕ, ◌+◌, ◌*◌, ◌≤◌}
use mathlib.Core.Path.{◌≡◌, refl, sym, ap, ◌∙◌}
use mathlib.Core.Bool.{Bool, true, false, cond, ◌&&◌, ◌||◌}
use mathlib.Core.List.{List, [], ◌∷◌, ◌++◌}
use native.Mathlib.Omega.{arith}
use lib.Dec.{ltb, leb}
use lib.ListN.{length, drop}
use lib.Seq.{sets, sets-eq}
use borrow.Author.Tests.{ltb-false, leb-true, not-false}
use Rattle.lists.proofs.Runs.{sets-whole}
use Rattle.types.specs.Refusals.{value}
use Rattle.tables.specs.Model.{Store}
use Rattle.rules.specs.Rules.{Rule, when, outcome_of}
use Rattle.rules.specs.Bounds.{bad_length}
use Rattle.rules.proofs.Rules.{both_true, passed, either-false, outcome-value}
use Rattle.rules.specs.Questions.{rows_are_held, dirs_held, text_held, few_entries, short}
use Rattle.lookup.specs.Lookup.{Entry, entries_of, directories_of}
use Rattle.lookup.specs.Space.{space, link_count, lacks_space}
use Rattle.links.specs.Judging.{verdict_of, verdicts_for, verdicts, judging_number, judged_of, judged}
use Rattle.links.specs.private.Walking.{first_marks}
use Rattle.links.proofs.Marking.{length-marks}

-- one verdict a flagged link
length-verdicts : (files : List Entry) (ds : List (List ℕ)) (fs : List Entry) → length (verdicts_for files ds fs) ≡ link_count fs
length-verdicts files ds [] = refl
length-verdicts files ds (f ∷ fs) = at f.flagged (length-verdicts files ds fs)
  where
    at : (b : Bool) → length (verdicts_for files ds fs) ≡ link_count fs
        → length (cond b (verdict_of files ds f ∷ verdicts_for files ds fs) (verdicts_for files ds fs)) ≡ cond b 1 0 + link_count fs
    at true e = omega arith
    at false e = omega arith

module _ (s : Store) where
  -- one mark a link: the first pass's marks fill them
  pub marks-whole : (ms : List ℕ) → length ms ≡ link_count (entries_of s)
      → sets ms 0 (first_marks (entries_of s) (directories_of s) (entries_of s)) ≡ first_marks (entries_of s) (directories_of s) (entries_of s)
  marks-whole ms h =
      sets-whole ms (first_marks (entries_of s) (directories_of s) (entries_of s))
      (length-marks (entries_of s) (directories_of s) (entries_of s) ∙ sym h)

  -- verdicts in the first marks of a longer list
  pub verdicts-set : (ms vs : List ℕ) (n : ℕ) → n ≡ link_count (entries_of s) → n ≤ length ms → vs ≡ verdicts s → vs ++ drop n ms ≡ sets ms 0 (verdicts s)
  verdicts-set ms vs n e h q =
      let l = length-verdicts (entries_of s) (directories_of s) (entries_of s) in
      let k : 0 + length (verdicts s) ≡ n = omega arith in
      let w : sets ms 0 (verdicts s) ≡ verdicts s ++ drop (0 + length (verdicts s)) ms = sets-eq (verdicts s) ms 0 (omega arith) in
      rw q (sym (w ∙ ap (λ (j : ℕ). verdicts s ++ drop j ms) k))

  module _ (marks scratch path : ℕ) where
    -- the refusals in order
    rules : List Rule
    rules =
        when (bad_length s.fs.piece_length) 1 ∷
        short ((rows_are_held s.fs s.rows && (dirs_held s.fs s.dirs && text_held s.fs s.text)) && few_entries s.fs) ∷
        when (lacks_space (entries_of s) marks scratch path) 10 ∷
        []

    -- where none stops: few files, and the work space
    pub record Roomy : Type 0 where
      pub few : s.fs.num_files ≤ 65535
      pub marked : link_count (entries_of s) ≤ marks
      pub staged : space (entries_of s) ≤ scratch
      pub walked : 2 * space (entries_of s) ≤ path

    pub roomy : judging_number s marks scratch path ≡ 0 → Roomy
    unfolding rules
    roomy e =
        let p = passed rules refl (sym e) in
        let a = either-false (ltb marks (link_count (entries_of s))) (ltb scratch (space (entries_of s)) || ltb path (2 * space (entries_of s))) p.1.1.0 in
        let b = either-false (ltb scratch (space (entries_of s))) (ltb path (2 * space (entries_of s))) a.1 in
        let held = rows_are_held s.fs s.rows && (dirs_held s.fs s.dirs && text_held s.fs s.text) in
        let f = (both_true held (few_entries s.fs) (not-false _ p.1.0)).1 in
        let n = (both_true (leb s.fs.num_files 65535) (leb s.fs.num_paths 65535) f).0 in
        record {
          few = leb-true s.fs.num_files 65535 n;
          marked = ltb-false marks (link_count (entries_of s)) a.0;
          staged = ltb-false scratch (space (entries_of s)) b.0;
          walked = ltb-false path (2 * space (entries_of s)) b.1;
        }

    -- where none stops, the number is that of the links, and there is a mark for each
    module _ (n : ℕ) (h : value n ≡ outcome_of (judging_number s marks scratch path) (link_count (entries_of s))) where
      pub judged-none : judging_number s marks scratch path ≡ 0
      judged-none = (outcome-value (judging_number s marks scratch path) n (link_count (entries_of s)) h).0

      pub judged-count : n ≡ link_count (entries_of s)
      judged-count = (outcome-value (judging_number s marks scratch path) n (link_count (entries_of s)) h).1

      pub judged-fits : n ≤ marks
      judged-fits = omega (arith, judged-count, (roomy judged-none).marked)

  -- the outcome
  module _ (marks : List ℕ) (scratch path : ℕ) where
    pub judged-yes : (n : ℕ) (x : List ℕ) → judging_number s (length marks) scratch path ≡ 0 → n ≡ link_count (entries_of s) → x ≡ sets marks 0 (verdicts s)
        → judged_of (value n) x ≡ judged s marks scratch path
    judged-yes n x e a b = rw (e, a, b)
