-- Laws of the whole call: the verdicts that the marks give are those of the definition, the refusals of a cleaning are those of the
-- judgement and then the room, and each way out is its case. They rely on the laws of the files from a place on (`lookup`), of the
-- judgement (`links`) and of rules in order (`rules`).
use Prim.Native.Nat.{ℕ, zero, suc, ◌+◌, ◌*◌, ◌≤◌}
use mathlib.Core.Path.{◌≡◌, refl, sym, ap, subst, ◌∙◌}
use mathlib.Core.Bool.{Bool, true, false, cond, ◌&&◌, ◌||◌}
use mathlib.Core.List.{List, [], ◌∷◌, ◌++◌}
use native.Mathlib.Omega.{arith}
use native.Mathlib.Nat.{sub-zero}
use lib.Dec.{eqb, ltb, leb}
use lib.ListN.{length, get_or, drop, replicate}
use lib.Seq.{sets, get_or-drop, drop-drop}
use borrow.Author.Tests.{eqb-true, le-ltb, ltb-false, leb-true, not-false}
use Rattle.lists.specs.Lists.{cleared}
use Rattle.types.specs.Refusals.{value, refused}
use Rattle.tables.specs.Model.{Store}
use Rattle.rules.specs.Rules.{Rule, when}
use Rattle.rules.specs.Bounds.{bad_length}
use Rattle.rules.specs.Questions.{rows_are_held, dirs_held, text_held, few_entries, short}
use Rattle.rules.proofs.Rules.{passed, both_true, either-false, or_else, first-append}
use Rattle.lookup.specs.Lookup.{Entry, is_flagged, entries_of, directories_of}
use Rattle.lookup.specs.Space.{space, link_count, lacks_space}
use Rattle.lookup.specs.private.Rows.{entry_at, entries_from}
use Rattle.lookup.proofs.Rows.{flagged-at, entries-all}
use Rattle.links.specs.declared.mark.LinkVerdict.{LinkVerdict}
use Rattle.links.specs.declared.mark.LinkVerdict.TheVariants.{Keep}
use Rattle.links.specs.Judging.{verdict_read, verdict_of, verdicts_for, verdicts, judging_number}
use Rattle.links.proofs.Judgements.{verdicts-set}
use Rattle.texts.proofs.OneLink.{cond_no}
use Rattle.cleaning.specs.Cleaning.{file_verdicts_for, file_verdicts, emptied, rewritten, cleaned_store, kept_after, new_bytes, text_needed, Cleaned, cleaned_to, cleaning_number}
use Rattle.links.specs.Judging.{Judged, judged_of, judged}
use Rattle.cleaning.specs.private.Writing.{flags_in, verdicts_by, all_verdicts, cleaned_by, cleaned_within}

-- ---- verdicts

-- marks that go on with the verdicts give the verdicts of the files from i on
module _ (s : Store) (marks : List ℕ) (files : List Entry) (dirs : List (List ℕ)) where
  -- one file: its verdict is the next mark where it is a flagged link
  one-verdict : (b : Bool) (v k n i : ℕ) (vs rest : List ℕ) (fs : List LinkVerdict) → drop k marks ≡ cond b (v ∷ vs) vs ++ rest
      → ((j : ℕ) → drop j marks ≡ vs ++ rest → verdicts_by (flags_in s.rows) marks n (i + 1) j ≡ fs)
      → cond b (verdict_read (get_or marks k 0)) Keep ∷ verdicts_by (flags_in s.rows) marks n (i + 1) (cond b (k + 1) k) ≡ cond b (verdict_read v) Keep ∷ fs
  one-verdict true v k n i vs rest fs e others =
      let z : k + 0 ≡ k = omega arith in
      let read : get_or marks k 0 ≡ v = ap (λ (x : ℕ). get_or marks x 0) (sym z) ∙ sym (get_or-drop k marks 0 0) ∙ ap (λ (l : List ℕ). get_or l 0 0) e in
      let next : drop (k + 1) marks ≡ vs ++ rest = sym (drop-drop 1 k marks) ∙ ap (drop 1) e in
      rw (read, others (k + 1) next)
  one-verdict false v k n i vs rest fs e others = rw (others k e)

  verdicts-from : (n i k : ℕ) (rest : List ℕ) → drop k marks ≡ verdicts_for files dirs (entries_from s n i) ++ rest
      → verdicts_by (flags_in s.rows) marks n i k ≡ file_verdicts_for files dirs (entries_from s n i)
  unfolding verdicts_by entries_from
  verdicts-from zero i k rest e = refl
  verdicts-from (suc n) i k rest e =
      let f = entry_at s i in
      let v = verdict_of files dirs f in
      let vs = verdicts_for files dirs (entries_from s n (i + 1)) in
      let fs = file_verdicts_for files dirs (entries_from s n (i + 1)) in
      let flag : f.flagged ≡ is_flagged (flags_in s.rows i) = sym (flagged-at s i) in
      one-verdict (is_flagged (flags_in s.rows i)) v k n i vs rest fs (e ∙ ap (λ (b : Bool). cond b (v ∷ vs) vs ++ rest) flag) (λ j q. verdicts-from n (i + 1) j rest q)
      ∙ ap (λ (b : Bool). cond b (verdict_read v) Keep ∷ fs) (sym flag)

-- the marks that a judgement leaves give all verdicts
pub marked-verdicts : (s : Store) (marks : List ℕ) → link_count (entries_of s) ≤ length marks → all_verdicts s (sets marks 0 (verdicts s)) ≡ file_verdicts s
marked-verdicts s marks h =
    let e : verdicts s ++ drop (link_count (entries_of s)) marks ≡ sets marks 0 (verdicts s) = verdicts-set s marks (verdicts s) (link_count (entries_of s)) refl h refl in
    let all = entries-all s in
    let q = sym e ∙ ap (λ (l : List Entry). verdicts_for (entries_of s) (directories_of s) l ++ drop (link_count (entries_of s)) marks) (sym all) in
    verdicts-from s (sets marks 0 (verdicts s)) (entries_of s) (directories_of s) s.fs.num_files 0 0 (drop (link_count (entries_of s)) marks) q
    ∙ ap (file_verdicts_for (entries_of s) (directories_of s)) all

-- ---- without flagged links

module _ (s : Store) where
  -- files that keep their texts
  kept-all : (n i u : ℕ) → kept_after (replicate n Keep) i s u ≡ u
  kept-all zero i u = refl
  kept-all (suc n) i u = ap (kept_after (replicate n Keep) (i + 1) s) (sub-zero u) ∙ kept-all n (i + 1) u

  new_none : (n i : ℕ) → new_bytes (replicate n Keep) i s ≡ 0
  new_none zero i = refl
  new_none (suc n) i = rw (new_none n (i + 1))

  emptied-none : (n i : ℕ) → emptied (replicate n Keep) i s ≡ s
  emptied-none zero i = refl
  emptied-none (suc n) i = emptied-none n (i + 1)

  rewritten-none : (size n i : ℕ) → rewritten size (replicate n Keep) i s ≡ s
  rewritten-none size zero i = refl
  rewritten-none size (suc n) i = rewritten-none size n (i + 1)

-- all do, where no link is flagged
all_keep : (files : List Entry) (dirs : List (List ℕ)) (fs : List Entry) → link_count fs ≡ 0 → file_verdicts_for files dirs fs ≡ replicate (length fs) Keep
all_keep files dirs [] e = refl
all_keep files dirs (f ∷ fs) e = at f.flagged e (λ q. all_keep files dirs fs q)
  where
    at : (b : Bool) → cond b 1 0 + link_count fs ≡ 0 → (link_count fs ≡ 0 → file_verdicts_for files dirs fs ≡ replicate (length fs) Keep)
        → cond b (verdict_read (verdict_of files dirs f)) Keep ∷ file_verdicts_for files dirs fs ≡ Keep ∷ replicate (length fs) Keep
    at true q others = absurd (omega arith)
    at false q others = ap (λ (vs : List LinkVerdict). Keep ∷ vs) (others (omega arith))

module _ (s : Store) (e : link_count (entries_of s) ≡ 0) where
  all-kept : file_verdicts s ≡ replicate (length (entries_of s)) Keep
  all-kept = all_keep (entries_of s) (directories_of s) (entries_of s) e

  pub unlinked-store : (n : ℕ) → cleaned_store n s ≡ s
  unlinked-store n =
      let k = length (entries_of s) in
      ap (λ (vs : List LinkVerdict). rewritten n vs 0 (emptied vs 0 s)) all-kept
      ∙ ap (rewritten n (replicate k Keep) 0) (emptied-none s k 0)
      ∙ rewritten-none s n k 0

  pub unlinked-text : text_needed s ≡ s.fs.text_len
  unlinked-text =
      let k = length (entries_of s) in
      let kept = kept-all s k 0 s.fs.text_len in
      let more = new_none s k 0 in
      ap (λ (vs : List LinkVerdict). kept_after vs 0 s s.fs.text_len + new_bytes vs 0 s) all-kept ∙ omega (arith, kept, more)

-- ---- the refusals

-- no test holds
passes : (a b c : Bool) → a ≡ false → b ≡ false → c ≡ false → ◌≡◌ {A = ℕ} (cond a 1 (cond b 10 (cond c 10 0))) 0
passes a b c p q r = rw (p, q, r)

either-not : (a b : Bool) → a ≡ false → b ≡ false → (a || b) ≡ false
either-not a b p q = rw (p, q)

-- links are files
count-few : (s : Store) (n i : ℕ) → link_count (entries_from s n i) ≤ n
unfolding entries_from
count-few s zero i = omega arith
count-few s (suc n) i = at (entry_at s i).flagged (count-few s n (i + 1))
  where
    at : (b : Bool) → link_count (entries_from s n (i + 1)) ≤ n → cond b 1 0 + link_count (entries_from s n (i + 1)) ≤ suc n
    at true h = omega arith
    at false h = omega arith

module _ (s : Store) (marks scratch path : ℕ) where
  -- the refusals of a judgement, in order
  rules : List Rule
  rules =
      when (bad_length s.fs.piece_length) 1 ∷
      short ((rows_are_held s.fs s.rows && (dirs_held s.fs s.dirs && text_held s.fs s.text)) && few_entries s.fs) ∷
      when (lacks_space (entries_of s) marks scratch path) 10 ∷
      []

  -- those of a cleaning are these and then the room for the texts
  pub number-parts : cleaning_number s marks scratch path ≡ or_else (judging_number s marks scratch path) (cond (ltb (length s.text) (text_needed s)) 10 0)
  unfolding rules
  number-parts = first-append rules (when (ltb (length s.text) (text_needed s)) 10 ∷ []) refl

  pub number-judged : judging_number s marks scratch path ≡ 0 → cleaning_number s marks scratch path ≡ cond (ltb (length s.text) (text_needed s)) 10 0
  number-judged e = number-parts ∙ ap (λ (k : ℕ). or_else k (cond (ltb (length s.text) (text_needed s)) 10 0)) e

  -- what is known where links are judged
  pub record Judges : Type 0 where
    pub marked : link_count (entries_of s) ≤ marks
    pub held : s.fs.text_len ≤ length s.text
    -- 65535 marks do as well
    pub local : judging_number s 65535 scratch path ≡ 0

  pub judges : judging_number s marks scratch path ≡ 0 → Judges
  unfolding rules
  judges e =
      let p = passed rules refl (sym e) in
      let held = rows_are_held s.fs s.rows && (dirs_held s.fs s.dirs && text_held s.fs s.text) in
      let h = both_true held (few_entries s.fs) (not-false (held && few_entries s.fs) p.1.0) in
      let tables = both_true (rows_are_held s.fs s.rows) (dirs_held s.fs s.dirs && text_held s.fs s.text) h.0 in
      let texts = both_true (dirs_held s.fs s.dirs) (text_held s.fs s.text) tables.1 in
      let counts = both_true (leb s.fs.num_files 65535) (leb s.fs.num_paths 65535) h.1 in
      let n = link_count (entries_of s) in
      let least : n ≤ s.fs.num_files = subst (λ (l : List Entry). link_count l ≤ s.fs.num_files) (entries-all s) (count-few s s.fs.num_files 0) in
      let files = leb-true s.fs.num_files 65535 counts.0 in
      let few : n ≤ 65535 = omega (arith, least, files) in
      let work = either-false (ltb marks n) (ltb scratch (space (entries_of s)) || ltb path (2 * space (entries_of s))) p.1.1.0 in
      record {
        marked = ltb-false marks n work.0;
        held = leb-true s.fs.text_len (length s.text) texts.1;
        local = passes _ _ _ p.0 p.1.0 (either-not (ltb 65535 n) (ltb scratch (space (entries_of s)) || ltb path (2 * space (entries_of s))) (le-ltb 65535 n few) work.1);
      }

-- ---- the call by lengths

module _ (s : Store) (marks : ℕ) (scratch : List ℕ) (path : ℕ) where
  -- it does not: the verdicts give the outcome
  pub within-goes : judging_number s marks (length scratch) path ≡ 0 → cleaned_by (file_verdicts s) s scratch ≡ cleaned_within s marks scratch path
  within-goes e = rw (number-judged s marks (length scratch) path e) (at (ltb (length s.text) (text_needed s)))
    where
      done : Cleaned
      done = cleaned_to (value (cleaned_store (length scratch) s).fs) (cleaned_store (length scratch) s) [] (cleared scratch) []

      at : (b : Bool) → cond b (cleaned_to (refused 10) s [] scratch []) done ≡ cond (eqb (cond b 10 0) 0) done (cleaned_to (refused (cond b 10 0)) s [] scratch [])
      at true = refl
      at false = refl

  -- no link is flagged: nothing changes but the scratch space
  pub within_none : judging_number s marks (length scratch) path ≡ 0 → link_count (entries_of s) ≡ 0 → {scratch' : List ℕ} → scratch' ≡ cleared scratch
      → cleaned_to (value s.fs) s [] scratch' [] ≡ cleaned_within s marks scratch path
  within_none e n q =
      let held = (judges s marks (length scratch) path e).held in
      let room : ltb (length s.text) (text_needed s) ≡ false = ap (ltb (length s.text)) (unlinked-text s n) ∙ le-ltb (length s.text) s.fs.text_len held in
      let done = ap (λ (x : Store). cleaned_to (value x.fs) x [] (cleared scratch) []) (unlinked-store s n (length scratch)) in
      ap (λ (x : List ℕ). cleaned_to (value s.fs) s [] x []) q ∙ sym done ∙ cond_no _ _ _ room ∙ within-goes e

-- the same with 65535 marks
pub within-local : (s : Store) (marks : ℕ) (scratch : List ℕ) (path : ℕ) → judging_number s marks (length scratch) path ≡ 0
    → cleaned_within s 65535 scratch path ≡ cleaned_within s marks scratch path
within-local s marks scratch path e =
    sym (within-goes s 65535 scratch path (judges s marks (length scratch) path e).local) ∙ within-goes s marks scratch path e

-- ---- the judgement of links

-- a judgement that says no, and one that says yes
module _ (b : Bool) (k n : ℕ) (m marks marks' : List ℕ) where
  said-yes : (j : ℕ) → judged_of (value j) m ≡ cond b (judged_of (value n) marks) (judged_of (refused k) marks') → (b ≡ true) × (m ≡ marks)
  said-yes j q = at b q
    where
      at : (b : Bool) → judged_of (value j) m ≡ cond b (judged_of (value n) marks) (judged_of (refused k) marks') → (b ≡ true) × (m ≡ marks)
      at true h = (refl, ap (λ (x : Judged). x.marks) h)
      at false h = absurd (let z = ap (λ (x : Judged). x.says) h in let y : ◌≡◌ {A = ℕ} 0 1 = cc in omega arith)

module _ (s : Store) (marks : List ℕ) (k : ℕ) (long : length marks ≡ k) (scratch : List ℕ) (path : ℕ) (m : List ℕ) where
  abbrev number : ℕ
  number = judging_number s (length marks) (length scratch) path

  -- links are judged: what the marks then hold gives the outcome
  pub judging-goes : (n : ℕ) → judged_of (value n) m ≡ judged s marks (length scratch) path
      → cleaned_by (all_verdicts s m) s scratch ≡ cleaned_within s k scratch path
  judging-goes n q =
      let said = said-yes (eqb number 0) number (link_count (entries_of s)) m (sets marks 0 (verdicts s)) marks n q in
      let e = eqb-true number 0 said.0 in
      let all = ap (all_verdicts s) said.1 ∙ marked-verdicts s marks (judges s (length marks) (length scratch) path e).marked in
      ap (λ (vs : List LinkVerdict). cleaned_by vs s scratch) all
      ∙ within-goes s (length marks) scratch path e
      ∙ ap (λ (x : ℕ). cleaned_within s x scratch path) long
