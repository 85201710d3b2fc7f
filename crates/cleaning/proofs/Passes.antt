-- Laws of passes over the files: a pass leaves every row's flags, so that each file's verdict can be read as it comes, and what is
-- still to do from each file on gives the whole. They rely on the laws of rows of `tables`.
use Prim.Native.Nat.{ℕ, zero, suc, ◌+◌, ◌-◌, ◌*◌, ◌/◌, ◌%◌, ◌^◌, ◌≤◌, ◌<◌, min}
use mathlib.Core.Path.{◌≡◌, refl, sym, ap, ◌∙◌}
use mathlib.Core.Bool.{Bool, true, false, cond}
use mathlib.Core.Logic.{⊎_elim}
use mathlib.Core.List.{List, [], ◌∷◌}
use native.Mathlib.Omega.{arith}
use lib.ListN.{length, get_or, drop, get_or-eq_default}
use lib.Seq.{sets, length-sets, get_or-drop}
use Rattle.lists.proofs.Orders.{le-or-lt}
use Rattle.lists.proofs.Runs.{get_or-sets}
use Rattle.tables.specs.declared.span.Span.{Span}
use Rattle.tables.specs.declared.rows.Row.{Row}
use Rattle.tables.specs.Rows.{row_at, packed, words, put_row}
use Rattle.tables.specs.Model.{Store}
use Rattle.tables.proofs.Words.{row_other}
use Rattle.tables.proofs.Filled.{word-filled, word-behind}
use Rattle.lookup.specs.Lookup.{is_flagged}
use Rattle.links.specs.declared.mark.LinkVerdict.{LinkVerdict}
use Rattle.links.specs.declared.mark.LinkVerdict.TheVariants.{Keep, OwnPath, FromDirectory}
use Rattle.links.specs.Judging.{verdict_read}
use Rattle.texts.specs.Texts.{row_lowered, rows_lowered, linked, cut_out, gone_at, relinked, own_fits, beside_fits, own_text, text_beside}
use Rattle.cleaning.specs.Cleaning.{emptied_at, emptied, rewritten_at, rewritten}
use Rattle.cleaning.specs.private.Writing.{flags_in, verdict_by, mark_after, verdicts_by, all_verdicts, passed, step_at}

-- ---- flags stay

-- a row's flags stand above its size in one word; flags that were read are read back, whatever the size
abbrev flags_of : ℕ → ℕ
flags_of w = w / 2 ^ 48 % 2 ^ 16

flags-back : (size w : ℕ) → flags_of (packed size (flags_of w)) ≡ flags_of w
flags-back size w = omega arith

module _ (rows : List ℕ) (i : ℕ) (r : Row) (j : ℕ) where
  -- a row is written with its own flags, also where the table ends within it
  flags-put : r.flags ≡ flags_in rows i → flags_in (put_row rows i r) j ≡ flags_in rows j
  flags-put e =
      ⊎_elim (λ h. ⊎_elim (λ g. same (omega arith)) (λ g. other (λ q. omega arith)) (le-or-lt j i)) (λ h. other (λ q. omega arith)) (le-or-lt i j)
    where
      other : (j ≡ i → ⊥) → flags_in (put_row rows i r) j ≡ flags_in rows j
      other n = ap (λ (x : Row). x.flags) (row_other rows i r j n)

      own : flags_in (put_row rows i r) i ≡ flags_in rows i
      own =
          ⊎_elim (λ h. ap flags_of (get_or-eq_default (sets rows (i * 8) (words r)) 0 (omega (arith, length-sets rows (i * 8) (words r))) ∙ sym (get_or-eq_default rows 0 h)))
          (λ h. ap flags_of (get_or-sets (words r) rows (i * 8) 1 0 (omega arith) h) ∙ ap (λ (f : ℕ). flags_of (packed r.size f)) e ∙ flags-back r.size (get_or rows (i * 8 + 1) 0))
          (le-or-lt (length rows) (i * 8 + 1))

      same : j ≡ i → flags_in (put_row rows i r) j ≡ flags_in rows j
      same q = rw q own

-- rows that are lowered keep theirs
flags-lowered : (rows : List ℕ) (n : ℕ) (c : Span) (j : ℕ) → flags_in (rows_lowered rows n c) j ≡ flags_in rows j
flags-lowered rows n c j =
    let g : ℕ → List ℕ = λ i. words (row_lowered c (row_at rows i)) in
    let m = min n (length rows / 8) in
    ⊎_elim (λ h. ap flags_of (word-behind 8 g (λ k. refl) rows m j 1 (omega arith) h))
    (λ h. ap flags_of (word-filled 8 g (λ k. refl) rows m j 1 (omega arith) (omega arith) h) ∙ flags-back (row_at rows j).size (get_or rows (j * 8 + 1) 0))
    (le-or-lt m j)

-- each step leaves every row's flags
abbrev pub Keeps : (LinkVerdict → Store → ℕ → Store) → Type 0
Keeps f = (v : LinkVerdict) (s : Store) (i j : ℕ) → flags_in (f v s i).rows j ≡ flags_in s.rows j

flags-linked : (s : Store) (i : ℕ) (t : List ℕ) (j : ℕ) → flags_in (linked s i t).rows j ≡ flags_in s.rows j
flags-linked s i t j = flags-put s.rows i _ j refl

flags-relinked : (s : Store) (i : ℕ) (t : List ℕ) (j : ℕ) → flags_in (relinked s i t).rows j ≡ flags_in s.rows j
flags-relinked s i t j =
    flags-linked (cut_out s (gone_at s i)) i t j ∙ flags-lowered s.rows s.fs.num_files (gone_at s i) j

flags-if : (b : Bool) (x s : Store) (j : ℕ) → flags_in x.rows j ≡ flags_in s.rows j → flags_in (cond b x s).rows j ≡ flags_in s.rows j
flags-if true x s j p = p
flags-if false x s j p = refl

pub emptied-keeps : Keeps emptied_at
emptied-keeps Keep s i j = refl
emptied-keeps OwnPath s i j = flags-relinked s i [] j
emptied-keeps FromDirectory s i j = refl

pub rewritten-keeps : (n : ℕ) → Keeps (rewritten_at n)
rewritten-keeps n Keep s i j = refl
rewritten-keeps n OwnPath s i j =
    flags-if (own_fits s i (own_text s i)) (linked s i (own_text s i)) s j (flags-linked s i (own_text s i) j)
rewritten-keeps n FromDirectory s i j =
    flags-if (beside_fits n s i (text_beside s i)) (relinked s i (text_beside s i)) s j (flags-relinked s i (text_beside s i) j)

pub step-keeps : (b : Bool) (n : ℕ) → Keeps (step_at b n)
step-keeps true n = emptied-keeps
step-keeps false n = rewritten-keeps n

pub step-still : (b : Bool) (n : ℕ) (s : Store) (i : ℕ) → step_at b n Keep s i ≡ s
step-still true n s i = refl
step-still false n s i = refl

-- ---- a pass

pub emptied-pass : (vs : List LinkVerdict) (i : ℕ) (s : Store) → passed emptied_at vs i s ≡ emptied vs i s
emptied-pass [] i s = refl
emptied-pass (v ∷ vs) i s = emptied-pass vs (i + 1) (emptied_at v s i)

pub rewritten-pass : (n : ℕ) (vs : List LinkVerdict) (i : ℕ) (s : Store) → passed (rewritten_at n) vs i s ≡ rewritten n vs i s
rewritten-pass n [] i s = refl
rewritten-pass n (v ∷ vs) i s = rewritten-pass n vs (i + 1) (rewritten_at n v s i)

-- the texts that go leave every row's flags, and so the verdicts
pub emptied-flags : (vs : List LinkVerdict) (i : ℕ) (s : Store) (j : ℕ) → flags_in (emptied vs i s).rows j ≡ flags_in s.rows j
emptied-flags [] i s j = refl
emptied-flags (v ∷ vs) i s j = emptied-flags vs (i + 1) (emptied_at v s i) j ∙ emptied-keeps v s i j

pub verdicts-same : (g h : ℕ → ℕ) → ((j : ℕ) → g j ≡ h j) → (marks : List ℕ) (n i k : ℕ) → verdicts_by g marks n i k ≡ verdicts_by h marks n i k
unfolding verdicts_by
verdicts-same g h e marks zero i k = refl
verdicts-same g h e marks (suc n) i k = rw (e i) (ap (λ (vs : List LinkVerdict). verdict_by (h i) marks k ∷ vs) (verdicts-same g h e marks n (i + 1) (mark_after (h i) k)))

-- and the number of files
emptied-count : (vs : List LinkVerdict) (i : ℕ) (s : Store) → (emptied vs i s).fs.num_files ≡ s.fs.num_files
emptied-count [] i s = refl
emptied-count (Keep ∷ vs) i s = emptied-count vs (i + 1) s
emptied-count (OwnPath ∷ vs) i s = emptied-count vs (i + 1) (emptied_at OwnPath s i)
emptied-count (FromDirectory ∷ vs) i s = emptied-count vs (i + 1) s

pub both-passes : (size n : ℕ) (marks : List ℕ) (s t : Store) → t ≡ emptied (verdicts_by (flags_in s.rows) marks n 0 0) 0 s
    → rewritten size (verdicts_by (flags_in t.rows) marks n 0 0) 0 t
    ≡ rewritten size (verdicts_by (flags_in s.rows) marks n 0 0) 0 (emptied (verdicts_by (flags_in s.rows) marks n 0 0) 0 s)
both-passes size n marks s t e =
    let vs = verdicts_by (flags_in s.rows) marks n 0 0 in
    let same : (j : ℕ) → flags_in t.rows j ≡ flags_in s.rows j = λ j. ap (λ (x : Store). flags_in x.rows j) e ∙ emptied-flags vs 0 s j in
    ap (λ (ws : List LinkVerdict). rewritten size ws 0 t) (verdicts-same (flags_in t.rows) (flags_in s.rows) same marks n 0 0)
    ∙ ap (rewritten size vs 0) e

-- over all files
all-passes : (size : ℕ) (marks : List ℕ) (s t : Store) → t ≡ emptied (all_verdicts s marks) 0 s
    → rewritten size (all_verdicts t marks) 0 t ≡ rewritten size (all_verdicts s marks) 0 (emptied (all_verdicts s marks) 0 s)
all-passes size marks s t e =
    let count : t.fs.num_files ≡ s.fs.num_files = ap (λ (x : Store). x.fs.num_files) e ∙ emptied-count (all_verdicts s marks) 0 s in
    ap (λ (n : ℕ). rewritten size (verdicts_by (flags_in t.rows) marks n 0 0) 0 t) count ∙ both-passes size s.fs.num_files marks s t e

pub passes-written : (size : ℕ) (marks : List ℕ) (s t : Store) → t ≡ passed (step_at true size) (all_verdicts s marks) 0 s
    → passed (step_at false size) (all_verdicts t marks) 0 t ≡ rewritten size (all_verdicts s marks) 0 (emptied (all_verdicts s marks) 0 s)
passes-written size marks s t e =
    rewritten-pass size (all_verdicts t marks) 0 t ∙ all-passes size marks s t (e ∙ emptied-pass (all_verdicts s marks) 0 s)

-- the verdicts still to come, file by file
module _ (g : ℕ → ℕ) where
  -- a mark that is read is done with
  verdicts-next : (marks : List ℕ) (n i k : ℕ) → verdicts_by g marks n i (k + 1) ≡ verdicts_by g (drop 1 marks) n i k
  unfolding verdicts_by
  verdicts-next marks zero i k = refl
  verdicts-next marks (suc n) i k =
      let z : k + 1 ≡ 1 + k = omega arith in
      let read : get_or marks (k + 1) 0 ≡ get_or (drop 1 marks) k 0 = rw z (sym (get_or-drop 1 marks k 0)) in
      rw read (ap (λ (vs : List LinkVerdict). verdict_by (g i) (drop 1 marks) k ∷ vs) (at (is_flagged (g i)) (λ j. verdicts-next marks n (i + 1) j)))
    where
      at : (b : Bool) → ((j : ℕ) → verdicts_by g marks n (i + 1) (j + 1) ≡ verdicts_by g (drop 1 marks) n (i + 1) j)
          → verdicts_by g marks n (i + 1) (cond b (k + 1 + 1) (k + 1)) ≡ verdicts_by g (drop 1 marks) n (i + 1) (cond b (k + 1) k)
      at true others = others (k + 1)
      at false others = others k

  pub verdicts-turn : (marks : List ℕ) (n i k : ℕ) → i < n → verdicts_by g marks (n - i) i k ≡ verdict_by (g i) marks k ∷ verdicts_by g marks (n - (i + 1)) (i + 1) (mark_after (g i) k)
  unfolding verdicts_by
  verdicts-turn marks n i k h = let e : n - i ≡ suc (n - (i + 1)) = omega arith in rw e

  pub verdicts-end : (marks : List ℕ) (n i k : ℕ) → n ≤ i → verdicts_by g marks (n - i) i k ≡ []
  unfolding verdicts_by
  verdicts-end marks n i k h = let e : n - i ≡ 0 = omega arith in rw e

-- i files are passed: the flags are those at the start, and what is still to do with the marks that are left gives the whole
module _ (f : LinkVerdict → Store → ℕ → Store) (marks : List ℕ) (n : ℕ) (s₀ : Store) where
  pub record Going (s : Store) (i : ℕ) (left : List ℕ) : Type 0 where
    pub within : i ≤ n
    pub flags : (j : ℕ) → flags_in s.rows j ≡ flags_in s₀.rows j
    pub rest : passed f (verdicts_by (flags_in s₀.rows) left (n - i) i 0) i s ≡ passed f (verdicts_by (flags_in s₀.rows) marks n 0 0) 0 s₀

  pub going_end : (s : Store) (i : ℕ) (left : List ℕ) → Going s i left → n ≤ i → s ≡ passed f (verdicts_by (flags_in s₀.rows) marks n 0 0) 0 s₀
  going_end s i left p h = ap (λ (vs : List LinkVerdict). passed f vs i s) (sym (verdicts-end (flags_in s₀.rows) left n i 0 h)) ∙ p.rest

  module _ (keeps : Keeps f) (still : (s : Store) (i : ℕ) → f Keep s i ≡ s) (s : Store) (i : ℕ) (left : List ℕ) (p : Going s i left) (h : i < n) where
    -- the flags of file i decide whether the next mark is its own
    after : (b : Bool) → is_flagged (flags_in s.rows i) ≡ b
        → passed f (verdicts_by (flags_in s₀.rows) left (n - (i + 1)) (i + 1) (cond b 1 0)) (i + 1) (f (cond b (verdict_read (get_or left 0 0)) Keep) s i)
        ≡ passed f (verdicts_by (flags_in s₀.rows) marks n 0 0) 0 s₀
    after b e =
        let g = flags_in s₀.rows in
        let q : is_flagged (g i) ≡ b = ap is_flagged (sym (p.flags i)) ∙ e in
        ap (λ (c : Bool). passed f (verdicts_by g left (n - (i + 1)) (i + 1) (cond c 1 0)) (i + 1) (f (cond c (verdict_read (get_or left 0 0)) Keep) s i)) (sym q)
        ∙ ap (λ (vs : List LinkVerdict). passed f vs i s) (sym (verdicts-turn g left n i 0 h))
        ∙ p.rest

    next : (s' : Store) (left' : List ℕ) → ((j : ℕ) → flags_in s'.rows j ≡ flags_in s.rows j)
        → passed f (verdicts_by (flags_in s₀.rows) left' (n - (i + 1)) (i + 1) 0) (i + 1) s' ≡ passed f (verdicts_by (flags_in s₀.rows) marks n 0 0) 0 s₀
        → Going s' (i + 1) left'
    next s' left' flags rest =
        record {
          within = omega arith;
          flags = λ j. flags j ∙ p.flags j;
          rest = rest;
        }

    -- it is no flagged link
    pub going-on : is_flagged (flags_in s.rows i) ≡ false → Going s (i + 1) left
    going-on e = next s left (λ j. refl) (rw (still s i) at (after false e))

    -- it is one, and no mark is left
    pub going-bare : is_flagged (flags_in s.rows i) ≡ true → length left ≡ 0 → Going s (i + 1) left
    going-bare e z = next s left (λ j. refl) (at left z (after true e))
      where
        at : (left : List ℕ) → length left ≡ 0
            → passed f (verdicts_by (flags_in s₀.rows) left (n - (i + 1)) (i + 1) 1) (i + 1) (f (verdict_read (get_or left 0 0)) s i) ≡ passed f (verdicts_by (flags_in s₀.rows) marks n 0 0) 0 s₀
            → passed f (verdicts_by (flags_in s₀.rows) left (n - (i + 1)) (i + 1) 0) (i + 1) s ≡ passed f (verdicts_by (flags_in s₀.rows) marks n 0 0) 0 s₀
        at [] z a =
            ap (λ (vs : List LinkVerdict). passed f vs (i + 1) s) (sym (verdicts-next (flags_in s₀.rows) [] (n - (i + 1)) (i + 1) 0))
            ∙ ap (passed f (verdicts_by (flags_in s₀.rows) [] (n - (i + 1)) (i + 1) 1) (i + 1)) (sym (still s i))
            ∙ a
        at (m ∷ ms) z a = absurd (omega arith)

    -- it is one, and the next mark is its own
    pub going-link : is_flagged (flags_in s.rows i) ≡ true → (m : ℕ) (left' : List ℕ) → left ≡ m ∷ left' → (s' : Store) → s' ≡ f (verdict_read m) s i → Going s' (i + 1) left'
    going-link e m left' q s' step =
        next s' left' (λ j. ap (λ (x : Store). flags_in x.rows j) step ∙ keeps (verdict_read m) s i j)
        (ap (passed f (verdicts_by (flags_in s₀.rows) left' (n - (i + 1)) (i + 1) 0) (i + 1)) step
        ∙ ap (λ (vs : List LinkVerdict). passed f vs (i + 1) (f (verdict_read m) s i)) (sym (verdicts-next (flags_in s₀.rows) (m ∷ left') (n - (i + 1)) (i + 1) 0))
        ∙ (rw q at (after true e)))
