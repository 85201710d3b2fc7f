-- The verdicts of a set's files in a cleaning: what becomes of each file, and the bytes that go and come, as sums over the
-- files. It relies on Cleaned/Run.antt and on the law of verdicts in `links`.
--     verdict-at, cleaned-file    the verdict of each file gives what the cleaning makes of it
--     balance, …               sums
--     space-at                 a text of a flagged link fits into the work space
use Rattle.std.specs.Prelude.{Option, Some, None}
use mathlib.Core.Path.{◌≡◌, refl, sym, ap, ◌∙◌}
use mathlib.Core.Bool.{Bool, true, false, cond, false≢true}
use mathlib.Core.List.{List, [], ◌∷◌}
use Prim.Native.Nat.{ℕ, zero, suc, ◌+◌, ◌-◌, ◌≤◌, ◌<◌}
use native.Mathlib.Omega.{arith}
use lib.ListN.{length}
use borrow.Author.Tests.{eq-eqb, ne_eqb}
use Rattle.tables.specs.declared.span.Span.{Span}
use Rattle.tables.specs.Model.{Directory, single, absolute, stored, File, Store, tabled, file_of, path_in}
use Rattle.additions.specs.Addition.{link_length}
use Rattle.lookup.specs.Lookup.{Entry, entry_of, is_held, held_text}
use Rattle.links.specs.Clean.{linked_to, clean_text, clean_file}
use Rattle.lookup.specs.Space.{directory_length, space}
use Rattle.links.specs.declared.mark.LinkVerdict.{LinkVerdict}
use Rattle.links.specs.declared.mark.LinkVerdict.TheVariants.{Keep, OwnPath, FromDirectory}
use Rattle.links.specs.Judging.{verdict_read, verdict_of, text_by}
use Rattle.links.proofs.Walk.{append-short}
use Rattle.links.proofs.Verdicts.{verdict-text}
use Rattle.texts.specs.Texts.{gone_at}
use Rattle.cleaning.specs.Cleaning.{file_verdicts_for, if_changed, kept_after, new_bytes}
use Rattle.sound.specs.Sound.{sum_to, text_at_row, Sound}
use Rattle.sound.proofs.Common.{sum_more}
use Rattle.sound.proofs.Texts.{link-span}
use Rattle.reached.proofs.Cleaned.Files.{held-flagged}
use Rattle.reached.proofs.Cleaned.Step.{gone-is}
use Rattle.reached.proofs.Cleaned.Run.{changes, verdict_in, verdict-here, verdict-behind, text_length, text-len, amount, emptied_file, freed, rewritten_file, text-longer}

-- ---- the verdicts of a set's files

module _ (files : List Entry) (dirs : List (List ℕ)) where
  -- the verdict of a file, one for each, and where it stands in the list
  abbrev pub verdict : Entry → LinkVerdict
  verdict f = cond f.flagged (verdict_read (verdict_of files dirs f)) Keep

  pub length-file-verdicts : (es : List Entry) → length (file_verdicts_for files dirs es) ≡ length es
  length-file-verdicts [] = refl
  length-file-verdicts (e ∷ es) = ap suc (length-file-verdicts es)

  pub verdict-at : (n : ℕ) (g : ℕ → Entry) (i k : ℕ) → k < n → verdict_in (file_verdicts_for files dirs (tabled n g)) i (i + k) ≡ verdict (g k)
  unfolding tabled
  verdict-at zero g i k h = absurd (omega arith)
  verdict-at (suc n) g i zero h =
      let e : i + 0 ≡ i = omega arith in
      rw e (ap (λ (b : Bool). cond b (verdict (g 0)) (verdict_in (file_verdicts_for files dirs (tabled n (λ j. g (suc j)))) (i + 1) i)) (eq-eqb i i refl))
  verdict-at (suc n) g i (suc k) h =
      let e : i + suc k ≡ i + 1 + k = omega arith in
      rw e
      (ap (λ (b : Bool). cond b (verdict (g 0)) (verdict_in (file_verdicts_for files dirs (tabled n (λ j. g (suc j)))) (i + 1) (i + 1 + k))) (ne_eqb (i + 1 + k) i (λ q. omega arith))
      ∙ verdict-at n (λ j. g (suc j)) (i + 1) k (omega arith))

-- a verdict that changes a text is that of a flagged link
pub verdict-flagged : (b : Bool) (v : LinkVerdict) → changes (cond b v Keep) ≡ true → b ≡ true
verdict-flagged true v e = refl
verdict-flagged false v e = e

-- ---- what becomes of a file

-- a link text that is held
still-held : (l : Option (List ℕ)) → is_held l ≡ true → l ≡ Some (held_text l)
still-held None e = absurd (false≢true e)
still-held (Some t) e = refl

pub length-held : (l : Option (List ℕ)) → link_length l ≡ length (held_text l)
length-held None = refl
length-held (Some t) = refl

-- a file that holds a link text has the text that the verdict gives
pub given-file : (v : LinkVerdict) (f : File) → is_held f.link ≡ true → rewritten_file v (emptied_file v f) ≡ linked_to (Some (text_by v (entry_of f))) f
given-file Keep f h = ap (λ (l : Option (List ℕ)). linked_to l f) (still-held f.link h)
given-file OwnPath f h = refl
given-file FromDirectory f h = refl

module _ (files : List Entry) (dirs : List (List ℕ)) (f : File) where
  abbrev v : LinkVerdict
  v = verdict_read (verdict_of files dirs (entry_of f))

  -- the passes do to a file what the cleaning does
  pub cleaned-file : rewritten_file (verdict files dirs (entry_of f)) (emptied_file (verdict files dirs (entry_of f)) f) ≡ clean_file files dirs f
  cleaned-file = at (entry_of f).flagged (held-flagged f)
    where
      at : (b : Bool) → (b ≡ true → is_held f.link ≡ true) → rewritten_file (cond b v Keep) (emptied_file (cond b v Keep) f) ≡ cond b (linked_to (Some (clean_text files dirs (entry_of f))) f) f
      at true h = given-file v f (h refl) ∙ ap (λ (t : List ℕ). linked_to (Some t) f) (verdict-text files dirs (entry_of f))
      at false h = refl

-- ---- sums over files

-- the bytes of old texts that change, and of new texts; and by how much texts are longer, where those that give way to the
-- link's own path are gone already
abbrev pub replaced : LinkVerdict → Entry → ℕ
replaced v f = if_changed v (length f.text)

abbrev pub new : LinkVerdict → Entry → ℕ
new v f = if_changed v (length (text_by v f))

abbrev pub longer : LinkVerdict → Entry → ℕ
longer Keep f = 0
longer OwnPath f = length (text_by OwnPath f)
longer FromDirectory f = length (text_by FromDirectory f) - length f.text

-- two sums are two others where the summands are
pub amount-two : (w x y z : LinkVerdict → Entry → ℕ) → ((v : LinkVerdict) (f : Entry) → w v f + x v f ≡ y v f + z v f) → (vs : List LinkVerdict) (i : ℕ) (s : Store) → amount w vs i s + amount x vs i s ≡ amount y vs i s + amount z vs i s
amount-two w x y z e [] i s = refl
amount-two w x y z e (v ∷ vs) i s = omega (arith, e v (entry_of (file_of s i)), amount-two w x y z e vs (i + 1) s)

-- the sum over all files from place i on, by place
pub amount-sum : (w : LinkVerdict → Entry → ℕ) (g : ℕ → ℕ) (vs : List LinkVerdict) (i : ℕ) (s : Store) → ((k : ℕ) → i ≤ k → k < i + length vs → g k ≡ w (verdict_in vs i k) (entry_of (file_of s k)))
    → amount w vs i s + sum_to i g ≡ sum_to (i + length vs) g
amount-sum w g [] i s e = let z : i + 0 ≡ i = omega arith in rw z (omega arith)
amount-sum w g (v ∷ vs) i s e = more (amount-sum w g vs (i + 1) s (λ k a b. e k (omega arith) (omega arith) ∙ ap (λ (x : LinkVerdict). w x (entry_of (file_of s k))) (verdict-behind v vs i k a)))
  where
    more : amount w vs (i + 1) s + sum_to (i + 1) g ≡ sum_to (i + 1 + length vs) g → amount w (v ∷ vs) i s + sum_to i g ≡ sum_to (i + suc (length vs)) g
    more r =
        let z : i + suc (length vs) ≡ i + 1 + length vs = omega arith in
        let q : g i ≡ w v (entry_of (file_of s i)) = e i (omega arith) (omega arith) ∙ ap (λ (x : LinkVerdict). w x (entry_of (file_of s i))) (verdict-here v vs i) in
        rw z (omega (arith, r, q, sum_more i g))

-- sums by place
pub sum-from : (a n : ℕ) (g : ℕ → ℕ) → a + sum_to 0 g ≡ sum_to n g → a ≡ sum_to n g
unfolding sum_to
sum-from a n g e = omega arith

pub sum-two : (n : ℕ) (a b c d : ℕ → ℕ) → ((k : ℕ) → k < n → a k + b k ≡ c k + d k) → sum_to n a + sum_to n b ≡ sum_to n c + sum_to n d
unfolding sum_to
sum-two zero a b c d e = refl
sum-two (suc n) a b c d e = omega (arith, sum-two n a b c d (λ k h. e k (omega arith)), e n (omega arith))

-- new texts and those gone already are the growth and the texts replaced
pub balance : (v : LinkVerdict) (f : Entry) → new v f + freed v f ≡ longer v f + replaced v f
balance Keep f = refl
balance OwnPath f = refl
balance FromDirectory f = omega (arith, text-longer f)

-- what `text_needed` adds and takes away
pub new-bytes : (vs : List LinkVerdict) (i : ℕ) (s : Store) → new_bytes vs i s ≡ amount new vs i s
new-bytes [] i s = refl
new-bytes (v ∷ vs) i s = ap (λ (n : ℕ). new v (entry_of (file_of s i)) + n) (new-bytes vs (i + 1) s)

at_most : (v : LinkVerdict) (n : ℕ) → if_changed v n ≤ n
at_most Keep n = omega arith
at_most OwnPath n = omega arith
at_most FromDirectory n = omega arith

module _ (s : Store) (ok : Sound s) where
  pub kept-after : (vs : List LinkVerdict) (i u : ℕ) → i + length vs ≤ s.fs.num_files → kept_after vs i s u ≡ u - amount replaced vs i s
  kept-after [] i u h = omega arith
  kept-after (v ∷ vs) i u h =
      kept-after vs (i + 1) (u - if_changed v (gone_at s i).len) (omega arith)
      ∙ omega (arith, ap (if_changed v) (ap (λ (x : Span). x.len) (gone-is s ok i (omega arith)) ∙ sym (text-len s ok i (omega arith))))

  -- the texts that change are among those held
  replaced-held : (vs : List LinkVerdict) (i : ℕ) → i + length vs ≤ s.fs.num_files → amount replaced vs i s + sum_to i (text_at_row s) ≤ sum_to (i + length vs) (text_at_row s)
  replaced-held [] i h = let e : i + 0 ≡ i = omega arith in rw e (omega arith)
  replaced-held (v ∷ vs) i h = more (replaced-held vs (i + 1) (omega arith))
    where
      more : amount replaced vs (i + 1) s + sum_to (i + 1) (text_at_row s) ≤ sum_to (i + 1 + length vs) (text_at_row s) → amount replaced (v ∷ vs) i s + sum_to i (text_at_row s) ≤ sum_to (i + suc (length vs)) (text_at_row s)
      more r =
          let e : i + suc (length vs) ≡ i + 1 + length vs = omega arith in
          rw e
          (omega (arith, r, at_most v (text_length s i), text-len s ok i (omega arith), ap (λ (x : Span). x.len) (link-span s i (omega arith)), sum_more i (text_at_row s)))

  pub replaced-used : (vs : List LinkVerdict) → length vs ≡ s.fs.num_files → amount replaced vs 0 s ≤ s.fs.text_len
  replaced-used vs e =
      let z : 0 + length vs ≡ s.fs.num_files = omega arith in
      omega (arith, rw z at (replaced-held vs 0 (omega arith)), ok.full)

-- ---- the work space

pub beside-short : (d : Directory) (t : List ℕ) → length (path_in d t) ≤ directory_length d + length t + 2
beside-short single t = omega arith
beside-short absolute t = omega arith
beside-short (stored d outside) t = omega (arith, append-short d t)

-- what one flagged link adds to the work space
pub space-at : (n : ℕ) (g : ℕ → Entry) (k : ℕ) → k < n → (g k).flagged ≡ true → directory_length (g k).directory + length (g k).text + 2 ≤ space (tabled n g)
unfolding tabled
space-at zero g k h e = absurd (omega arith)
space-at (suc n) g zero h e =
    omega (arith, ap (λ (b : Bool). cond b (directory_length (g 0).directory + length (g 0).text + 2) 0) e)
space-at (suc n) g (suc k) h e = omega (arith, space-at n (λ j. g (suc j)) k (omega arith) e)
