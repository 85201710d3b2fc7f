-- A cleaning looks neither at roots nor at first files, so tables without them are cleaned alike, and say the same. It
-- relies on the definitions, and on the law of a cleaning's refusals (`cleaning`).
--     cleaned-lent    the tables after a cleaning
--     number-lent     the number of its refusal
--     clean-lent      what the call says and leaves
--     mark-cleaned    whether the set keeps first files stays as it was
use mathlib.Core.Path.{◌≡◌, refl, sym, ap, ap₂, ◌∙◌}
use mathlib.Core.Bool.{Bool, true, false, cond}
use mathlib.Core.List.{List, [], ◌∷◌}
use Prim.Native.Nat.{ℕ, ◌+◌, ◌-◌}
use lib.Dec.{eqb, ltb}
use lib.ListN.{length}
use Rattle.types.specs.Refusals.{value, refused}
use Rattle.tables.specs.Model.{Store, store_of, file_of}
use Rattle.lookup.specs.Lookup.{entry_of, lent}
use Rattle.rules.proofs.Rules.{or_else}
use Rattle.links.specs.declared.mark.LinkVerdict.{LinkVerdict}
use Rattle.links.specs.declared.mark.LinkVerdict.TheVariants.{Keep, OwnPath, FromDirectory}
use Rattle.links.specs.Judging.{text_by, judging_number}
use Rattle.lists.specs.Lists.{cleared}
use Rattle.texts.specs.Texts.{gone_at, linked, relinked, own_fits, beside_fits, own_text, text_beside}
use Rattle.cleaning.specs.Cleaning.{file_verdicts, emptied_at, emptied, rewritten_at, rewritten, cleaned_store, if_changed, kept_after, new_bytes, text_needed, Cleaned, cleaned_to, cleaning_number, clean_stored}
use Rattle.cleaning.proofs.Cleans.{number-parts}

-- other roots and first files
abbrev pub besides : List ℕ → List ℕ → Store → Store
besides roots firsts s = store_of s.fs s.rows roots firsts s.dirs s.text

module _ (roots firsts : List ℕ) where
  -- each step, and so both passes
  either-store : (b : Bool) (x y : Store) → cond b (besides roots firsts x) (besides roots firsts y) ≡ besides roots firsts (cond b x y)
  either-store true x y = refl
  either-store false x y = refl

  empty-besides : (v : LinkVerdict) (i : ℕ) (s : Store) → emptied_at v (besides roots firsts s) i ≡ besides roots firsts (emptied_at v s i)
  empty-besides Keep i s = refl
  empty-besides OwnPath i s = refl
  empty-besides FromDirectory i s = refl

  emptied-besides : (vs : List LinkVerdict) (i : ℕ) (s : Store) → emptied vs i (besides roots firsts s) ≡ besides roots firsts (emptied vs i s)
  emptied-besides [] i s = refl
  emptied-besides (v ∷ vs) i s = ap (emptied vs (i + 1)) (empty-besides v i s) ∙ emptied-besides vs (i + 1) (emptied_at v s i)

  rewrite-besides : (n : ℕ) (v : LinkVerdict) (i : ℕ) (s : Store) → rewritten_at n v (besides roots firsts s) i ≡ besides roots firsts (rewritten_at n v s i)
  rewrite-besides n Keep i s = refl
  rewrite-besides n OwnPath i s = either-store (own_fits s i (own_text s i)) (linked s i (own_text s i)) s
  rewrite-besides n FromDirectory i s = either-store (beside_fits n s i (text_beside s i)) (relinked s i (text_beside s i)) s

  rewritten-besides : (n : ℕ) (vs : List LinkVerdict) (i : ℕ) (s : Store) → rewritten n vs i (besides roots firsts s) ≡ besides roots firsts (rewritten n vs i s)
  rewritten-besides n [] i s = refl
  rewritten-besides n (v ∷ vs) i s =
      ap (rewritten n vs (i + 1)) (rewrite-besides n v i s) ∙ rewritten-besides n vs (i + 1) (rewritten_at n v s i)

  cleaned-besides : (n : ℕ) (s : Store) → cleaned_store n (besides roots firsts s) ≡ besides roots firsts (cleaned_store n s)
  cleaned-besides n s =
      ap (rewritten n (file_verdicts s) 0) (emptied-besides (file_verdicts s) 0 s) ∙ rewritten-besides n (file_verdicts s) 0 (emptied (file_verdicts s) 0 s)

  -- the text needed, and so what the call says
  kept-besides : (vs : List LinkVerdict) (i : ℕ) (s : Store) (u : ℕ) → kept_after vs i (besides roots firsts s) u ≡ kept_after vs i s u
  kept-besides [] i s u = refl
  kept-besides (v ∷ vs) i s u = kept-besides vs (i + 1) s (u - if_changed v (gone_at s i).len)

  new-besides : (vs : List LinkVerdict) (i : ℕ) (s : Store) → new_bytes vs i (besides roots firsts s) ≡ new_bytes vs i s
  new-besides [] i s = refl
  new-besides (v ∷ vs) i s =
      ap (λ (n : ℕ). if_changed v (length (text_by v (entry_of (file_of s i)))) + n) (new-besides vs (i + 1) s)

  needed-besides : (s : Store) → text_needed (besides roots firsts s) ≡ text_needed s
  needed-besides s = ap₂ ◌+◌ (kept-besides (file_verdicts s) 0 s s.fs.text_len) (new-besides (file_verdicts s) 0 s)

  number-besides : (s : Store) (marks stage path : ℕ) → cleaning_number (besides roots firsts s) marks stage path ≡ cleaning_number s marks stage path
  number-besides s marks stage path =
      number-parts (besides roots firsts s) marks stage path
      ∙ ap (λ (k : ℕ). or_else (judging_number s marks stage path) (cond (ltb (length s.text) k) 10 0)) (needed-besides s)
      ∙ sym (number-parts s marks stage path)

  said-besides : (s : Store) (marks stage path : List ℕ) → clean_stored (besides roots firsts s) marks stage path ≡ clean_stored s marks stage path
  said-besides s marks stage path =
      ap₂ by (number-besides s (length marks) (length stage) (length path)) (cleaned-besides (length stage) s)
    where
      -- by the number and the tables afterwards
      by : ℕ → Store → Cleaned
      by k t =
          cond (eqb k 0) (cleaned_to (value t.fs) t (cleared marks) (cleared stage) (cleared path)) (cleaned_to (refused k) s marks stage path)

-- the tables as they are lent
pub cleaned-lent : (n : ℕ) (s : Store) → cleaned_store n s ≡ besides s.roots s.firsts (cleaned_store n (lent s.fs s.rows s.dirs s.text))
cleaned-lent n s = cleaned-besides s.roots s.firsts n (lent s.fs s.rows s.dirs s.text)

pub number-lent : (s : Store) (marks stage path : ℕ) → cleaning_number s marks stage path ≡ cleaning_number (lent s.fs s.rows s.dirs s.text) marks stage path
number-lent s = number-besides s.roots s.firsts (lent s.fs s.rows s.dirs s.text)

pub clean-lent : (s : Store) (marks stage path : List ℕ) → clean_stored (lent s.fs s.rows s.dirs s.text) marks stage path ≡ clean_stored s marks stage path
clean-lent s marks stage path = sym (said-besides s.roots s.firsts (lent s.fs s.rows s.dirs s.text) marks stage path)

-- ---- the mark

abbrev marked : Store → Bool
marked s = s.fs.indexed

either-mark : (b : Bool) (x y : Store) → marked x ≡ marked y → marked (cond b x y) ≡ marked y
either-mark true x y e = e
either-mark false x y e = refl

empty-mark : (v : LinkVerdict) (i : ℕ) (s : Store) → marked (emptied_at v s i) ≡ marked s
empty-mark Keep i s = refl
empty-mark OwnPath i s = refl
empty-mark FromDirectory i s = refl

emptied-mark : (vs : List LinkVerdict) (i : ℕ) (s : Store) → marked (emptied vs i s) ≡ marked s
emptied-mark [] i s = refl
emptied-mark (v ∷ vs) i s = emptied-mark vs (i + 1) (emptied_at v s i) ∙ empty-mark v i s

rewrite-mark : (n : ℕ) (v : LinkVerdict) (i : ℕ) (s : Store) → marked (rewritten_at n v s i) ≡ marked s
rewrite-mark n Keep i s = refl
rewrite-mark n OwnPath i s = either-mark (own_fits s i (own_text s i)) (linked s i (own_text s i)) s refl
rewrite-mark n FromDirectory i s = either-mark (beside_fits n s i (text_beside s i)) (relinked s i (text_beside s i)) s refl

rewritten-mark : (n : ℕ) (vs : List LinkVerdict) (i : ℕ) (s : Store) → marked (rewritten n vs i s) ≡ marked s
rewritten-mark n [] i s = refl
rewritten-mark n (v ∷ vs) i s = rewritten-mark n vs (i + 1) (rewritten_at n v s i) ∙ rewrite-mark n v i s

pub mark-cleaned : (n : ℕ) (s : Store) → (cleaned_store n s).fs.indexed ≡ s.fs.indexed
mark-cleaned n s = rewritten-mark n (file_verdicts s) 0 (emptied (file_verdicts s) 0 s) ∙ emptied-mark (file_verdicts s) 0 s
