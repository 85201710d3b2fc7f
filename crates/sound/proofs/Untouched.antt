-- Document 02 (iii): 'an addition leaves as it was every byte of the text area that neither held text before nor holds it after'.
-- In tables in order the texts fill the used part, since texts that are apart have together no more bytes than they lie in; so a byte
-- that no text has lies behind that part, and there an addition writes its new texts alone. These laws rely on the laws of spans of
-- `tables`.
use mathlib.Core.Path.{◌≡◌, refl, sym, ap, ◌∙◌}
use mathlib.Core.Logic.{◌⊎◌, inl, inr}
use mathlib.Core.Bool.{Bool, true, false, cond}
use mathlib.Core.List.{List, [], ◌∷◌}
use Prim.Native.Nat.{ℕ, zero, suc, ◌+◌, ◌-◌, ◌≤◌, ◌<◌}
use native.Mathlib.Omega.{arith}
use lib.Dec.{eqb}
use lib.Seq.{length-sets}
use lib.ListN.{length, get_or, take, drop, length-append, length-take, length-drop}
use Rattle.lists.proofs.Orders.{le-or-lt}
use Rattle.lists.proofs.Runs.{get_or-sets-above}
use Rattle.tables.specs.declared.span.Span.{Span}
use Rattle.tables.specs.Span.{end_of, Apart, low, clip, slid}
use Rattle.tables.specs.Model.{Model, Store}
use Rattle.additions.specs.Addition.{Addition}
use Rattle.plan.specs.Write.{joined, end_from, new_texts, old_name, text_kept, text_after, text_added}
use Rattle.tables.proofs.Spans.{apart-kept, within-kept}
use Rattle.sound.specs.Held.{Free}
use Rattle.sound.specs.Sound.{TextId, set_name, dir_name, file_name, link_text, span_of, sum_to, Sound}

-- ---- the texts fill the used part

-- the texts of a set with so many directories and files
data In (np nf : ℕ) : TextId → Type 0 where
  name : In np nf set_name
  dir : (k : ℕ) → k < np → In np nf (dir_name k)
  file : (k : ℕ) → k < nf → In np nf (file_name k)
  link : (k : ℕ) → k < nf → In np nf (link_text k)

-- texts that lie within u bytes, no two with a byte in common
record Fit (P : TextId → Type 0) (f : TextId → Span) (u : ℕ) : Type 0 where
  within : (p : TextId) → P p → end_of (f p) ≤ u
  apart : (p q : TextId) → P p → P q → (p ≡ q → ⊥) → Apart (f p) (f q)

-- the others once one is removed
removed : {P Q : TextId → Type 0} {f : TextId → Span} {u : ℕ} (r : TextId) → Fit P f u → P r → ((p : TextId) → Q p → P p × (p ≡ r → ⊥)) → Fit Q (λ p. low (f r) (f p)) (u - (f r).len)
removed {P} {Q} {f} {u} r w h k =
    record {
      within = λ p x. within-kept (f r) (f p) u (w.within r h) (w.within p (k p x).0) (w.apart r p h (k p x).0 (λ e. (k p x).1 (sym e)));
      apart = λ p q x y n. apart-kept (f r) (f p) (f q) (w.apart r p h (k p x).0 (λ e. (k p x).1 (sym e))) (w.apart r q h (k q y).0 (λ e. (k q y).1 (sym e))) (w.apart p q (k p x).0 (k q y).0 n);
    }

abbrev dir-of : TextId → ℕ
dir-of set_name = 0
dir-of (dir_name k) = suc k
dir-of (file_name k) = 0
dir-of (link_text k) = 0

abbrev file-of : TextId → ℕ
file-of set_name = 0
file-of (dir_name k) = 0
file-of (file_name k) = suc k
file-of (link_text k) = 0

abbrev link-of : TextId → ℕ
link-of set_name = 0
link-of (dir_name k) = 0
link-of (file_name k) = 0
link-of (link_text k) = suc k

zero-not : {n : ℕ} → 0 ≡ suc n → ⊥
zero-not e = absurd (omega arith)

below-not : {k n : ℕ} → k < n → suc k ≡ suc n → ⊥
below-not h e = absurd (omega arith)

-- without the last directory
fewer-dirs : {np nf : ℕ} (p : TextId) → In np nf p → In (suc np) nf p × (p ≡ dir_name np → ⊥)
fewer-dirs p name = (name, λ e. zero-not (ap dir-of e))
fewer-dirs p (dir k h) = (dir k (omega arith), λ e. below-not h (ap dir-of e))
fewer-dirs p (file k h) = (file k h, λ e. zero-not (ap dir-of e))
fewer-dirs p (link k h) = (link k h, λ e. zero-not (ap dir-of e))

-- without the last file's link text, and then without its name
data Half (np nf : ℕ) : TextId → Type 0 where
  all : {p : TextId} → In np nf p → Half np nf p
  last : Half np nf (file_name nf)

half : {np nf : ℕ} (p : TextId) → Half np nf p → In np (suc nf) p × (p ≡ link_text nf → ⊥)
half p (all name) = (name, λ e. zero-not (ap link-of e))
half p (all (dir k h)) = (dir k h, λ e. zero-not (ap link-of e))
half p (all (file k h)) = (file k (omega arith), λ e. zero-not (ap link-of e))
half p (all (link k h)) = (link k (omega arith), λ e. below-not h (ap link-of e))
half {np} {nf} p last = (file nf (omega arith), λ e. zero-not (ap link-of e))

fewer-files : {np nf : ℕ} (p : TextId) → In np nf p → Half np nf p × (p ≡ file_name nf → ⊥)
fewer-files p name = (all name, λ e. zero-not (ap file-of e))
fewer-files p (dir k h) = (all (dir k h), λ e. zero-not (ap file-of e))
fewer-files p (file k h) = (all (file k h), λ e. below-not h (ap file-of e))
fewer-files p (link k h) = (all (link k h), λ e. zero-not (ap file-of e))

-- the lengths of such texts together
abbrev lengths_of : ℕ → ℕ → (TextId → Span) → ℕ
lengths_of np nf f = (f set_name).len + sum_to np (λ k. (f (dir_name k)).len) + sum_to nf (λ k. (f (file_name k)).len + (f (link_text k)).len)

packed : (np nf : ℕ) (f : TextId → Span) (u : ℕ) → Fit (In np nf) f u → lengths_of np nf f ≤ u
unfolding sum_to
packed zero zero f u w = omega (arith, w.within set_name name)
packed (suc np) zero f u w =
    let r = removed (dir_name np) w (dir np (omega arith)) fewer-dirs in
    omega (arith, packed np zero (λ p. low (f (dir_name np)) (f p)) (u - (f (dir_name np)).len) r, w.within (dir_name np) (dir np (omega arith)))
packed np (suc nf) f u w =
    let r = removed (link_text nf) w (link nf (omega arith)) half in
    let q = removed (file_name nf) r last fewer-files in
    omega (arith, packed np nf (λ p. low (low (f (link_text nf)) (f (file_name nf))) (low (f (link_text nf)) (f p))) (u - (f (link_text nf)).len - (f (file_name nf)).len) q, w.within (link_text nf) (link nf (omega arith)), r.within (file_name nf) last)

module _ (s : Store) (ok : Sound s) where
  -- a byte that no text has lies behind the used part
  pub filled : (k : ℕ) → Free s k → s.fs.text_len ≤ k
  filled k none = by (le-or-lt s.fs.text_len k)
    where
      c : Span
      c = record { at = k; len = 1 }

      beside : (p : TextId) → Apart c (span_of s p)
      beside p = at (le-or-lt (span_of s p).at k) (le-or-lt (end_of (span_of s p)) k)
        where
          at : ((span_of s p).at ≤ k) ⊎ (k < (span_of s p).at) → (end_of (span_of s p) ≤ k) ⊎ (k < end_of (span_of s p)) → Apart c (span_of s p)
          at (inl h) (inl g) = omega arith
          at (inl h) (inr g) = absurd (none p (record { low = h; high = g }))
          at (inr h) g = omega arith

      by : (s.fs.text_len ≤ k) ⊎ (k < s.fs.text_len) → s.fs.text_len ≤ k
      by (inl h) = h
      by (inr h) =
          let w : Fit (In (s.fs.num_paths) (s.fs.num_files)) (λ p. low c (span_of s p)) (s.fs.text_len - 1) =
          record {
            within = λ p x. within-kept c (span_of s p) s.fs.text_len (omega arith) (ok.within p) (beside p);
            apart = λ p q x y n. apart-kept c (span_of s p) (span_of s q) (beside p) (beside q) (ok.apart p q n);
          } in
          absurd (omega (arith, packed (s.fs.num_paths) (s.fs.num_files) (λ p. low c (span_of s p)) (s.fs.text_len - 1) w, ok.full))

-- ---- what an addition writes

-- where texts end that stand one after the other
end-is : (p : ℕ) (ts : List (List ℕ)) → end_from p ts ≡ p + length (joined ts)
end-is p [] = omega arith
end-is p (t ∷ ts) = omega (arith, end-is (p + length t) ts, length-append t (joined ts))

-- for tables of any content: what lies behind the used part before the addition and after it
module _ (s : Store) (m : Model) (a : Addition) (k : ℕ) (before : s.fs.text_len ≤ k) (after : text_after s.fs m a ≤ k) where
  old-name : get_or (cond (eqb s.fs.num_files 0) (slid (old_name s.fs) s.fs.text_len s.text) s.text) k 0 ≡ get_or s.text k 0
  old-name = at (eqb s.fs.num_files 0)
    where
      slides : (c : Span) → c.at ≤ s.fs.text_len → get_or (slid c s.fs.text_len s.text) k 0 ≡ get_or s.text k 0
      slides c h =
          get_or-sets-above (drop (end_of c) (take s.fs.text_len s.text)) s.text c.at k 0
          (omega (arith, length-drop (end_of c) (take s.fs.text_len s.text), length-take s.fs.text_len s.text))

      at : (b : Bool) → get_or (cond b (slid (cond b (clip s.fs.text_len s.fs.name) (record { at = 0; len = 0 })) s.fs.text_len s.text) s.text) k 0 ≡ get_or s.text k 0
      at true = slides (clip s.fs.text_len s.fs.name) (omega arith)
      at false = refl

  pub text-behind : get_or (text_added s m a) k 0 ≡ get_or s.text k 0
  text-behind =
      get_or-sets-above (joined (new_texts m a)) (cond (eqb s.fs.num_files 0) (slid (old_name s.fs) s.fs.text_len s.text) s.text) (text_kept s.fs) k 0
      (omega (arith, end-is (text_kept s.fs) (new_texts m a)))
      ∙ old-name

-- the text area keeps its length, whatever the tables hold
pub length-added : (s : Store) (m : Model) (a : Addition) → length (text_added s m a) ≡ length s.text
length-added s m a =
    length-sets (cond (eqb s.fs.num_files 0) (slid (old_name s.fs) s.fs.text_len s.text) s.text) (text_kept s.fs) (joined (new_texts m a))
    ∙ at (eqb s.fs.num_files 0)
  where
    at : (b : Bool) → length (cond b (slid (old_name s.fs) s.fs.text_len s.text) s.text) ≡ length s.text
    at true = length-sets s.text (old_name s.fs).at (drop (end_of (old_name s.fs)) (take s.fs.text_len s.text))
    at false = refl
