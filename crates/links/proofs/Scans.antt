-- The scan of the links for the one at a path, with the leads that say which are open. These laws rely on those
-- of `lookup` about rows.
use Prim.Native.Nat.{ℕ, zero, suc, ◌+◌, ◌<◌, ◌≤◌}
use mathlib.Core.Path.{◌≡◌, refl, sym, ap, ◌∙◌}
use mathlib.Core.Bool.{Bool, true, false, cond, true≢false, false≢true, ◌||◌}
use mathlib.Core.List.{List, [], ◌∷◌}
use native.Mathlib.Omega.{arith}
use lib.Dec.{ltb}
use lib.ListN.{length, get_or, set, take, drop, get_or-eq_default}
use lib.Seq.{drop-drop, take-set-le, drop-set-lt, get_or-set_same, get_or-drop, get_or-take, take-take}
use borrow.Author.Tests.{lt-ltb, ltb-true, ltb-false}
use Rattle.std.specs.List.{list_any}
use Rattle.lists.specs.Lists.{equal}
use Rattle.lists.proofs.Equality.{equal-true}
use Rattle.tables.specs.Rows.{row_at}
use Rattle.tables.specs.Model.{Store, internal_path}
use Rattle.lookup.specs.Lookup.{Entry, own_path, is_flagged}
use Rattle.lookup.specs.Space.{directory_length, space}
use Rattle.lookup.specs.private.Rows.{entry_at, entries_from}
use Rattle.lookup.proofs.Rows.{flagged-at}
use Rattle.links.specs.Flagged.{links_from}
use Rattle.links.specs.Clean.{Link, none, to, lead_at, without_link}
use Rattle.links.specs.private.Walking.{any_at, but_later, leading, lead_mark, lead_text, open_link, open_of, untraversed}

-- ---- one link

-- a choice that is made
pub cond_yes : {A : Type 0} (x y : A) (b : Bool) → b ≡ true → cond b x y ≡ x
cond_yes x y true h = refl
cond_yes x y false h = absurd (false≢true h)

pub cond_no : {A : Type 0} (x y : A) (b : Bool) → b ≡ false → cond b x y ≡ y
cond_no x y true h = absurd (true≢false h)
cond_no x y false h = refl

-- what a lead other than 0 tells of the link
pub record Here (f : Entry) (m : ℕ) (p : List ℕ) (later : Bool) (r : ℕ) : Type 0 where
  pub flag : f.flagged ≡ true
  pub leads : leading m ≡ true
  pub at : equal (own_path f) p ≡ true
  pub last : later ≡ false
  pub is : r ≡ m

pub here : (f : Entry) (m : ℕ) (p : List ℕ) (later : Bool) (r : ℕ) → r ≡ lead_mark f m p later → (r ≡ 0 → ⊥) → Here f m p later r
here f m p later r e z = go f.flagged (leading m) (equal (own_path f) p) later refl refl refl refl e
  where
    go : (a b c d : Bool) → f.flagged ≡ a → leading m ≡ b → equal (own_path f) p ≡ c → later ≡ d → r ≡ cond a (cond b (cond c (cond d 0 m) 0) 0) 0 → Here f m p later r
    go true true true false x y w v q = record { flag = x; leads = y; at = w; last = v; is = q }
    go true true true true x y w v q = absurd (z q)
    go true true false d x y w v q = absurd (z q)
    go true false c d x y w v q = absurd (z q)
    go false b c d x y w v q = absurd (z q)

-- ---- the scan of the links

-- what is left of the scan finds the same link, and to close that link is to take it off the list
pub record Scan (all rest : List Entry) (ms p : List ℕ) (k : ℕ) : Type 0 where
  pub same-lead : lead_at (open_of rest (drop k ms)) p ≡ lead_at (open_of all ms) p
  pub closing : (ms' : List ℕ) → take k ms' ≡ take k ms → ((q : List ℕ) → any_at rest (drop k ms') q ≡ any_at rest (drop k ms) q) → without_link p (open_of rest (drop k ms)) ≡ open_of rest (drop k ms') → without_link p (open_of all ms) ≡ open_of all ms'

-- before the first link
pub scan-start : (all : List Entry) (ms p : List ℕ) → Scan all all ms p 0
scan-start all ms p = record { same-lead = refl; closing = λ ms' t a q. q }

-- such a lead is not 0
mark-zero : (m : ℕ) → leading m ≡ true → m ≡ 0 → ⊥
mark-zero zero h z = false≢true h
mark-zero (suc m) h z = omega arith

-- a link that isn't taken: it doesn't lead, a later one is at its path, or it is elsewhere
skipped : (f : Entry) (m : ℕ) (p : List ℕ) (later : List ℕ → Bool) → 0 ≡ cond (leading m) (cond (equal (own_path f) p) (cond (later p) 0 m) 0) 0 → but_later (later (own_path f)) (leading m) ≡ true → equal (own_path f) p ≡ false
skipped f m p later e h = go (leading m) (equal (own_path f) p) (later (own_path f)) refl refl refl e h
  where
    go : (b c d : Bool) → leading m ≡ b → equal (own_path f) p ≡ c → later (own_path f) ≡ d → 0 ≡ cond b (cond c (cond (later p) 0 m) 0) 0 → but_later d b ≡ true → equal (own_path f) p ≡ false
    go true true false x y v q h =
        let w : later p ≡ false = rw (equal-true (own_path f) p y) at v in
        absurd (mark-zero m x (sym (rw w at q)))
    go true true true x y v q h = absurd (false≢true h)
    go true false d x y v q h = y
    go false c true x y v q h = absurd (false≢true h)
    go false c false x y v q h = absurd (false≢true h)

-- past such a link: the same link is found, and the same one taken off
skip-lead : (f : Entry) (m : ℕ) (p : List ℕ) (ls : List Link) (b : Bool) → (b ≡ true → equal (own_path f) p ≡ false) → lead_at (open_link b m f ls) p ≡ lead_at ls p
skip-lead f m p ls false h = refl
skip-lead f m p ls true h = rw (h refl)

skip-without : (f : Entry) (m : ℕ) (p : List ℕ) (ls ls' : List Link) (b : Bool) → (b ≡ true → equal (own_path f) p ≡ false) → without_link p ls ≡ ls' → without_link p (open_link b m f ls) ≡ open_link b m f ls'
skip-without f m p ls ls' false h q = q
skip-without f m p ls ls' true h q = rw (h refl, q)

-- the marks from a place on
drop-one : (ms : List ℕ) (k : ℕ) → drop 1 (drop k ms) ≡ drop (k + 1) ms
drop-one ms k = drop-drop 1 k ms

get_or-here : (ms : List ℕ) (k : ℕ) → get_or (drop k ms) 0 0 ≡ get_or ms k 0
get_or-here ms k = get_or-drop k ms 0 0 ∙ (let q : k + 0 ≡ k = omega arith in rw q)

-- the open links from file f on: f is a flagged link, or it is not
open-yes : (f : Entry) (rest : List Entry) (ms : List ℕ) (k : ℕ) → f.flagged ≡ true → open_of (f ∷ rest) (drop k ms) ≡ open_link (but_later (any_at rest (drop (k + 1) ms) (own_path f)) (leading (get_or ms k 0))) (get_or ms k 0) f (open_of rest (drop (k + 1) ms))
open-yes f rest ms k b = cond_yes (open_link (but_later (any_at rest (drop 1 (drop k ms)) (own_path f)) (leading (get_or (drop k ms) 0 0))) (get_or (drop k ms) 0 0) f (open_of rest (drop 1 (drop k ms)))) (open_of rest (drop k ms)) f.flagged b ∙ rw (get_or-here ms k, drop-one ms k)

open_no : (f : Entry) (rest : List Entry) (ms : List ℕ) → f.flagged ≡ false → open_of (f ∷ rest) ms ≡ open_of rest ms
open_no f rest ms b = cond_no (open_link (but_later (any_at rest (drop 1 ms) (own_path f)) (leading (get_or ms 0 0))) (get_or ms 0 0) f (open_of rest (drop 1 ms))) (open_of rest ms) f.flagged b

-- whether a link stands at a path, from file f on: f is a flagged link, or it is not
any-yes : (f : Entry) (rest : List Entry) (ms q : List ℕ) (k : ℕ) → f.flagged ≡ true → any_at (f ∷ rest) (drop k ms) q ≡ cond (ltb 0 (get_or ms k 0)) (cond (equal (own_path f) q) true (any_at rest (drop (k + 1) ms) q)) (any_at rest (drop (k + 1) ms) q)
any-yes f rest ms q k b = cond_yes (cond (ltb 0 (get_or (drop k ms) 0 0)) (cond (equal (own_path f) q) true (any_at rest (drop 1 (drop k ms)) q)) (any_at rest (drop 1 (drop k ms)) q)) (any_at rest (drop k ms) q) f.flagged b ∙ rw (get_or-here ms k, drop-one ms k)

any-no : (f : Entry) (rest : List Entry) (ms q : List ℕ) → f.flagged ≡ false → any_at (f ∷ rest) ms q ≡ any_at rest ms q
any-no f rest ms q b = cond_no (cond (ltb 0 (get_or ms 0 0)) (cond (equal (own_path f) q) true (any_at rest (drop 1 ms) q)) (any_at rest (drop 1 ms) q)) (any_at rest ms q) f.flagged b

-- ---- the search for a later link

either : (a b r : Bool) → (cond a b false || r) ≡ cond a (cond b true r) r
either true true r = refl
either true false r = refl
either false b r = refl

-- the flagged links from file i and mark k on: whether one leads on, traversed or not, at p
module _ (s : Store) (ms p : List ℕ) where
  abbrev pub leads_at : ℕ × ℕ → Bool
  leads_at x = cond (ltb 0 (get_or ms x.0 0)) (equal (internal_path s.dirs s.text (row_at s.rows x.1)) p) false

  pub any-links : (n i k : ℕ) → list_any leads_at (links_from s.rows n i k) ≡ any_at (entries_from s n i) (drop k ms) p
  unfolding entries_from
  any-links zero i k = refl
  any-links (suc n) i k = go (is_flagged (row_at s.rows i).flags) refl (any-links n (i + 1))
    where
      go : (b : Bool) → is_flagged (row_at s.rows i).flags ≡ b
          → ((j : ℕ) → list_any leads_at (links_from s.rows n (i + 1) j) ≡ any_at (entries_from s n (i + 1)) (drop j ms) p) → list_any leads_at (links_from s.rows (suc n) i k) ≡ any_at (entry_at s i ∷ entries_from s n (i + 1)) (drop k ms) p
      go true e r =
          ap (list_any leads_at) (cond_yes ((k, i) ∷ links_from s.rows n (i + 1) (k + 1)) (links_from s.rows n (i + 1) k) (is_flagged (row_at s.rows i).flags) e)
          ∙ ap (λ (b : Bool). leads_at (k, i) || b) (r (k + 1))
          ∙ either (ltb 0 (get_or ms k 0)) (equal (own_path (entry_at s i)) p) (any_at (entries_from s n (i + 1)) (drop (k + 1) ms) p)
          ∙ sym (any-yes (entry_at s i) (entries_from s n (i + 1)) ms p k (sym (flagged-at s i) ∙ e))
      go false e r =
          ap (list_any leads_at) (cond_no ((k, i) ∷ links_from s.rows n (i + 1) (k + 1)) (links_from s.rows n (i + 1) k) (is_flagged (row_at s.rows i).flags) e)
          ∙ r k
          ∙ sym (any-no (entry_at s i) (entries_from s n (i + 1)) (drop k ms) p (sym (flagged-at s i) ∙ e))

-- the first k + 1 of two lists are the same
take_more : (k : ℕ) (a b : List ℕ) → take (k + 1) a ≡ take (k + 1) b → (take k a ≡ take k b) × (get_or a k 0 ≡ get_or b k 0)
take_more k a b h = (
  sym (take-take k (k + 1) a (omega arith)) ∙ ap (take k) h ∙ take-take k (k + 1) b (omega arith),
  sym (get_or-take (k + 1) a k 0 (omega arith)) ∙ ap (λ (l : List ℕ). get_or l k 0) h ∙ get_or-take (k + 1) b k 0 (omega arith),
)

-- ---- the scan by its turns

-- past a file that is no flagged link
pub scan-past : (all : List Entry) (ms p : List ℕ) (k : ℕ) (f : Entry) (rest : List Entry) → f.flagged ≡ false → Scan all (f ∷ rest) ms p k → Scan all rest ms p k
scan-past all ms p k f rest b s =
    record {
      same-lead = sym (ap (λ (l : List Link). lead_at l p) (open_no f rest (drop k ms) b)) ∙ s.same-lead;
      closing = λ ms' t a w. s.closing ms' t (λ q. any-no f rest (drop k ms') q b ∙ a q ∙ sym (any-no f rest (drop k ms) q b)) (ap (without_link p) (open_no f rest (drop k ms) b) ∙ w ∙ sym (open_no f rest (drop k ms') b));
    }

-- past a flagged link that isn't taken
pub scan-turn : (all : List Entry) (ms p : List ℕ) (k : ℕ) (f : Entry) (rest : List Entry) → 0 ≡ lead_mark f (get_or ms k 0) p (any_at rest (drop (k + 1) ms) p) → f.flagged ≡ true → Scan all (f ∷ rest) ms p k → Scan all rest ms p (k + 1)
scan-turn all ms p k f rest e b s =
    let z : 0 ≡ cond (leading (get_or ms k 0)) (cond (equal (own_path f) p) (cond (any_at rest (drop (k + 1) ms) p) 0 (get_or ms k 0)) 0) 0 = e ∙ cond_yes (cond (leading (get_or ms k 0)) (cond (equal (own_path f) p) (cond (any_at rest (drop (k + 1) ms) p) 0 (get_or ms k 0)) 0) 0) 0 f.flagged b in
    let y = skipped f (get_or ms k 0) p (any_at rest (drop (k + 1) ms)) z in
    let x : lead_at (open_of (f ∷ rest) (drop k ms)) p ≡ lead_at (open_of rest (drop (k + 1) ms)) p =
    ap (λ (l : List Link). lead_at l p) (open-yes f rest ms k b) ∙ skip-lead f (get_or ms k 0) p (open_of rest (drop (k + 1) ms)) (but_later (any_at rest (drop (k + 1) ms) (own_path f)) (leading (get_or ms k 0))) y in
    record {
      same-lead = sym x ∙ s.same-lead;
      closing = λ ms' t a w.
          s.closing ms' (take_more k ms' ms t).0
          (λ q. any-yes f rest ms' q k b ∙ rw ((take_more k ms' ms t).1, a q) (sym (any-yes f rest ms q k b)))
          (ap (without_link p) (open-yes f rest ms k b)
          ∙ skip-without f (get_or ms k 0) p (open_of rest (drop (k + 1) ms)) (open_of rest (drop (k + 1) ms')) (but_later (any_at rest (drop (k + 1) ms) (own_path f)) (leading (get_or ms k 0))) y w
          ∙ sym (open-yes f rest ms' k b ∙ rw ((take_more k ms' ms t).1, a (own_path f))));
    }

-- at a link that stands at p
pub scan-hit : (all : List Entry) (f : Entry) (rest : List Entry) (ms p : List ℕ) (k v : ℕ) → Here f (get_or ms k 0) p (any_at rest (drop (k + 1) ms) p) (get_or ms k 0) → k < length ms → leading v ≡ false → ltb 0 v ≡ true → Scan all (f ∷ rest) ms p k → (lead_at (open_of all ms) p ≡ to (lead_text (get_or ms k 0) f)) × (without_link p (open_of all ms) ≡ open_of all (set ms k v))
scan-hit all f rest ms p k v h b z g s =
    let at : own_path f ≡ p = equal-true (own_path f) p h.at in
    let l : any_at rest (drop (k + 1) ms) (own_path f) ≡ false = rw at h.last in
    let y : ltb 0 (get_or ms k 0) ≡ true = lt-ltb 0 (get_or ms k 0) (pos (get_or ms k 0) h.leads) in
    let o : open_of (f ∷ rest) (drop k ms) ≡ open_link true (get_or ms k 0) f (open_of rest (drop (k + 1) ms)) = open-yes f rest ms k h.flag ∙ rw (l, h.leads) in
    let d : drop (k + 1) (set ms k v) ≡ drop (k + 1) ms = drop-set-lt (k + 1) ms k v (omega arith) in (
      sym s.same-lead ∙ ap (λ (x : List Link). lead_at x p) o ∙ rw h.at,
      s.closing (set ms k v) (take-set-le k ms k v (omega arith))
          (λ q. any-yes f rest (set ms k v) q k h.flag ∙ rw (get_or-set_same ms k v 0 b, g, d) (sym (any-yes f rest ms q k h.flag ∙ rw y)))
          (ap (without_link p) o ∙ rw h.at (sym (open-yes f rest (set ms k v) k h.flag ∙ rw (get_or-set_same ms k v 0 b, z, d, l)))),
    )
  where
    pos : (m : ℕ) → leading m ≡ true → 0 < m
    pos zero h = absurd (false≢true h)
    pos (suc m) h = omega arith

-- past the last link
pub scan-none : (all : List Entry) (ms p : List ℕ) (k : ℕ) → Scan all [] ms p k → lead_at (open_of all ms) p ≡ none
scan-none all ms p k s = sym s.same-lead

-- ---- the work space serves each flagged link

pub space-at : (s : Store) (n i j : ℕ) → i ≤ j → j < i + n → (entry_at s j).flagged ≡ true → directory_length (entry_at s j).directory + length (entry_at s j).text + 2 ≤ space (entries_from s n i)
unfolding entries_from
space-at s zero i j h k f = absurd (omega arith)
space-at s (suc n) i j h k f = go (ltb i j) refl (λ q. space-at s n (i + 1) j q (omega arith) f)
  where
    need : ℕ → ℕ
    need x = directory_length (entry_at s x).directory + length (entry_at s x).text + 2

    go : (b : Bool) → ltb i j ≡ b → (i + 1 ≤ j → need j ≤ space (entries_from s n (i + 1))) → need j ≤ cond (entry_at s i).flagged (need i) 0 + space (entries_from s n (i + 1))
    go true b r = omega (arith, r (omega (arith, ltb-true i j b)))
    go false b r =
        let e : i ≡ j = omega (arith, ltb-false i j b) in
        let w : cond (entry_at s i).flagged (need i) 0 ≡ need i = cond_yes (need i) 0 (entry_at s i).flagged (ap (λ (x : ℕ). (entry_at s x).flagged) e ∙ f) in
        omega (arith, w, ap need e)

-- ---- a lead once its link is traversed

pub used-off : (m : ℕ) → leading m ≡ true → leading (m + 2) ≡ false
used-off zero h = absurd (false≢true h)
used-off (suc zero) h = refl
used-off (suc (suc zero)) h = refl
used-off (suc (suc (suc m))) h = absurd (false≢true h)

pub used-fresh : (m : ℕ) → leading m ≡ true → untraversed (m + 2) ≡ untraversed m
used-fresh zero h = absurd (false≢true h)
used-fresh (suc zero) h = refl
used-fresh (suc (suc zero)) h = refl
used-fresh (suc (suc (suc m))) h = absurd (false≢true h)

pub used-some : (m : ℕ) → ltb 0 (m + 2) ≡ true
used-some m = lt-ltb 0 (m + 2) (omega arith)

-- a lead other than 0 has its mark
pub in-marks : (ms : List ℕ) (k : ℕ) → (get_or ms k 0 ≡ 0 → ⊥) → k < length ms
in-marks ms k h = go (ltb k (length ms)) refl
  where
    go : (b : Bool) → ltb k (length ms) ≡ b → k < length ms
    go true b = ltb-true k (length ms) b
    go false b = absurd (h (get_or-eq_default ms 0 {n = k} (ltb-false k (length ms) b)))
