-- Document 02 (xii): a cleaned link holds its own internal path, or it leads to a file or directory of the set by the texts of the
-- set's links, with at most one text for each path. These laws rely on the definitions of Clean.antt alone.
use Prim.Native.Nat.{ℕ, zero, suc, ◌+◌, ◌<◌}
use mathlib.Core.Path.{◌≡◌, refl, sym, ◌∙◌}
use mathlib.Core.Bool.{Bool, true, false, cond, false≢true, true≢false}
use mathlib.Core.List.{List, [], ◌∷◌}
use mathlib.Core.Logic.{◌⊎◌, inl, inr}
use native.Mathlib.Omega.{arith}
use lib.Dec.{ltb}
use lib.ListN.{length, take, drop}
use borrow.Author.Tests.{ltb-true}
use Rattle.lists.specs.Lists.{equal}
use Rattle.lists.proofs.Equality.{equal-true, equal-false}
use Rattle.path.specs.Split.{is_complete}
use Rattle.path.specs.Join.{appended, combined}
use Rattle.tables.specs.Model.{Directory, single, absolute, stored}
use Rattle.lookup.specs.Lookup.{Entry, own_path, is_directory, is_there, file_at, known}
use Rattle.lookup.specs.declared.set.Seen.{Seen}
use Rattle.lookup.specs.declared.set.Seen.TheVariants.{Nothing, RegularFile, FlaggedLink}
use Rattle.links.specs.Clean.{First, first_pass, direct, settled, relative, Link, Lead, none, to, lead_at, without_link, unless, link_of, links_of, part_end, stop, done, on, further, through, step, follow, walk, left, resolves, clean_text}

-- ---- where a cleaned link leads

module _ (files : List Entry) (dirs : List (List ℕ)) where
  -- where the walk cuts a path: the first part, and on from each part that is a directory
  pub data End (p : List ℕ) : ℕ → Type 0 where
    first : End p (part_end p 0)
    next : {e : ℕ} → End p e → is_directory dirs (take e p) ≡ true → End p (part_end p (e + 1))

  -- a path that leads to a file or directory of the set, by the texts of these links, each used once
  pub data ResolvesTo : List Link → List ℕ → Type 0 where
    there : {ls : List Link} {p : List ℕ} → known files dirs p ≡ true → ResolvesTo ls p
    via : {ls : List Link} {p : List ℕ} {e : ℕ} {t : List ℕ} → End p e → e < length p → lead_at ls (take e p) ≡ to t → ResolvesTo (without_link (take e p) ls) (combined t (drop (e + 1) p)) → ResolvesTo ls p

  -- a walk of n turns that comes to its end has led there
  Walked : ℕ → Type 0
  Walked n = (ls : List Link) (p : List ℕ) (e : ℕ) → End p e → walk (is_directory dirs) (known files dirs) n ls p e ≡ true → ResolvesTo ls p

  leads-step : (n : ℕ) → Walked n → Walked (suc n)
  unfolding walk step Walked
  leads-step n r ls p e d h = go (ltb e (length p)) (is_directory dirs (take e p)) refl refl h
    where
      on-dir : (b : Bool) → is_directory dirs (take e p) ≡ true → follow (known files dirs p) (walk (is_directory dirs) (known files dirs) n) (cond b (on ls p (part_end p (e + 1))) stop) ≡ true → ResolvesTo ls p
      on-dir true i h = r ls p (part_end p (e + 1)) (next d i) h
      on-dir false i h = absurd (false≢true h)

      on-link : (x : Lead) → e < length p → lead_at ls (take e p) ≡ x → follow (known files dirs p) (walk (is_directory dirs) (known files dirs) n) (through x ls p e) ≡ true → ResolvesTo ls p
      on-link none l i h = absurd (false≢true h)
      on-link (to t) l i h = via d l i (r (without_link (take e p) ls) (combined t (drop (e + 1) p)) (part_end (combined t (drop (e + 1) p)) 0) first h)

      go : (b c : Bool) → ltb e (length p) ≡ b → is_directory dirs (take e p) ≡ c → follow (known files dirs p) (walk (is_directory dirs) (known files dirs) n) (cond b (cond c (further ls p e (part_end p (e + 1))) (through (lead_at ls (take e p)) ls p e)) done) ≡ true → ResolvesTo ls p
      go true true i j h = on-dir (ltb e (part_end p (e + 1))) j h
      go true false i j h = on-link (lead_at ls (take e p)) (ltb-true e (length p) i) refl h
      go false c i j h = there h

  walk-leads : (n : ℕ) → Walked n
  unfolding walk Walked
  walk-leads zero = λ ls p e d h. absurd (false≢true h)
  walk-leads (suc n) = leads-step n (walk-leads n)

  -- a text whose walk comes to its end leads there
  pub resolves-leads : (ls : List Link) (t : List ℕ) → resolves files dirs ls t ≡ true → ResolvesTo ls t
  unfolding Walked
  resolves-leads ls t h = walk-leads (suc (left ls t (part_end t 0))) ls t (part_end t 0) first h

  -- a text that the first pass left and that is not walked is known, or the link's own path
  settled-known : (t p : List ℕ) (b : Bool) (s : Seen) (o : First) → (o.walked ≡ false → (o.text ≡ p) ⊎ (known files dirs o.text ≡ true)) → cond (is_there s) true b ≡ known files dirs t → (settled b s t o).walked ≡ false → ((settled b s t o).text ≡ p) ⊎ (known files dirs (settled b s t o).text ≡ true)
  settled-known t p true Nothing o k e h = inr (sym e)
  settled-known t p true RegularFile o k e h = inr (sym e)
  settled-known t p true FlaggedLink o k e h = inr (sym e)
  settled-known t p false Nothing o k e h = k h
  settled-known t p false RegularFile o k e h = inr (sym e)
  settled-known t p false FlaggedLink o k e h = inr (sym e)

  direct-known : (t p : List ℕ) (s : Seen) (b : Bool) (o : First) → (o.walked ≡ false → (o.text ≡ p) ⊎ (known files dirs o.text ≡ true)) → cond (is_there s) true b ≡ known files dirs t → (direct s b t o).walked ≡ false → ((direct s b t o).text ≡ p) ⊎ (known files dirs (direct s b t o).text ≡ true)
  direct-known t p Nothing true o k e h = inr (sym e)
  direct-known t p Nothing false o k e h = k h
  direct-known t p RegularFile b o k e h = inr (sym e)
  direct-known t p FlaggedLink b o k e h = inr (sym e)

  first-known : (f : Entry) → (first_pass files dirs f).walked ≡ false → ((first_pass files dirs f).text ≡ own_path f) ⊎ (known files dirs (first_pass files dirs f).text ≡ true)
  first-known f h = go (is_complete f.text) h
    where
      other : First
      other = record { text = f.text; leads = true; walked = true }

      none_left : other.walked ≡ false → (other.text ≡ own_path f) ⊎ (known files dirs other.text ≡ true)
      none_left q = absurd (true≢false q)

      near : (p : Directory) → (relative files dirs p f.text other).walked ≡ false → ((relative files dirs p f.text other).text ≡ own_path f) ⊎ (known files dirs (relative files dirs p f.text other).text ≡ true)
      near single q = none_left q
      near absolute q = none_left q
      near (stored d outside) q = settled-known (appended d f.text) (own_path f) (is_directory dirs (appended d f.text)) (file_at files (appended d f.text)) other none_left refl q

      go : (b : Bool) → (cond b (record { text = own_path f; leads = false; walked = false }) (direct (file_at files f.text) (is_directory dirs f.text) f.text (relative files dirs f.directory f.text other))).walked ≡ false → ((cond b (record { text = own_path f; leads = false; walked = false }) (direct (file_at files f.text) (is_directory dirs f.text) f.text (relative files dirs f.directory f.text other))).text ≡ own_path f) ⊎ (known files dirs (cond b (record { text = own_path f; leads = false; walked = false }) (direct (file_at files f.text) (is_directory dirs f.text) f.text (relative files dirs f.directory f.text other))).text ≡ true)
      go true q = inl refl
      go false q = direct-known f.text (own_path f) (file_at files f.text) (is_directory dirs f.text) (relative files dirs f.directory f.text other) (near f.directory) refl q

  -- a cleaned text: the link's own path, or it leads to a file or directory of the set
  pub clean-leads : (f : Entry) → (clean_text files dirs f ≡ own_path f) ⊎ ResolvesTo (links_of files dirs files) (clean_text files dirs f)
  clean-leads f = go (first_pass files dirs f).walked refl (resolves files dirs (links_of files dirs files) (first_pass files dirs f).text) refl
    where
      plain : ((first_pass files dirs f).text ≡ own_path f) ⊎ (known files dirs (first_pass files dirs f).text ≡ true) → ((first_pass files dirs f).text ≡ own_path f) ⊎ ResolvesTo (links_of files dirs files) (first_pass files dirs f).text
      plain (inl q) = inl q
      plain (inr q) = inr (there q)

      go : (a : Bool) → (first_pass files dirs f).walked ≡ a → (b : Bool) → resolves files dirs (links_of files dirs files) (first_pass files dirs f).text ≡ b → (cond a (cond b (first_pass files dirs f).text (own_path f)) (first_pass files dirs f).text ≡ own_path f) ⊎ ResolvesTo (links_of files dirs files) (cond a (cond b (first_pass files dirs f).text (own_path f)) (first_pass files dirs f).text)
      go true i true j = inr (resolves-leads (links_of files dirs files) (first_pass files dirs f).text j)
      go true i false j = inl refl
      go false i b j = plain (first-known f i)

-- ---- at most one text for each path

-- no two links stand at one path
pub Apart : List Link → Type 0
Apart ls = (p : List ℕ) → lead_at (without_link p ls) p ≡ none

apart_cons : (l : Link) (ls : List Link) → lead_at ls l.path ≡ none → Apart ls → Apart (l ∷ ls)
unfolding Apart
apart_cons l ls h r p = go (equal l.path p) refl
  where
    go : (b : Bool) → equal l.path p ≡ b → lead_at (cond b ls (l ∷ without_link p ls)) p ≡ none
    go true e = rw (equal-true l.path p e) at h
    go false e = rw e (r p)

-- so for the set's links
pub links-apart : (files : List Entry) (dirs : List (List ℕ)) (fs : List Entry) → Apart (links_of files dirs fs)
unfolding Apart
links-apart files dirs [] = λ p. refl
links-apart files dirs (f ∷ fs) = go f.flagged (first_pass files dirs f).leads (lead_at (links_of files dirs fs) (own_path f)) refl (links-apart files dirs fs)
  where
    add : (x : Lead) → lead_at (links_of files dirs fs) (own_path f) ≡ x → Apart (links_of files dirs fs) → Apart (unless x (record { path = own_path f; text = (first_pass files dirs f).text }) (links_of files dirs fs))
    add none e r = apart_cons (record { path = own_path f; text = (first_pass files dirs f).text }) (links_of files dirs fs) e r
    add (to t) e r = r

    go : (a b : Bool) (x : Lead) → lead_at (links_of files dirs fs) (own_path f) ≡ x → Apart (links_of files dirs fs) → Apart (link_of a (own_path f) (record { text = (first_pass files dirs f).text; leads = b; walked = (first_pass files dirs f).walked }) (links_of files dirs fs))
    go true true x e r = add (lead_at (links_of files dirs fs) (own_path f)) refl r
    go true false x e r = r
    go false b x e r = r

-- once no link is at a path, none is there after another is traversed
pub gone : (ls : List Link) (p q : List ℕ) → lead_at ls p ≡ none → lead_at (without_link q ls) p ≡ none
gone [] p q h = refl
gone (l ∷ ls) p q h = go (equal l.path p) (equal l.path q) refl (λ k. gone ls p q k) h
  where
    go : (a b : Bool) → equal l.path p ≡ a → (lead_at ls p ≡ none → lead_at (without_link q ls) p ≡ none) → cond a (to l.text) (lead_at ls p) ≡ none → lead_at (cond b ls (l ∷ without_link q ls)) p ≡ none
    go true b e r k = absurd (let z : ◌≡◌ {A = ℕ} 0 1 = cc in omega arith)
    go false true e r k = k
    go false false e r k = rw e (r k)

-- a link elsewhere stays
other-stays : (ls : List Link) (p q : List ℕ) → (q ≡ p → ⊥) → lead_at (without_link q ls) p ≡ lead_at ls p
other-stays [] p q n = refl
other-stays (l ∷ ls) p q n = go (equal l.path q) (equal l.path p) refl refl (other-stays ls p q n)
  where
    go : (a b : Bool) → equal l.path q ≡ a → equal l.path p ≡ b → lead_at (without_link q ls) p ≡ lead_at ls p → lead_at (cond a ls (l ∷ without_link q ls)) p ≡ cond b (to l.text) (lead_at ls p)
    go true true i j r = absurd (n (sym (equal-true l.path q i) ∙ equal-true l.path p j))
    go true false i j r = refl
    go false true i j r = rw j
    go false false i j r = rw j r

-- the text of a link that is there after another is traversed is the text that was there before
pub text-stays : (ls : List Link) (p q t : List ℕ) → Apart ls → lead_at (without_link q ls) p ≡ to t → lead_at ls p ≡ to t
unfolding Apart
text-stays ls p q t a h = go (equal q p) refl
  where
    go : (b : Bool) → equal q p ≡ b → lead_at ls p ≡ to t
    go true e = absurd (let y : none ≡ to t = sym (a p) ∙ (rw (equal-true q p e) at h) in let z : ◌≡◌ {A = ℕ} 0 1 = cc in omega arith)
    go false e = sym (other-stays ls p q (equal-false q p e)) ∙ h

-- ---- whose text it is

-- a flagged link of these stands at p, and the first pass left it the text t and lets it lead on
pub data From (files : List Entry) (dirs : List (List ℕ)) : List Entry → List ℕ → List ℕ → Type 0 where
  here : {f : Entry} {fs : List Entry} → f.flagged ≡ true → (first_pass files dirs f).leads ≡ true → From files dirs (f ∷ fs) (own_path f) (first_pass files dirs f).text
  later : {f : Entry} {fs : List Entry} {p : List ℕ} {t : List ℕ} → From files dirs fs p t → From files dirs (f ∷ fs) p t

-- so for the set's links
pub links-from : (files : List Entry) (dirs : List (List ℕ)) (fs : List Entry) (p t : List ℕ) → lead_at (links_of files dirs fs) p ≡ to t → From files dirs fs p t
links-from files dirs [] p t h = absurd (let z : ◌≡◌ {A = ℕ} 0 1 = cc in omega arith)
links-from files dirs (f ∷ fs) p t h = go f.flagged (first_pass files dirs f).leads refl refl (λ q. later (links-from files dirs fs p t q)) h
  where
    r : First
    r = first_pass files dirs f

    ls : List Link
    ls = links_of files dirs fs

    at : (b : Bool) → f.flagged ≡ true → r.leads ≡ true → (lead_at ls p ≡ to t → From files dirs (f ∷ fs) p t) → equal (own_path f) p ≡ b → cond b (to r.text) (lead_at ls p) ≡ to t → From files dirs (f ∷ fs) p t
    at true i j rest e q =
        let u : own_path f ≡ p = equal-true (own_path f) p e in
        let v : r.text ≡ t = cc in
        rw (sym u, sym v) (here i j)
    at false i j rest e q = rest q

    add : (x : Lead) → f.flagged ≡ true → r.leads ≡ true → (lead_at ls p ≡ to t → From files dirs (f ∷ fs) p t) → lead_at (unless x (record { path = own_path f; text = r.text }) ls) p ≡ to t → From files dirs (f ∷ fs) p t
    add none i j rest q = at (equal (own_path f) p) i j rest refl q
    add (to u) i j rest q = rest q

    go : (a b : Bool) → f.flagged ≡ a → r.leads ≡ b → (lead_at ls p ≡ to t → From files dirs (f ∷ fs) p t) → lead_at (link_of a (own_path f) (record { text = r.text; leads = b; walked = r.walked }) ls) p ≡ to t → From files dirs (f ∷ fs) p t
    go true true i j rest q = add (lead_at ls (own_path f)) i j rest q
    go true false i j rest q = rest q
    go false b i j rest q = rest q
