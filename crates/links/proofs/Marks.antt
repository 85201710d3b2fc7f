-- The first pass's marks: their leads leave open exactly the links of the set (Clean.antt), and none of them is
-- traversed. These laws rely on the definitions of the two passes alone.
use Prim.Native.Nat.{ℕ, zero, suc, ◌≤◌}
use mathlib.Core.Path.{◌≡◌, refl, sym, ap, ◌∙◌}
use mathlib.Core.Bool.{Bool, true, false, cond, false≢true}
use mathlib.Core.List.{List, [], ◌∷◌, map}
use native.Mathlib.Omega.{arith}
use lib.Dec.{ltb}
use lib.ListN.{get_or, drop}
use Rattle.lists.specs.Lists.{equal}
use Rattle.lists.proofs.Equality.{equal-true}
use Rattle.path.specs.Split.{is_complete}
use Rattle.path.specs.Join.{appended}
use Rattle.tables.specs.Model.{Directory, single, absolute, stored, path_in}
use Rattle.lookup.specs.Lookup.{Entry, own_path, is_directory, file_at}
use Rattle.lookup.specs.declared.set.Seen.{Seen}
use Rattle.lookup.specs.declared.set.Seen.TheVariants.{Nothing, RegularFile, FlaggedLink}
use Rattle.links.specs.Clean.{First, first_pass, direct, settled, relative, Link, Lead, none, to, lead_at, unless, link_of, links_of}
use Rattle.links.specs.Judging.{settled_mark, direct_mark, relative_mark, first_mark}
use Rattle.links.specs.private.Walking.{lead, first_marks, lead_text, leading, but_later, any_at, open_link, open_of, untraversed}

-- a lead m says of a link what the first pass says
pub record Says (f : Entry) (r : First) (m : ℕ) : Type 0 where
  pub leads : leading m ≡ r.leads
  pub text : r.leads ≡ true → lead_text m f ≡ r.text

-- so where the text is taken from the link's directory
settled_says : (f : Entry) (b : Bool) (s : Seen) (t : List ℕ) (o : First) (m : ℕ) → path_in f.directory f.text ≡ t → Says f o (lead m) → Says f (settled b s t o) (lead (settled_mark b s m))
settled_says f true s t o m e h = record { leads = refl; text = λ q. e }
settled_says f false FlaggedLink t o m e h = record { leads = refl; text = λ q. e }
settled_says f false RegularFile t o m e h = record { leads = refl; text = λ q. absurd (false≢true q) }
settled_says f false Nothing t o m e h = h

-- so where the text is taken as given
direct-says : (f : Entry) (s : Seen) (b : Bool) (o : First) (m : ℕ) → Says f o (lead m) → Says f (direct s b f.text o) (lead (direct_mark s b m))
direct-says f FlaggedLink b o m h = record { leads = refl; text = λ q. refl }
direct-says f RegularFile b o m h = record { leads = refl; text = λ q. absurd (false≢true q) }
direct-says f Nothing true o m h = record { leads = refl; text = λ q. refl }
direct-says f Nothing false o m h = h

abbrev pub is_to : Lead → Bool
is_to none = false
is_to (to t) = true

low-leads : (m : ℕ) → m ≤ 2 → ltb 0 m ≡ leading m
low-leads zero h = refl
low-leads (suc zero) h = refl
low-leads (suc (suc zero)) h = refl
low-leads (suc (suc (suc m))) h = absurd (omega arith)

-- one link more: it stands at p just where it is open there
any-one : (f : Entry) (m : ℕ) (p : List ℕ) (ls : List Link) (any : List ℕ → Bool) → m ≤ 2 → any p ≡ is_to (lead_at ls p) → cond (ltb 0 m) (cond (equal (own_path f) p) true (any p)) (any p) ≡ is_to (lead_at (open_link (but_later (any (own_path f)) (leading m)) m f ls) p)
any-one f m p ls any h r = rw (low-leads m h) (go (leading m) (equal (own_path f) p) (any (own_path f)) refl refl)
  where
    at_own : equal (own_path f) p ≡ true → any (own_path f) ≡ true → true ≡ any p
    at_own x y = sym (rw (equal-true (own_path f) p x) at y)

    go : (l c a : Bool) → equal (own_path f) p ≡ c → any (own_path f) ≡ a → cond l (cond c true (any p)) (any p) ≡ is_to (lead_at (open_link (but_later a l) m f ls) p)
    go false c true x y = r
    go false c false x y = r
    go true true true x y = at_own x y ∙ r
    go true false true x y = r
    go true true false x y = rw x
    go true false false x y = rw x r

module _ (files : List Entry) (dirs : List (List ℕ)) where
  -- the first pass's lead says what the first pass says
  pub first_says : (f : Entry) → Says f (first_pass files dirs f) (lead (first_mark files dirs f))
  first_says f = go (is_complete f.text)
    where
      other : First
      other = record { text = f.text; leads = true; walked = true }

      base : Says f other (lead 25)
      base = record { leads = refl; text = λ q. refl }

      near : (p : Directory) → f.directory ≡ p → Says f (relative files dirs p f.text other) (lead (relative_mark files dirs p f.text 25))
      near single e = base
      near absolute e = base
      near (stored d outside) e = settled_says f (is_directory dirs (appended d f.text)) (file_at files (appended d f.text)) (appended d f.text) other 25 (ap (λ (p : Directory). path_in p f.text) e) base

      go : (b : Bool) → Says f (cond b (record { text = own_path f; leads = false; walked = false }) (direct (file_at files f.text) (is_directory dirs f.text) f.text (relative files dirs f.directory f.text other))) (lead (cond b 8 (direct_mark (file_at files f.text) (is_directory dirs f.text) (relative_mark files dirs f.directory f.text 25))))
      go true = record { leads = refl; text = λ q. absurd (false≢true q) }
      go false = direct-says f (file_at files f.text) (is_directory dirs f.text) (relative files dirs f.directory f.text other) (relative_mark files dirs f.directory f.text 25) (near f.directory refl)

  -- it is no use yet
  first-low : (f : Entry) → lead (first_mark files dirs f) ≤ 2
  first-low f = go (is_complete f.text)
    where
      settled-low : (b : Bool) (s : Seen) → lead (settled_mark b s 25) ≤ 2
      settled-low true s = omega arith
      settled-low false Nothing = omega arith
      settled-low false RegularFile = omega arith
      settled-low false link = omega arith

      near : (p : Directory) → lead (relative_mark files dirs p f.text 25) ≤ 2
      near single = omega arith
      near absolute = omega arith
      near (stored d outside) = settled-low (is_directory dirs (appended d f.text)) (file_at files (appended d f.text))

      direct-low : (s : Seen) (b : Bool) (m : ℕ) → lead m ≤ 2 → lead (direct_mark s b m) ≤ 2
      direct-low Nothing true m h = omega arith
      direct-low Nothing false m h = h
      direct-low RegularFile b m h = omega arith
      direct-low FlaggedLink b m h = omega arith

      go : (b : Bool) → lead (cond b 8 (direct_mark (file_at files f.text) (is_directory dirs f.text) (relative_mark files dirs f.directory f.text 25))) ≤ 2
      go true = omega arith
      go false = direct-low (file_at files f.text) (is_directory dirs f.text) (relative_mark files dirs f.directory f.text 25) (near f.directory)

  -- the first pass's leads
  abbrev pub first_leads : List Entry → List ℕ
  first_leads fs = map lead (first_marks files dirs fs)

  -- a link stands at p just where one is open there
  pub any_open : (fs : List Entry) (p : List ℕ) → any_at fs (first_leads fs) p ≡ is_to (lead_at (open_of fs (first_leads fs)) p)
  any_open [] p = refl
  any_open (f ∷ fs) p = go f.flagged (any_open fs p)
    where
      ms : List ℕ
      ms = first_marks files dirs fs

      m : ℕ
      m = first_mark files dirs f

      go : (b : Bool) → any_at fs (map lead ms) p ≡ is_to (lead_at (open_of fs (map lead ms)) p) → cond b (cond (ltb 0 (get_or (map lead (cond b (m ∷ ms) ms)) 0 0)) (cond (equal (own_path f) p) true (any_at fs (drop 1 (map lead (cond b (m ∷ ms) ms))) p)) (any_at fs (drop 1 (map lead (cond b (m ∷ ms) ms))) p)) (any_at fs (map lead (cond b (m ∷ ms) ms)) p) ≡ is_to (lead_at (cond b (open_link (but_later (any_at fs (drop 1 (map lead (cond b (m ∷ ms) ms))) (own_path f)) (leading (get_or (map lead (cond b (m ∷ ms) ms)) 0 0))) (get_or (map lead (cond b (m ∷ ms) ms)) 0 0) f (open_of fs (drop 1 (map lead (cond b (m ∷ ms) ms))))) (open_of fs (map lead (cond b (m ∷ ms) ms)))) p)
      go true r = any-one f (lead m) p (open_of fs (map lead ms)) (any_at fs (map lead ms)) (first-low f) r
      go false r = r

  -- the open links are the set's
  pub marks-say : (fs : List Entry) → open_of fs (first_leads fs) ≡ links_of files dirs fs
  marks-say [] = refl
  marks-say (f ∷ fs) = go f.flagged (first_pass files dirs f) (first_mark files dirs f) (first_says f) (marks-say fs)
    where
      ms : List ℕ
      ms = first_marks files dirs fs

      open-one : (x : Lead) (r : First) (m : ℕ) (l : Bool) → leading m ≡ l → (l ≡ true → lead_text m f ≡ r.text) → open_link (but_later (is_to x) (leading m)) m f (open_of fs (map lead ms)) ≡ cond l (unless x (record { path = own_path f; text = r.text }) (open_of fs (map lead ms))) (open_of fs (map lead ms))
      open-one none r m true e h = rw (e, h refl)
      open-one none r m false e h = rw e
      open-one (to t) r m true e h = refl
      open-one (to t) r m false e h = refl

      go : (b : Bool) (r : First) (m : ℕ) → Says f r (lead m) → open_of fs (map lead ms) ≡ links_of files dirs fs → cond b (open_link (but_later (any_at fs (drop 1 (map lead (cond b (m ∷ ms) ms))) (own_path f)) (leading (get_or (map lead (cond b (m ∷ ms) ms)) 0 0))) (get_or (map lead (cond b (m ∷ ms) ms)) 0 0) f (open_of fs (drop 1 (map lead (cond b (m ∷ ms) ms))))) (open_of fs (map lead (cond b (m ∷ ms) ms))) ≡ link_of b (own_path f) r (links_of files dirs fs)
      go true r m s h = rw (any_open fs (own_path f)) (open-one (lead_at (open_of fs (map lead ms)) (own_path f)) r (lead m) r.leads s.leads s.text ∙ rw h)
      go false r m s h = h

  -- none of them is a use
  fresh-first : (fs : List Entry) → map untraversed (first_leads fs) ≡ first_leads fs
  fresh-first [] = refl
  fresh-first (f ∷ fs) = go f.flagged (fresh-first fs)
    where
      low : (m : ℕ) → m ≤ 2 → untraversed m ≡ m
      low zero h = refl
      low (suc zero) h = refl
      low (suc (suc zero)) h = refl
      low (suc (suc (suc m))) h = absurd (omega arith)

      go : (b : Bool) → map untraversed (first_leads fs) ≡ first_leads fs → map untraversed (map lead (cond b (first_mark files dirs f ∷ first_marks files dirs fs) (first_marks files dirs fs))) ≡ map lead (cond b (first_mark files dirs f ∷ first_marks files dirs fs) (first_marks files dirs fs))
      go true h = rw (low (lead (first_mark files dirs f)) (first-low f), h)
      go false h = h

  -- the leads that a walk left, without their use
  pub leads_back : (ms ms' : List ℕ) → ms ≡ first_leads files → map untraversed ms' ≡ map untraversed ms → map untraversed ms' ≡ ms
  leads_back ms ms' e h = h ∙ rw e (fresh-first files)
