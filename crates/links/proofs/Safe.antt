-- Document 02 (xii): after a cleaning no flagged link's text is absolute, unless the link was added by an absolute path; and where a
-- text becomes the link's own path. These laws rely on those of proofs/Room.antt.
use Prim.Native.Nat.{ℕ}
use mathlib.Core.Path.{◌≡◌, refl, ap, sym, ◌∙◌}
use mathlib.Core.Bool.{Bool, true, false, cond, true≢false}
use mathlib.Core.List.{List, [], ◌∷◌, ◌++◌}
use Rattle.path.specs.Split.{is_complete}
use Rattle.path.specs.Join.{is_alone, is_empty, is_closed, appended}
use Rattle.tables.specs.Model.{Directory, single, absolute, stored, path_in}
use Rattle.lookup.specs.Lookup.{Entry, own_path, file_at, is_directory}
use Rattle.lookup.specs.declared.set.Seen.{Seen}
use Rattle.lookup.specs.declared.set.Seen.TheVariants.{Nothing, RegularFile, FlaggedLink}
use Rattle.links.specs.Clean.{First, settled, direct, relative, first_pass, links_of, resolves, clean_text}
use Rattle.links.proofs.Room.{first_fits}

-- ---- absolute texts

-- a join of parts that are not absolute
append-relative : (d t : List ℕ) → is_complete d ≡ false → is_complete t ≡ false → is_complete (appended d t) ≡ false
append-relative [] t h k = k
append-relative (x ∷ d) t h k = go (is_alone (x ∷ d)) (is_empty t)
  where
    go : (a b : Bool) → is_complete (cond a t (cond b (x ∷ d) ((x ∷ d) ++ cond (is_closed (x ∷ d)) t (47 ∷ t)))) ≡ false
    go true b = k
    go false true = h
    go false false = h

-- what an addition stores: only an absolute path gives a directory or a name that begins with a separator
abbrev pub Placed : Directory → List ℕ → Type 0
Placed single n = is_complete n ≡ false
Placed absolute n = is_complete n ≡ true
Placed (stored d outside) n = (is_complete d ≡ false) × (is_complete n ≡ false)

-- the own path of a link that was not added by an absolute path
own-relative : (f : Entry) → Placed f.directory f.name → (f.directory ≡ absolute → ⊥) → is_complete (own_path f) ≡ false
own-relative f h r = go f.directory h r
  where
    go : (p : Directory) → Placed p f.name → (p ≡ absolute → ⊥) → is_complete (path_in p f.name) ≡ false
    go single h r = h
    go absolute h r = absurd (r refl)
    go (stored d outside) h r = append-relative d f.name h.0 h.1

-- the text that the first pass leaves it
settled-relative : (b : Bool) (s : Seen) (t : List ℕ) (o : First) → is_complete t ≡ false → is_complete o.text ≡ false → is_complete (settled b s t o).text ≡ false
settled-relative true s t o h k = h
settled-relative false Nothing t o h k = k
settled-relative false RegularFile t o h k = h
settled-relative false FlaggedLink t o h k = h

direct-relative : (s : Seen) (b : Bool) (t : List ℕ) (o : First) → is_complete t ≡ false → is_complete o.text ≡ false → is_complete (direct s b t o).text ≡ false
direct-relative Nothing true t o h k = h
direct-relative Nothing false t o h k = k
direct-relative RegularFile b t o h k = h
direct-relative FlaggedLink b t o h k = h

module _ (files : List Entry) (dirs : List (List ℕ)) (f : Entry) (h : Placed f.directory f.name) (r : f.directory ≡ absolute → ⊥) where
  first-relative : is_complete (first_pass files dirs f).text ≡ false
  first-relative = go (is_complete f.text) refl
    where
      other : First
      other = record { text = f.text; leads = true; walked = true }

      near : (p : Directory) → Placed p f.name → is_complete f.text ≡ false → is_complete (relative files dirs p f.text other).text ≡ false
      near single h k = k
      near absolute h k = k
      near (stored d outside) h k = settled-relative (is_directory dirs (appended d f.text)) (file_at files (appended d f.text)) (appended d f.text) other (append-relative d f.text h.0 k) k

      go : (b : Bool) → is_complete f.text ≡ b → is_complete (cond b (record { text = own_path f; leads = false; walked = false }) (direct (file_at files f.text) (is_directory dirs f.text) f.text (relative files dirs f.directory f.text other))).text ≡ false
      go true k = own-relative f h r
      go false k = direct-relative (file_at files f.text) (is_directory dirs f.text) f.text (relative files dirs f.directory f.text other) k (near f.directory h k)

  -- no flagged link's text is absolute unless that link was added by an absolute path
  pub clean-relative : is_complete (clean_text files dirs f) ≡ false
  clean-relative = go (first_pass files dirs f).walked (resolves files dirs (links_of files dirs files) (first_pass files dirs f).text)
    where
      go : (a b : Bool) → is_complete (cond a (cond b (first_pass files dirs f).text (own_path f)) (first_pass files dirs f).text) ≡ false
      go true true = first-relative
      go true false = own-relative f h r
      go false b = first-relative

-- ---- own paths

-- why link f holds its own path after a cleaning: its text was that path, it was absolute, it named the link itself from the link's
-- directory, or it was walked, and the walk stopped or ended at neither a file nor a directory
pub data Own (files : List Entry) (dirs : List (List ℕ)) (f : Entry) : Type 0 where
  was-own : f.text ≡ own_path f → Own files dirs f
  was-absolute : is_complete f.text ≡ true → Own files dirs f
  named-itself : path_in f.directory f.text ≡ own_path f → Own files dirs f
  not-resolved : (first_pass files dirs f).walked ≡ true → resolves files dirs (links_of files dirs files) f.text ≡ false → Own files dirs f

module _ (files : List Entry) (dirs : List (List ℕ)) (f : Entry) where
  -- what the first pass leaves and is not walked
  Left : First → Type 0
  Left r = r.walked ≡ false → r.text ≡ own_path f → Own files dirs f

  settled-own : (b : Bool) (s : Seen) (t : List ℕ) (o : First) → path_in f.directory f.text ≡ t → Left o → Left (settled b s t o)
  unfolding Left
  settled-own true s t o e h = λ w q. named-itself (e ∙ q)
  settled-own false FlaggedLink t o e h = λ w q. named-itself (e ∙ q)
  settled-own false RegularFile t o e h = λ w q. named-itself (e ∙ q)
  settled-own false Nothing t o e h = h

  direct-own : (s : Seen) (b : Bool) (o : First) → Left o → Left (direct s b f.text o)
  unfolding Left
  direct-own FlaggedLink b o h = λ w q. was-own q
  direct-own RegularFile b o h = λ w q. was-own q
  direct-own Nothing true o h = λ w q. was-own q
  direct-own Nothing false o h = h

  first-own : Left (first_pass files dirs f)
  unfolding Left
  first-own = go (is_complete f.text) refl
    where
      other : First
      other = record { text = f.text; leads = true; walked = true }

      none : Left other
      none = λ w q. absurd (true≢false w)

      near : (d : Directory) → f.directory ≡ d → Left (relative files dirs d f.text other)
      near single e = none
      near absolute e = none
      near (stored d outside) e = settled-own (is_directory dirs (appended d f.text)) (file_at files (appended d f.text)) (appended d f.text) other (ap (λ (x : Directory). path_in x f.text) e) none

      go : (b : Bool) → is_complete f.text ≡ b → Left (cond b (record { text = own_path f; leads = false; walked = false }) (direct (file_at files f.text) (is_directory dirs f.text) f.text (relative files dirs f.directory f.text other)))
      go true e = λ w q. was-absolute e
      go false e = direct-own (file_at files f.text) (is_directory dirs f.text) (relative files dirs f.directory f.text other) (near f.directory refl)

  -- a text becomes the link's own path only so
  pub clean-own : clean_text files dirs f ≡ own_path f → Own files dirs f
  unfolding Left
  clean-own q = go (first_pass files dirs f).walked (resolves files dirs (links_of files dirs files) (first_pass files dirs f).text) refl refl q
    where
      go : (a b : Bool) → (first_pass files dirs f).walked ≡ a → resolves files dirs (links_of files dirs files) (first_pass files dirs f).text ≡ b → cond a (cond b (first_pass files dirs f).text (own_path f)) (first_pass files dirs f).text ≡ own_path f → Own files dirs f
      go true true w e q = was-own (sym ((first_fits files dirs f).given w) ∙ q)
      go true false w e q = not-resolved w (ap (resolves files dirs (links_of files dirs files)) (sym ((first_fits files dirs f).given w)) ∙ e)
      go false b w e q = first-own w q
