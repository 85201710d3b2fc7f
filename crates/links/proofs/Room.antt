-- The work space suffices: the texts by which links lead on fit in document 01's sum, and there is at most one open link a file.
-- These laws rely on those of proofs/Walk.antt.
use Prim.Native.Nat.{ℕ, suc, ◌+◌, ◌≤◌}
use mathlib.Core.Path.{◌≡◌, refl, ap}
use mathlib.Core.Bool.{Bool, true, false, cond, false≢true}
use mathlib.Core.List.{List, [], ◌∷◌}
use native.Mathlib.Omega.{arith}
use lib.ListN.{length, get_or, drop}
use Rattle.path.specs.Split.{is_complete}
use Rattle.path.specs.Join.{appended}
use Rattle.tables.specs.Model.{Directory, single, absolute, stored, Store}
use Rattle.tables.proofs.Tabled.{length-tabled}
use Rattle.lookup.specs.Lookup.{Entry, own_path, file_at, is_directory, entries_of}
use Rattle.lookup.specs.declared.set.Seen.{Seen}
use Rattle.lookup.specs.declared.set.Seen.TheVariants.{Nothing, RegularFile, FlaggedLink}
use Rattle.lookup.specs.Space.{directory_length, space}
use Rattle.lookup.specs.private.Rows.{entry_at}
use Rattle.links.specs.Clean.{Link, First, settled, direct, relative, first_pass, link_of, links_of, Lead, none, to, lead_at, unless, weight}
use Rattle.links.specs.private.Walking.{open_link, but_later, leading, any_at, open_of}
use Rattle.links.proofs.Walk.{append-short}

-- what the first pass leaves: a text that leads on is at most the directory, a separator and the text; one to be walked is as given
pub record Fits (f : Entry) (r : First) : Type 0 where
  pub leading : r.leads ≡ true → length r.text ≤ directory_length f.directory + length f.text + 1
  pub given : r.walked ≡ true → r.text ≡ f.text

plain : (f : Entry) (t : List ℕ) (l : Bool) → length t ≤ directory_length f.directory + length f.text + 1 → Fits f (record { text = t; leads = l; walked = false })
plain f t l h = record { leading = λ q. h; given = λ q. absurd (false≢true q) }

settled-fits : (f : Entry) (b : Bool) (s : Seen) (t : List ℕ) (o : First) → length t ≤ directory_length f.directory + length f.text + 1 → Fits f o → Fits f (settled b s t o)
settled-fits f true s t o h k = plain f t true h
settled-fits f false Nothing t o h k = k
settled-fits f false RegularFile t o h k = plain f t false h
settled-fits f false FlaggedLink t o h k = plain f t true h

direct-fits : (f : Entry) (s : Seen) (b : Bool) (t : List ℕ) (o : First) → length t ≤ directory_length f.directory + length f.text + 1 → Fits f o → Fits f (direct s b t o)
direct-fits f Nothing true t o h k = plain f t true h
direct-fits f Nothing false t o h k = k
direct-fits f RegularFile b t o h k = plain f t false h
direct-fits f FlaggedLink b t o h k = plain f t true h

module _ (files : List Entry) (dirs : List (List ℕ)) where
  pub first_fits : (f : Entry) → Fits f (first_pass files dirs f)
  first_fits f = go (is_complete f.text)
    where
      other : First
      other = record { text = f.text; leads = true; walked = true }

      base : Fits f other
      base = record { leading = λ q. omega arith; given = λ q. refl }

      near : (p : Directory) → f.directory ≡ p → Fits f (relative files dirs p f.text other)
      near single e = base
      near absolute e = base
      near (stored d outside) e = settled-fits f (is_directory dirs (appended d f.text)) (file_at files (appended d f.text)) (appended d f.text) other (omega (arith, append-short d f.text, ap directory_length e)) base

      go : (b : Bool) → Fits f (cond b (record { text = own_path f; leads = false; walked = false }) (direct (file_at files f.text) (is_directory dirs f.text) f.text (relative files dirs f.directory f.text other)))
      go true = record { leading = λ q. absurd (false≢true q); given = λ q. absurd (false≢true q) }
      go false = direct-fits f (file_at files f.text) (is_directory dirs f.text) f.text (relative files dirs f.directory f.text other) (omega arith) (near f.directory refl)

  -- the texts of all links that lead on, with one byte each
  pub links-fit : (fs : List Entry) → weight (links_of files dirs fs) ≤ space fs
  links-fit [] = omega arith
  links-fit (f ∷ fs) = go f.flagged (first_pass files dirs f) (first_fits f) (links-fit fs)
    where
      add : (r : First) (l : Bool) (x : Lead) → Fits f r → r.leads ≡ l → weight (links_of files dirs fs) ≤ space fs → weight (cond l (unless x (record { path = own_path f; text = r.text }) (links_of files dirs fs)) (links_of files dirs fs)) ≤ directory_length f.directory + length f.text + 2 + space fs
      add r true none h e k = omega (arith, h.leading e)
      add r true (to t) h e k = omega arith
      add r false x h e k = omega arith

      go : (b : Bool) (r : First) → Fits f r → weight (links_of files dirs fs) ≤ space fs → weight (link_of b (own_path f) r (links_of files dirs fs)) ≤ cond b (directory_length f.directory + length f.text + 2) 0 + space fs
      go true r h k = add r r.leads (lead_at (links_of files dirs fs) (own_path f)) h refl k
      go false r h k = omega arith

-- ---- how many links are open

open-list : (fs : List Entry) (ms : List ℕ) → length (open_of fs ms) ≤ length fs
open-list [] ms = omega arith
open-list (f ∷ fs) ms = go f.flagged (open-list fs (drop 1 ms)) (open-list fs ms)
  where
    more : (b : Bool) (m : ℕ) (ls : List Link) → length (open_link b m f ls) ≤ suc (length ls)
    more true m ls = omega arith
    more false m ls = omega arith

    go : (b : Bool) → length (open_of fs (drop 1 ms)) ≤ length fs → length (open_of fs ms) ≤ length fs → length (cond b (open_link (but_later (any_at fs (drop 1 ms) (own_path f)) (leading (get_or ms 0 0))) (get_or ms 0 0) f (open_of fs (drop 1 ms))) (open_of fs ms)) ≤ suc (length fs)
    go true h k = omega (arith, more (but_later (any_at fs (drop 1 ms) (own_path f)) (leading (get_or ms 0 0))) (get_or ms 0 0) (open_of fs (drop 1 ms)))
    go false h k = omega arith

-- at most one a file
pub open-few : (s : Store) (ms : List ℕ) → length (open_of (entries_of s) ms) ≤ s.fs.num_files
open-few s ms = omega (arith, open-list (entries_of s) ms, length-tabled s.fs.num_files (entry_at s))
