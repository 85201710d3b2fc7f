-- A verdict gives the text that the cleaning gives: the marks of Judging.antt say of each link what the passes of Clean.antt say.
use Prim.Native.Nat.{ℕ, ◌/◌}
use mathlib.Core.Path.{◌≡◌, refl, ap}
use mathlib.Core.Bool.{Bool, true, false, cond}
use mathlib.Core.List.{List}
use lib.Dec.{eqb}
use Rattle.path.specs.Split.{is_complete}
use Rattle.path.specs.Join.{appended}
use Rattle.tables.specs.Model.{Directory, single, absolute, stored, path_in}
use Rattle.lookup.specs.Lookup.{Entry, own_path, is_directory, file_at}
use Rattle.lookup.specs.declared.set.Seen.{Seen}
use Rattle.lookup.specs.declared.set.Seen.TheVariants.{Nothing, RegularFile, FlaggedLink}
use Rattle.links.specs.Clean.{First, settled, direct, relative, first_pass, links_of, resolves, clean_text}
use Rattle.links.specs.Judging.{settled_mark, direct_mark, relative_mark, first_mark, verdict_read, verdict_of, text_by}

-- mark m and the first pass's r say the same of link f: the text then, where `goes` says whether a walked text leads on
Tells : (List ℕ → Bool) → Entry → ℕ → First → Type 0
Tells goes f m r =
    text_by (verdict_read (cond (eqb (m / 8) 3) (cond (goes f.text) 0 1) (m / 8))) f ≡ cond r.walked (cond (goes r.text) r.text (own_path f)) r.text

module _ (goes : List ℕ → Bool) (f : Entry) where
  -- a text that is walked
  walked-tells : Tells goes f 25 (record { text = f.text; leads = true; walked = true })
  unfolding Tells
  walked-tells = at (goes f.text)
    where
      at : (b : Bool) → text_by (verdict_read (cond b 0 1)) f ≡ cond b f.text (own_path f)
      at true = refl
      at false = refl

  -- a text taken from the link's directory
  settled-tells : (b : Bool) (s : Seen) (t : List ℕ) (m : ℕ) (o : First) → path_in f.directory f.text ≡ t → Tells goes f m o → Tells goes f (settled_mark b s m) (settled b s t o)
  unfolding Tells
  settled-tells true s t m o e h = e
  settled-tells false FlaggedLink t m o e h = e
  settled-tells false RegularFile t m o e h = e
  settled-tells false Nothing t m o e h = h

  -- a text as it was given
  direct-tells : (s : Seen) (b : Bool) (m : ℕ) (o : First) → Tells goes f m o → Tells goes f (direct_mark s b m) (direct s b f.text o)
  unfolding Tells
  direct-tells FlaggedLink b m o h = refl
  direct-tells RegularFile b m o h = refl
  direct-tells Nothing true m o h = refl
  direct-tells Nothing false m o h = h

  module _ (files : List Entry) (dirs : List (List ℕ)) where
    abbrev other : First
    other = record { text = f.text; leads = true; walked = true }

    near-tells : (d : Directory) → f.directory ≡ d → Tells goes f (relative_mark files dirs d f.text 25) (relative files dirs d f.text other)
    near-tells single e = walked-tells
    near-tells absolute e = walked-tells
    near-tells (stored d o) e =
        settled-tells (is_directory dirs (appended d f.text)) (file_at files (appended d f.text)) (appended d f.text) 25 other
        (ap (λ (x : Directory). path_in x f.text) e) walked-tells

    first-tells : Tells goes f (first_mark files dirs f) (first_pass files dirs f)
    unfolding Tells
    first-tells = at (is_complete f.text)
      where
        at : (b : Bool) → Tells goes f (cond b 8 (direct_mark (file_at files f.text) (is_directory dirs f.text) (relative_mark files dirs f.directory f.text 25)))
            (cond b (record { text = own_path f; leads = false; walked = false }) (direct (file_at files f.text) (is_directory dirs f.text) f.text (relative files dirs f.directory f.text other)))
        at true = refl
        at false =
            direct-tells (file_at files f.text) (is_directory dirs f.text) (relative_mark files dirs f.directory f.text 25)
            (relative files dirs f.directory f.text other) (near-tells f.directory refl)

-- the text by its verdict is the cleaned text
pub verdict-text : (files : List Entry) (dirs : List (List ℕ)) (f : Entry) → text_by (verdict_read (verdict_of files dirs f)) f ≡ clean_text files dirs f
unfolding Tells
verdict-text files dirs f = first-tells (resolves files dirs (links_of files dirs files)) f files dirs
