-- What a cleaning keeps of each file: all but the text of a flagged link, and whether a text is held. All on the model; it relies
-- on nothing but the definitions.
use Rattle.std.specs.Prelude.{Option, Some, None}
use mathlib.Core.Path.{◌≡◌, refl, ap₂, ◌∙◌}
use mathlib.Core.Bool.{Bool, true, false, cond, false≢true}
use mathlib.Core.List.{List, [], ◌∷◌, map, map-map}
use Prim.Native.Nat.{ℕ}
use Rattle.tables.specs.Rows.{has}
use Rattle.tables.specs.Model.{File, Model}
use Rattle.additions.specs.Addition.{is_present}
use Rattle.lookup.specs.Lookup.{entry_of, is_held}
use Rattle.links.specs.Clean.{linked_to, clean_text, clean_file, cleaned_of}

-- of a flagged link a text is held
pub held-flagged : (f : File) → (entry_of f).flagged ≡ true → is_held f.link ≡ true
held-flagged f e = at (has f.flags 8) (is_held f.link) e
  where
    at : (a b : Bool) → cond a b false ≡ true → b ≡ true
    at true b q = q
    at false b q = absurd (false≢true q)

map_same : {A B : Type 0} (g h : A → B) → ((a : A) → g a ≡ h a) → (l : List A) → map g l ≡ map h l
map_same g h e [] = refl
map_same {A} {B} g h e (a ∷ l) = ap₂ (λ (x : B) (xs : List B). x ∷ xs) (e a) (map_same g h e l)

module _ (m : Model) where
  abbrev pub cleaned_in : File → File
  cleaned_in = clean_file (map entry_of m.files) m.directories

  abbrev text : File → List ℕ
  text f = clean_text (map entry_of m.files) m.directories (entry_of f)

  -- what does not depend on link texts
  pub clean-same : {A : Type 0} (g : File → A) → ((l : Option (List ℕ)) (f : File) → g (linked_to l f) ≡ g f) → (f : File) → g (cleaned_in f) ≡ g f
  clean-same g e f = at (entry_of f).flagged
    where
      at : (b : Bool) → g (cond b (linked_to (Some (text f)) f) f) ≡ g f
      at true = e (Some (text f)) f
      at false = refl

  -- whether a text is held
  pub clean-held : (f : File) → is_present (cleaned_in f).link ≡ is_present f.link
  clean-held f = at (entry_of f).flagged (held-flagged f)
    where
      here : (l : Option (List ℕ)) → is_held l ≡ true → true ≡ is_present l
      here None e = absurd (false≢true e)
      here (Some t) e = refl

      at : (b : Bool) → (b ≡ true → is_held f.link ≡ true) → is_present (cond b (linked_to (Some (text f)) f) f).link ≡ is_present f.link
      at true e = here f.link (e refl)
      at false e = refl

  -- what is the same of each file is the same of all
  pub clean-map : {A : Type 0} (g : File → A) → ((f : File) → g (cleaned_in f) ≡ g f) → map g (cleaned_of m).files ≡ map g m.files
  clean-map g e = map-map g cleaned_in m.files ∙ map_same (λ (f : File). g (cleaned_in f)) g e m.files

  pub clean-map-same : {A : Type 0} (g : File → A) → ((l : Option (List ℕ)) (f : File) → g (linked_to l f) ≡ g f) → map g (cleaned_of m).files ≡ map g m.files
  clean-map-same g e = clean-map g (clean-same g e)
