-- The text needed after an addition is the used part of the text area that the addition computes, so that the numbers which
-- the tables give are those of the model. Relies on Texts.antt and on the laws of spans of `tables`.
use mathlib.Core.Path.{◌≡◌, refl, ap}
use mathlib.Core.Bool.{Bool, true, false, cond}
use mathlib.Core.List.{List, [], ◌∷◌, ◌++◌, map}
use Prim.Native.Nat.{ℕ, ◌+◌, ◌≤◌}
use native.Mathlib.Omega.{arith}
use lib.Dec.{eqb}
use lib.ListN.{length}
use Rattle.lists.specs.Lists.{sum}
use Rattle.lists.specs.Decimal.{decimal}
use Rattle.tables.specs.declared.span.Span.{Span}
use Rattle.tables.specs.declared.storage.FileStorage.{FileStorage}
use Rattle.tables.specs.Span.{end_of}
use Rattle.tables.specs.Model.{Directory, single, absolute, stored, present_if, Model, Store, file_of, view_of}
use Rattle.tables.proofs.Spans.{clip-same}
use Rattle.tables.proofs.Tabled.{length-tabled}
use Rattle.additions.specs.Addition.{Addition, files_of, size_added, keeps, pad_of, new_name, directory_added, file_added, pad_added, pad_directory_name, is_among, with_directory, with_directory_of, added, link_length, file_text, text_of}
use Rattle.plan.specs.Write.{text_if_new, new_text_of, set_text, text_kept, text_after}
use Rattle.sound.specs.Sound.{set_name, Sound}
use Rattle.sound.proofs.Common.{sum-map-append}
use Rattle.sound.proofs.Texts.{text-is, text-length}

-- ---- each text by itself

abbrev dirs_text : List (List ℕ) → ℕ
dirs_text ds = sum (map length ds)

one_more : (b : Bool) (d : List ℕ) (ds : List (List ℕ)) → dirs_text (cond b ds (ds ++ (d ∷ []))) ≡ dirs_text ds + length (cond b [] d)
one_more true d ds = omega arith
one_more false d ds = omega (arith, sum-map-append length ds (d ∷ []))

missing-text : (d : List ℕ) (ds : List (List ℕ)) → dirs_text (with_directory d ds) ≡ dirs_text ds + length (text_if_new d ds)
missing-text d ds = one_more (is_among d ds) d ds

place-text : (p : Directory) (ds : List (List ℕ)) → dirs_text (with_directory_of p ds) ≡ dirs_text ds + length (new_text_of p ds)
place-text single ds = omega arith
place-text absolute ds = omega arith
place-text (stored d outside) ds = missing-text d ds

pad-dir-text : (b : Bool) (d : List ℕ) (ds : List (List ℕ)) → dirs_text (cond b ds (with_directory d ds)) ≡ dirs_text ds + length (cond b [] (text_if_new d ds))
pad-dir-text true d ds = omega arith
pad-dir-text false d ds = missing-text d ds

link-text : (b : Bool) (l : List ℕ) → link_length (present_if b l) ≡ length (cond b l [])
link-text true l = refl
link-text false l = refl

pad-text : (o n : ℕ) → sum (map file_text (pad_added o n)) ≡ length (cond (eqb n 0) [] (decimal n))
pad-text o n = at (eqb n 0) refl
  where
    at : (b : Bool) → eqb n 0 ≡ b → sum (map file_text (pad_added o n)) ≡ length (cond (eqb n 0) [] (decimal n))
    at true e = rw e
    at false e = rw e (omega arith)

-- ---- together

module _ (fs : FileStorage) (m : Model) (a : Addition) (e : files_of m ≡ fs.num_files) (w : end_of fs.name ≤ fs.text_len) (u : fs.text_len ≡ text_of m) (l : length m.name ≡ fs.name.len) where
  name-text : text_kept fs + length (set_text m a) + length m.name ≡ length (new_name m a) + text_of m
  name-text = at (eqb fs.num_files 0) refl
    where
      at : (b : Bool) → eqb fs.num_files 0 ≡ b → text_kept fs + length (set_text m a) + length m.name ≡ length (new_name m a) + text_of m
      at true q = rw (e, q) (omega (arith, ap (λ (x : Span). x.len) (clip-same fs.text_len fs.name w)))
      at false q = rw (e, q) (omega arith)

  texts-after : text_after fs m a ≡ text_of (added m a)
  texts-after =
      omega (
        arith,
        name-text,
        place-text (directory_added m a) m.directories,
        pad-dir-text (eqb (pad_of m a) 0) pad_directory_name (with_directory_of (directory_added m a) m.directories),
        sum-map-append file_text m.files (file_added m a ∷ pad_added (m.total + size_added a) (pad_of m a)),
        link-text (keeps m a) a.link,
        pad-text (m.total + size_added a) (pad_of m a),
      )

pub text-after : (s : Store) (a : Addition) → Sound s → text_after s.fs (view_of s) a ≡ text_of (added (view_of s) a)
text-after s a ok =
    texts-after s.fs (view_of s) a
    (length-tabled s.fs.num_files (file_of s))
    (ok.within set_name)
    (text-is s ok)
    (text-length s ok set_name)
