-- A list of names as it is lent: an import of a list that is whole is that of its pairs, one of a list that is not is refused
-- and leaves all as it was, and every list of pairs can be lent whole. These laws rely on those of `lists` for sums.
use Prim.Native.Nat.{ℕ}
use mathlib.Core.Path.{◌≡◌, refl, ap}
use mathlib.Core.Bool.{true, false}
use mathlib.Core.List.{List, [], ◌∷◌, ◌++◌}
use native.Mathlib.Omega.{arith}
use borrow.Author.Tests.{le-leb}
use lib.IntN.{ℤ}
use lib.ListN.{length, take, length-append}
use lib.Seq.{take_all, take-append_seam, drop-append_seam}
use Rattle.lists.specs.Lists.{sum}
use Rattle.types.specs.Refusals.{refused}
use Rattle.tables.specs.declared.storage.FileStorage.{FileStorage}
use Rattle.rules.specs.Bounds.{bad_length}
use Rattle.renames.specs.declared.rename.RenamedFiles.{RenamedFiles}
use Rattle.renames.specs.Renames.{renames_changed_of}
use Rattle.imports.specs.Imports.{Naming, namings, list_held, has_negative, import_filenames_answer, import_lent}

module _ (fs : FileStorage) (rf : RenamedFiles) (e t : List ℕ) (zs : List ℤ) (lengths names : List ℕ) where
  pub lent-held : list_held zs lengths names ≡ true → import_lent fs rf e t zs lengths names ≡ import_filenames_answer fs rf e t (namings zs lengths names)
  lent-held h = rw h

  pub lent-short : bad_length fs.piece_length ≡ false → has_negative (namings zs lengths names) ≡ false → list_held zs lengths names ≡ false
      → import_lent fs rf e t zs lengths names ≡ renames_changed_of (refused 10) e t
  lent-short a b h = rw (a, b, h)

-- ---- every list of pairs, lent whole

abbrev pub numbers_of : List Naming → List ℤ
numbers_of [] = []
numbers_of (x ∷ xs) = x.file ∷ numbers_of xs

abbrev pub lengths_of : List Naming → List ℕ
lengths_of [] = []
lengths_of (x ∷ xs) = length x.name ∷ lengths_of xs

abbrev pub names_of : List Naming → List ℕ
names_of [] = []
names_of (x ∷ xs) = x.name ++ names_of xs

as_many : (xs : List Naming) → length (lengths_of xs) ≡ length (numbers_of xs)
as_many [] = refl
as_many (x ∷ xs) = omega (arith, as_many xs)

as_long : (xs : List Naming) → sum (lengths_of xs) ≡ length (names_of xs)
as_long [] = refl
as_long (x ∷ xs) = omega (arith, as_long xs, length-append x.name (names_of xs))

pub lent-whole : (xs : List Naming) → list_held (numbers_of xs) (lengths_of xs) (names_of xs) ≡ true
lent-whole xs =
    let a = as_many xs in
    let b = as_long xs in
    let w : take (length (numbers_of xs)) (lengths_of xs) ≡ lengths_of xs = take_all (length (numbers_of xs)) (lengths_of xs) (omega arith) in
    rw (le-leb (length (numbers_of xs)) (length (lengths_of xs)) (omega arith), w)
    (le-leb (sum (lengths_of xs)) (length (names_of xs)) (omega arith))

pub lent-pairs : (xs : List Naming) → namings (numbers_of xs) (lengths_of xs) (names_of xs) ≡ xs
lent-pairs [] = refl
lent-pairs (x ∷ xs) =
    rw (take-append_seam x.name (names_of xs), drop-append_seam x.name (names_of xs)) (ap (λ (l : List Naming). x ∷ l) (lent-pairs xs))
