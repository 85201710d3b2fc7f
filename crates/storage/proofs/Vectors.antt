-- Worked examples by computing: of document 01 on the model, and of document 02 (v) on the tables. They rely on the
-- definitions of `additions` and `plan`.
use Rattle.std.specs.Prelude.{Option, Some, None}
use Prim.Native.Nat.{ℕ, ◌+◌}
use mathlib.Core.Path.{◌≡◌, refl}
use mathlib.Core.Bool.{Bool, true, false, cond}
use mathlib.Core.List.{List, [], ◌∷◌, map}
use lib.Dec.{eqb}
use lib.IntN.{pos}
use lib.ListN.{replicate}
use Rattle.types.specs.Refusals.{refused}
use Rattle.lists.specs.Decimal.{digits_within}
use Rattle.tables.specs.Rows.{filled}
use Rattle.tables.specs.Model.{File, Model, Store, store_of, view_of, tabled}
use Rattle.additions.specs.Addition.{Addition, added, added_to, text_of}
use Rattle.change.specs.declared.rooms.Rooms.{Rooms}
use Rattle.plan.specs.Write.{store_added, directory_index_from}
use Rattle.plan.specs.Outcomes.{adding_number, add_stored}
use Rattle.storage.specs.Opening.{new_model, new_storage}

abbrev file : List ℕ → ℕ → Option (List ℕ) → Addition
file path size root =
    record { given = None; path = path; size = pos size; flags = 0; time = pos 0; link = []; root = root }

-- s/a.wav, s/b.wav
a_wav : List ℕ
a_wav = 115 ∷ 47 ∷ 97 ∷ 46 ∷ 119 ∷ 97 ∷ 118 ∷ []

b_wav : List ℕ
b_wav = 115 ∷ 47 ∷ 98 ∷ 46 ∷ 119 ∷ 97 ∷ 118 ∷ []

-- the listing's example: offsets, sizes and total
listed : Model
listed = added (added (new_model 16384) (file a_wav 10000 (Some (replicate 32 1)))) (file b_wav 16384 (Some (replicate 32 1)))

offsets : map (λ (f : File). f.offset) listed.files ≡ 0 ∷ 10000 ∷ 16384 ∷ []
unfolding listed a_wav b_wav
offsets = refl

sizes : map (λ (f : File). f.size) listed.files ≡ 10000 ∷ 6384 ∷ 16384 ∷ []
unfolding listed a_wav b_wav
sizes = refl

directories : listed.directories ≡ [] ∷ (46 ∷ 112 ∷ 97 ∷ 100 ∷ []) ∷ []
unfolding listed a_wav b_wav
directories = refl

texts : text_of listed ≡ 1 + 5 + 4 + 4 + 5
unfolding listed a_wav b_wav digits_within
texts = refl

rooms : Rooms
rooms = record { files = 3; directories = 2; text = 19 }

-- 'v2, length 16384, one file of 281474976710655: 4'
pad-passes : added_to rooms (new_model 16384) (file a_wav 281474976710655 (Some (replicate 32 1))) ≡ refused 4
unfolding a_wav rooms
pad-passes = refl

-- ---- the table of first files

-- a new set of piece length 10, with room for eight files, that keeps a table of first files or not
abbrev opened : Bool → List ℕ → Store
opened indexed firsts =
    store_of (new_storage 10 indexed) (replicate 64 0) (replicate 256 0) firsts (replicate 4 0) (replicate 40 0)

-- the tables after additions one after the other; a refused one leaves them
abbrev grown : Store → List Addition → Store
grown s [] = s
grown s (a ∷ rest) = grown (cond (eqb (adding_number s (view_of s) a) 0) (store_added s (view_of s) a) s) rest

-- files of those sizes, each s/a.wav
abbrev files : Option (List ℕ) → List ℕ → List Addition
files root ns = map (λ (n : ℕ). file a_wav n root) ns

-- pieces 1 and 2 begin in file 1, at its bytes 3 and 13, and piece 3 in file 2, at its byte 8
four : (grown (opened true (replicate 4 9)) (files None (7 ∷ 15 ∷ 18 ∷ []))).firsts ≡ 0 ∷ 1 ∷ 1 ∷ 2 ∷ []
unfolding a_wav tabled filled directory_index_from digits_within
four = refl

-- 'An addition that needs more places in it gets 10': the fifth piece has none
fifth-lacks : (add_stored (grown (opened true (replicate 4 9)) (files None (7 ∷ 15 ∷ 18 ∷ []))) (file a_wav 1 None)).says ≡ refused 10
unfolding a_wav tabled filled directory_index_from digits_within
fifth-lacks = refl

fifth : (add_stored (grown (opened true (replicate 5 9)) (files None (7 ∷ 15 ∷ 18 ∷ []))) (file a_wav 1 None)).firsts ≡ 0 ∷ 1 ∷ 1 ∷ 2 ∷ 3 ∷ []
unfolding a_wav tabled filled directory_index_from digits_within
fifth = refl

-- no piece begins in an empty file
empty : (grown (opened true (replicate 2 9)) (files None (0 ∷ 10 ∷ 0 ∷ []))).firsts ≡ 1 ∷ 9 ∷ []
unfolding a_wav tabled filled directory_index_from digits_within
empty = refl

-- in a v2 set file 1 is the pad of 3 bytes, which ends where piece 1 begins
padded : (grown (opened true (replicate 2 9)) (files (Some (replicate 32 1)) (7 ∷ 5 ∷ []))).firsts ≡ 0 ∷ 2 ∷ []
unfolding a_wav tabled filled directory_index_from digits_within
padded = refl

-- a set that keeps no table leaves the one that it is lent, and needs no places
unindexed : (grown (opened false (replicate 2 9)) (files None (7 ∷ 15 ∷ 18 ∷ []))).firsts ≡ 9 ∷ 9 ∷ []
unfolding a_wav tabled filled directory_index_from digits_within
unindexed = refl

placeless : (grown (opened false []) (files None (7 ∷ 15 ∷ 18 ∷ []))).fs.total_size ≡ 40
unfolding a_wav tabled filled directory_index_from digits_within
placeless = refl
