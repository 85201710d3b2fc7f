-- How the names of a list come to the renames that are kept, in time linear in both. For each file the last number of
-- the list that names it is noted, and where its name begins. Then the files are gone through in order: each gets the
-- name that is noted, or keeps its rename. It relies on the list of `renames` and on the kit's `set`.
use Rattle.std.specs.Prelude.{ℕ, zero, suc, ◌+◌, ◌-◌, ◌*◌, ◌≡◌, Bool, cond, not, List, [], ◌∷◌, ◌++◌, eqb, ℤ, length}
use Rattle.std.specs.Prelude.{get_or, set, drop, replicate}
use Rattle.lists.specs.Lists.{part_of}
use Rattle.rules.specs.Bounds.{clamped_of, is_below}
use Rattle.renames.specs.declared.rename.RenameMode.TheVariants.{FullPath}
use Rattle.imports.specs.declared.merge.Place.{Place}
use Rattle.renames.specs.Renames.{Renamed, renames_from}

-- ---- the notes

-- the notes l, made of the numbers zs, the first of which is number i: for each file one more than the last that names
-- it
abbrev pub noted_from : ℕ → List ℤ → List ℕ → List ℕ
noted_from i [] l = l
noted_from i (z ∷ zs) l = noted_from (i + 1) zs (cond (is_below (length l) z) (set l (clamped_of z) (i + 1)) l)

-- the notes of a whole list, a cell for each file
abbrev pub Noted : ℕ → List ℤ → List ℕ → Type 0
Noted files zs l = l ≡ noted_from 0 zs (replicate files 0)

-- likewise for each file where the name of that number begins; the first name begins at `at`
abbrev pub placed_from : ℕ → List ℤ → List ℕ → List ℕ → List ℕ
placed_from at [] lengths p = p
placed_from at (z ∷ zs) lengths p =
    placed_from (at + get_or lengths 0 0) zs (drop 1 lengths) (cond (is_below (length p) z) (set p (clamped_of z) at) p)

-- whether there is a note of file k
abbrev pub is_noted : List ℕ → ℕ → Bool
is_noted l k = not (eqb (get_or l k 0) 0)

-- the name that is noted for it
abbrev pub name_noted : List ℕ → List ℕ → List ℕ → List ℕ → ℕ → List ℕ
name_noted l p lengths names k = part_of names (get_or p k 0) (get_or lengths (get_or l k 0 - 1) 0)

abbrev pub given_at : List ℕ → List ℕ → List ℕ → List ℕ → ℕ → Renamed
given_at l p lengths names k = record { file = k; mode = FullPath; name = name_noted l p lengths names k }

-- ---- the files in order

-- of renames of files from k on, that of file k, and the others
abbrev pub own_at : ℕ → List Renamed → List Renamed
own_at k [] = []
own_at k (r ∷ rs) = cond (eqb r.file k) (r ∷ []) []

abbrev pub left_at : ℕ → List Renamed → List Renamed
left_at k [] = []
left_at k (r ∷ rs) = cond (eqb r.file k) rs (r ∷ rs)

-- what file k gets, and the kept renames that are left after it
abbrev pub step_at : (ℕ → Bool) → (ℕ → Renamed) → ℕ → List Renamed → List Renamed
step_at named given k rs = cond (named k) (given k ∷ []) (own_at k rs)

abbrev pub rest_at : (ℕ → Bool) → ℕ → List Renamed → List Renamed
rest_at named k rs = cond (named k) rs (left_at k rs)

-- the renames of n files from file k on, and after them those of rs that are left
unfoldable pub merged_from : (ℕ → Bool) → (ℕ → Renamed) → ℕ → ℕ → List Renamed → List Renamed
merged_from named given zero k rs = rs
merged_from named given (suc n) k rs =
    step_at named given k rs ++ merged_from named given n (k + 1) (rest_at named k rs)

-- ---- in the tables

-- the renames that are kept are those of the last of `total` entries, from entry `next` on, whose texts begin at `from`
abbrev pub kept_in : ℕ → ℕ → ℕ → List ℕ → List ℕ → List Renamed
kept_in total next from entries text = renames_from (total - next) next entries (drop from text)

-- one file: it is noted, or has an own rename, or neither; its text begins at byte `at`
abbrev pub step_words : Bool → Bool → ℕ → ℕ → List ℕ → List ℕ → ℕ → List ℕ
step_words noted own k at name entries i =
    cond noted (k ∷ 0 ∷ length name ∷ at ∷ [])
    (cond own (get_or entries (i * 4) 0 ∷ get_or entries (i * 4 + 1) 0 ∷ get_or entries (i * 4 + 2) 0 ∷ at ∷ []) [])

abbrev pub step_text : Bool → Bool → List ℕ → List ℕ → ℕ → ℕ → List ℕ
step_text noted own name text from len = cond noted name (cond own (part_of text from len) [])

-- the place after a name that is noted, and after a rename that is kept
abbrev pub after_given : Place → ℕ → Place
after_given p len = record { to = p.to + 1; at = p.at + len; next = p.next; from = p.from }

abbrev pub after_kept : Place → ℕ → Place
after_kept p len = record { to = p.to + 1; at = p.at + len; next = p.next + 1; from = p.from + len }

abbrev pub step_place : Bool → Bool → ℕ → ℕ → Place → Place
step_place noted own new old p = cond noted (after_given p new) (cond own (after_kept p old) p)
