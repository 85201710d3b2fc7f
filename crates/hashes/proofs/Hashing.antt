-- Laws of a directory's beginnings and of their hashes. A running hash goes on from one separator to the next, and starts anew
-- with each directory. They rely on the laws of `crc32c` about parts.
--     beginning_number                              one beginning more than separators
--     parts-start                                   the hashes of a directory's beginnings, part by part
--     none-left, part-left                          the parts that an iterator still gives
--     rows-turn, rows-end                           the directories, one after the other
--     rows-within                                   the first rows of a table
--     all-within                                    the hashes of what stands behind the set's name
use Prim.Native.Nat.{ℕ, ◌+◌, ◌/◌, ◌≤◌, ◌<◌}
use mathlib.Core.Path.{◌≡◌, refl, sym, ap, subst, ◌∙◌}
use mathlib.Core.Bool.{Bool, true, false, cond}
use mathlib.Core.List.{List, [], ◌∷◌, ◌++◌, map}
use native.Mathlib.Numerals.{add-one}
use native.Mathlib.Omega.{arith}
use lib.ListN.{length, get_or, take, drop, length-map}
use borrow.Author.Tests.{eqb-true}
use lib.Seq.{drop-cons}
use Rattle.std.proofs.Common.{Bor, Option, Some, None}
use Rattle.std.proofs.lemmas.List.{get_or-map}
use Rattle.std.proofs.lemmas.List.Splits.{length-slice_split}
use Rattle.std.specs.Iterator.{AlwaysYields}
use Rattle.std.specs.List.{filter, slice_split, onto_first}
use Rattle.std.specs.Simd.{first_chunks}
use Rattle.path.specs.Split.{is_separator}
use Rattle.crc32c.specs.Crc.{crc_from, lower}
use Rattle.crc32c.proofs.Parts.{crc-lower, crc-none}
use Rattle.tables.specs.declared.storage.FileStorage.{FileStorage}
use Rattle.tables.specs.Span.{text_at}
use Rattle.tables.specs.Rows.{dir_at}
use Rattle.tables.specs.Model.{tabled}
use Rattle.tables.proofs.Chunks.{first-texts}
use Rattle.names.specs.Paths.{led, hash_of}
use Rattle.hashes.specs.Hashes.{beginnings_from, beginnings, joined_lists, directory_hashes, hashes_of}
use Rattle.hashes.specs.private.Gathering.{hashes_after, hashes_within}
use Rattle.hashes.specs.private.Due.{placed}

pub empty-list : (d : List ℕ) → length d ≡ 0 → d ≡ []
empty-list [] h = refl
empty-list (c ∷ t) h = absurd (omega arith)

-- as many as there are separators, and one more
pub beginning_number : (seen d : List ℕ) → length (beginnings_from seen d) ≡ length (filter is_separator d) + 1
beginning_number seen [] = refl
beginning_number seen (c ∷ t) = at (is_separator c) (beginning_number (seen ++ (c ∷ [])) t)
  where
    at : (b : Bool) → length (beginnings_from (seen ++ (c ∷ [])) t) ≡ length (filter is_separator t) + 1
        → length (cond b (seen ∷ beginnings_from (seen ++ (c ∷ [])) t) (beginnings_from (seen ++ (c ∷ [])) t)) ≡ length (cond b (c ∷ filter is_separator t) (filter is_separator t)) + 1
    at true e = omega arith
    at false e = e

-- the hash of bytes behind those whose hash is `state`
abbrev pub hash_by : ℕ → List ℕ → ℕ
hash_by state b = crc_from state (map lower b)

-- the hashes at the ends of a directory's parts, where x is the hash of what stands before the first: a separator stands behind each part but the last
abbrev pub hashes_on : ℕ → List (List ℕ) → List ℕ
hashes_on x [] = []
hashes_on x (p ∷ ps) = hash_by x p ∷ hashes_on (hash_by (hash_by x p) (47 ∷ [])) ps

abbrev pub parts : List ℕ → List (List ℕ)
parts d = slice_split is_separator d

-- a byte that goes onto the first part
onto-hashes : (x c : ℕ) (ps : List (List ℕ)) → 0 < length ps → hashes_on (hash_by x (c ∷ [])) ps ≡ hashes_on x (onto_first c ps)
onto-hashes x c [] h = absurd (omega arith)
onto-hashes x c (p ∷ ps) h = ap (λ (y : ℕ). y ∷ hashes_on (hash_by y (47 ∷ [])) ps) (crc-lower x (c ∷ []) p)

module _ (state : ℕ) where
  hashes-parted : (seen d : List ℕ) → map (hash_by state) (beginnings_from seen d) ≡ hashes_on (hash_by state seen) (parts d)
  hashes-parted seen [] = ap (λ (y : ℕ). y ∷ []) (sym (crc-none (hash_by state seen)))
  hashes-parted seen (c ∷ t) =
      at (is_separator c) refl (hashes-parted (seen ++ (c ∷ [])) t ∙ ap (λ (y : ℕ). hashes_on y (parts t)) (sym (crc-lower state seen (c ∷ []))))
    where
      at : (b : Bool) → is_separator c ≡ b → map (hash_by state) (beginnings_from (seen ++ (c ∷ [])) t) ≡ hashes_on (hash_by (hash_by state seen) (c ∷ [])) (parts t)
          → map (hash_by state) (cond b (seen ∷ beginnings_from (seen ++ (c ∷ [])) t) (beginnings_from (seen ++ (c ∷ [])) t)) ≡ hashes_on (hash_by state seen) (cond b ([] ∷ parts t) (onto_first c (parts t)))
      at true q e =
          let x = hash_by state seen in
          ap (λ (hs : List ℕ). x ∷ hs) (e ∙ ap (λ (k : ℕ). hashes_on (hash_by x (k ∷ [])) (parts t)) (eqb-true c 47 q))
          ∙ ap (λ (y : ℕ). y ∷ hashes_on (hash_by y (47 ∷ [])) (parts t)) (sym (crc-none x))
      at false q e = e ∙ onto-hashes (hash_by state seen) c (parts t) (omega (arith, length-slice_split is_separator t))

  pub parts-start : (d : List ℕ) → 0 < length d → hashes_on state (parts d) ≡ hashes_after state d
  parts-start [] h = absurd (omega arith)
  parts-start (c ∷ t) h = sym (hashes-parted [] (c ∷ t) ∙ ap (λ (y : ℕ). hashes_on y (parts (c ∷ t))) (crc-none state))

-- what is left of the parts, where an iterator gives none or one
module _ {I : Type 0} (steps : I → Option (Bor (List ℕ)) → I → Type 0) (it next : I) (r : Option (Bor (List ℕ))) (step : steps it r next) where
  pub none-left : (x : ℕ) (left : List (List ℕ)) → AlwaysYields steps (λ p. p.now) it left → r ≡ None → hashes_on x left ≡ []
  none-left x [] y e = refl
  none-left x (p ∷ ps) y e = absurd (y.0 next (subst (λ (o : Option (Bor (List ℕ))). steps it o next) e step))

  -- y is the hash at the part's end, and z that behind the separator
  pub part-left : (part : Bor (List ℕ)) (x y z : ℕ) (left : List (List ℕ)) → AlwaysYields steps (λ p. p.now) it left → r ≡ Some part → y ≡ hash_by x part.now → z ≡ hash_by y (47 ∷ [])
      → (ps : List (List ℕ)) × AlwaysYields steps (λ p. p.now) next ps × (hashes_on x left ≡ (y ∷ []) ++ hashes_on z ps)
  part-left part x y z [] w e k m = absurd (w part next (subst (λ (o : Option (Bor (List ℕ))). steps it o next) e step))
  part-left part x y z (p ∷ ps) w e k m =
      let g = w.1 part next (subst (λ (o : Option (Bor (List ℕ))). steps it o next) e step) in
      (ps, g.1, rw (m, k, g.0))

-- the directories of a table's rows, one after the other; none left
module _ {A : Type 0} (f : List ℕ → List A) (text : List ℕ) (rows : List (List ℕ)) where
  abbrev ds : List (List ℕ)
  ds = map (placed text) rows

  pub rows-turn : (i : ℕ) (d t : List ℕ) → i < length rows → t ≡ placed text (get_or rows i d) → joined_lists (drop i (map f ds)) ≡ f t ++ joined_lists (drop (i + 1) (map f ds))
  rows-turn i d t h e =
      let l = length-map rows (placed text) in
      let k : i < length (map f ds) = omega (arith, l, length-map ds f) in
      let g : get_or (map f ds) i [] ≡ f t = get_or-map f ds i [] [] (omega arith) ∙ ap f (get_or-map (placed text) rows i d [] h ∙ sym e) in
      rw (add-one i, drop-cons (map f ds) i [] k, g)

-- the first rows of a table
pub rows-within : (state : ℕ) (dirs text : List ℕ) (n : ℕ) → n ≤ length dirs / 2
    → joined_lists (map (hashes_after state) (map (placed text) (take n (first_chunks 2 (length dirs / 2) dirs)))) ≡ hashes_within state dirs text n
rows-within state dirs text n h =
    ap (λ (ds : List (List ℕ)). joined_lists (map (hashes_after state) ds)) (first-texts text n (length dirs / 2) dirs h (omega arith))

-- the hashes of what stands behind the set's name and a separator
map_same : (f g : List ℕ → ℕ) → ((b : List ℕ) → f b ≡ g b) → (bs : List (List ℕ)) → map f bs ≡ map g bs
map_same f g e [] = refl
map_same f g e (b ∷ bs) = cc (e b, map_same f g e bs)

behind-lead : (name d : List ℕ) → hashes_after (hash_of (led name)) d ≡ directory_hashes name d
behind-lead name d =
    map_same (λ (b : List ℕ). crc_from (hash_of (led name)) (map lower b)) (λ (b : List ℕ). hash_of (led name ++ b)) (λ b. crc-lower 0 (led name) b) (beginnings d)

map-same-lists : (f g : List ℕ → List ℕ) → ((d : List ℕ) → f d ≡ g d) → (ds : List (List ℕ)) → map f ds ≡ map g ds
map-same-lists f g e [] = refl
map-same-lists f g e (d ∷ ds) = cc (e d, map-same-lists f g e ds)

pub all-within : (fs : FileStorage) (dirs text : List ℕ) → hashes_within (hash_of (led (text_at text fs.name))) dirs text fs.num_paths ≡ hashes_of fs dirs text
all-within fs dirs text =
    let name = text_at text fs.name in
    ap joined_lists (map-same-lists (hashes_after (hash_of (led name))) (directory_hashes name) (behind-lead name) (tabled fs.num_paths (λ i. text_at text (dir_at dirs i))))
