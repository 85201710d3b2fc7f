-- Laws of the texts of an addition: what each span of the path reads, what the tests on names look at, and that the parts
-- lie within the path. Relies on the laws of splits of `path`.
use Rattle.std.specs.Prelude.{Option, Some, None}
use Prim.Native.Nat.{ℕ, suc, ◌+◌, ◌-◌, ◌≤◌, ◌<◌}
use mathlib.Core.Path.{◌≡◌, refl, sym, ap, ◌∙◌}
use mathlib.Core.Bool.{Bool, true, false, cond, true≢false}
use mathlib.Core.List.{List, [], ◌∷◌, ◌++◌, append_assoc}
use native.Mathlib.Omega.{arith}
use lib.Dec.{eqb}
use lib.ListN.{length, take, drop, length-append, length-drop, drop_of_length-le, take-append-drop}
use lib.Seq.{take-length, take-append_seam, drop-append_seam}
use Rattle.std.specs.List.{prefix_len}
use Rattle.std.proofs.lemmas.List.Sums.{prefix_len-le-length}
use Rattle.lists.specs.Lists.{any, equal, part_of}
use Rattle.path.specs.Split.{is_separator, is_either, trimmed_from, trimmed, has_parent_path, before_last, after_last, before_first, after_first, skipped, is_complete, rsplit_branch, rsplit_leaf, lsplit_first, lsplit_rest}
use Rattle.path.specs.Join.{is_empty}
use Rattle.path.proofs.Splits.{last-parts, leaf-all, branch-none, first-parts, first-all, rest-none}
use Rattle.path.proofs.Ends.{trimmed-rest}
use Rattle.tables.specs.declared.span.Span.{Span}
use Rattle.tables.specs.Span.{text_at, leaf_span}
use Rattle.additions.specs.declared.parts.PathKind.{PathKind}
use Rattle.additions.specs.declared.parts.PathKind.TheVariants.{Single, Absolute, Inside, Outside}
use Rattle.additions.specs.declared.parts.Place.{Place}
use Rattle.additions.specs.declared.parts.PathParts.{PathParts}
use Rattle.additions.specs.Addition.{set_name_of, name_after, without_leading, path_name, stored_name, limited_name, bad_name}
use Rattle.additions.specs.private.Texts.{name_from, set_text_of, text_under, absolute_kind, PartsWithin, place_for}
use Rattle.additions.specs.Parts.{kind_for, no_span, whole_span, first_span, set_name_span, name_span, directory_span, parts_of}
use Rattle.additions.specs.private.Checks.{limited_length, bad_beside}

-- what a span at the end of a part reads. A list ends in x:
abbrev pub Ends : List ℕ → List ℕ → Type 0
Ends x l = (p : List ℕ) × (l ≡ p ++ x)

ends-trans : {x y z : List ℕ} → Ends x y → Ends y z → Ends x z
ends-trans {x} v w = (w.0 ++ v.0, w.1 ∙ ap (λ (l : List ℕ). w.0 ++ l) v.1 ∙ sym (append_assoc w.0 v.0 x))

read-within : (p x r : List ℕ) → part_of (p ++ (x ++ r)) (length p) (length x) ≡ x
read-within p x r = ap (take (length x)) (drop-append_seam p (x ++ r)) ∙ take-append_seam x r

read-end : (path l x r : List ℕ) → path ≡ l ++ r → Ends x l → part_of path (length l - length x) (length x) ≡ x
read-end path l x r e w =
    let n : length l - length x ≡ length w.0 = omega (arith, ap length w.1, length-append w.0 x) in
    ap (λ (k : ℕ). part_of path k (length x)) n
    ∙ ap (λ (s : List ℕ). part_of s (length w.0) (length x)) (e ∙ ap (λ (s : List ℕ). s ++ r) w.1 ∙ append_assoc w.0 x r)
    ∙ read-within w.0 x r

-- a path's leaf ends it, once a separator at the end is dropped
leaf-ends : (q : List ℕ) → Ends (after_last q) q
leaf-ends q = at (any is_separator q) refl
  where
    at : (t : Bool) → any is_separator q ≡ t → Ends (after_last q) q
    at true e = (before_last q ++ (47 ∷ []), last-parts q e ∙ sym (append_assoc (before_last q) (47 ∷ []) (after_last q)))
    at false e = ([], sym (leaf-all q e))

-- the name that a path gives its file
pub name-read : (path : List ℕ) → text_at path (name_span path) ≡ path_name path
name-read path = at (is_complete path)
  where
    at : (t : Bool) → text_at path (cond t (whole_span path) (leaf_span path)) ≡ cond t path (rsplit_leaf path)
    at true = take-length path
    at false =
        let w = trimmed-rest is_separator path in
        read-end path (trimmed is_separator path) (rsplit_leaf path) w.0 w.1 (leaf-ends (trimmed is_separator path))

-- and that which it gives a set
first-at : (q : List ℕ) → take (length (before_first q)) q ≡ before_first q
first-at q = at (any is_separator q) refl
  where
    at : (t : Bool) → any is_separator q ≡ t → take (length (before_first q)) q ≡ before_first q
    at true e = ap (take (length (before_first q))) (first-parts q e) ∙ take-append_seam (before_first q) (47 ∷ after_first q)
    at false e = ap (λ (l : List ℕ). take (length l) q) (first-all q e) ∙ take-length q ∙ sym (first-all q e)

pub set-read : (files : ℕ) (path : List ℕ) → text_at path (set_name_span files (has_parent_path path) path) ≡ set_text_of files path
set-read files path = at (eqb files 0) (has_parent_path path)
  where
    at : (t u : Bool) → text_at path (cond t (cond u (first_span path) (whole_span path)) no_span) ≡ cond t (cond u (lsplit_first path) path) []
    at true true = first-at (skipped path)
    at true false = take-length path
    at false u = refl

-- the set's name after an addition, by the text that the path gives it
pub named-after : (files : ℕ) (path called name : List ℕ) → called ≡ set_text_of files path → cond (eqb files 0) called name ≡ name_after files name path
named-after files path called name e = ap (λ (l : List ℕ). cond (eqb files 0) l name) e ∙ at (eqb files 0)
  where
    at : (t : Bool) → cond t (cond t (set_name_of path) []) name ≡ cond t (set_name_of path) name
    at true = refl
    at false = refl

-- a directory's text
branch-first : (q r : List ℕ) → (s : List ℕ) × (q ++ r ≡ before_last q ++ s)
branch-first q r = at (any is_separator q) refl
  where
    at : (t : Bool) → any is_separator q ≡ t → (s : List ℕ) × (q ++ r ≡ before_last q ++ s)
    at true e =
        ((47 ∷ after_last q) ++ r, ap (λ (l : List ℕ). l ++ r) (last-parts q e) ∙ append_assoc (before_last q) (47 ∷ after_last q) r)
    at false e = (q ++ r, ap (λ (l : List ℕ). l ++ (q ++ r)) (sym (branch-none q e)))

branch_leads : (path : List ℕ) → (s : List ℕ) × (path ≡ rsplit_branch path ++ s)
branch_leads path =
    let w = trimmed-rest is_separator path in
    let b = branch-first (trimmed is_separator path) w.0 in
    (b.0, w.1 ∙ b.1)

unled-ends : (l : List ℕ) → Ends (without_leading l) l
unled-ends [] = ([], refl)
unled-ends (c ∷ t) = at (is_separator c) (unled-ends t)
  where
    at : (b : Bool) → Ends (without_leading t) t → Ends (cond b (without_leading t) (c ∷ t)) (c ∷ t)
    at true w = (c ∷ w.0, ap (λ (l : List ℕ). c ∷ l) w.1)
    at false w = ([], refl)

behind-ends : (l : List ℕ) → Ends (after_first l) l
behind-ends [] = ([], refl)
behind-ends (c ∷ t) = at (is_separator c) (behind-ends t)
  where
    at : (b : Bool) → Ends (after_first t) t → Ends (cond b t (after_first t)) (c ∷ t)
    at true w = (c ∷ [], refl)
    at false w = (c ∷ w.0, ap (λ (l : List ℕ). c ∷ l) w.1)

skipped_ends : (l : List ℕ) → Ends (skipped l) l
skipped_ends l = (take (cond (is_complete l) 1 0) l, sym (take-append-drop (cond (is_complete l) 1 0) l))

ends-le : (x l : List ℕ) → Ends x l → length x ≤ length l
ends-le x l w = omega (arith, ap length w.1, length-append w.0 x)

directory-ends : (b : List ℕ) → Ends (without_leading (lsplit_rest b)) b
directory-ends b = ends-trans (unled-ends (lsplit_rest b)) (ends-trans (behind-ends (skipped b)) (skipped_ends b))

pub directory-read : (kind : PathKind) (path : List ℕ) → text_at path (directory_span kind (rsplit_branch path)) ≡ text_under kind (rsplit_branch path)
directory-read Single path = refl
directory-read Absolute path = refl
directory-read Inside path =
    let b = branch_leads path in
    read-end path (rsplit_branch path) (without_leading (lsplit_rest (rsplit_branch path))) b.0 b.1
    (directory-ends (rsplit_branch path))
directory-read Outside path =
    let b = branch_leads path in
    ap (take (length (rsplit_branch path))) b.1 ∙ take-append_seam (rsplit_branch path) b.0

-- all parts of a path, each by the one before it
module _ (files : ℕ) (old path : List ℕ) where
  pub parts_are : {leaf name set : Span} {called : List ℕ} {place : Place} {parent : Bool}
      → leaf ≡ leaf_span path
      → name ≡ cond (is_complete path) (whole_span path) leaf
      → parent ≡ has_parent_path path
      → set ≡ set_name_span files parent path
      → called ≡ cond (eqb files 0) (text_at path set) old
      → place ≡ place_for called path
      → ◌≡◌ {A = PathParts} (record { leaf = leaf; name = name; set_name = set; directory = place.directory; kind = place.kind; has_parent = parent })
      (parts_of files old path)
  parts_are {leaf} {name} {set} {called} {place} {parent} el en ep es ec ek =
      let s : set ≡ set_name_span files (has_parent_path path) path = es ∙ ap (λ (b : Bool). set_name_span files b path) ep in
      let l : place ≡ place_for (name_after files old path) path =
      ek ∙ ap (λ (x : List ℕ). place_for x path) (ec ∙ named-after files path (text_at path set) old (ap (text_at path) s ∙ set-read files path)) in
      let k : place.kind ≡ kind_for (name_after files old path) path = ap (λ (x : Place). x.kind) l in
      let d : place.directory ≡ directory_span (kind_for (name_after files old path) path) (rsplit_branch path) = ap (λ (x : Place). x.directory) l in
      let n : name ≡ name_span path = en ∙ ap (cond (is_complete path) (whole_span path)) el in
      same el n s d k ep
    where
      same : {a a' b b' c c' d d' : Span} {k k' : PathKind} {p p' : Bool} → a ≡ a' → b ≡ b' → c ≡ c' → d ≡ d' → k ≡ k' → p ≡ p'
          → ◌≡◌ {A = PathParts} (record { leaf = a; name = b; set_name = c; directory = d; kind = k; has_parent = p })
          (record { leaf = a'; name = b'; set_name = c'; directory = d'; kind = k'; has_parent = p' })
      same e f g h i j = cc

-- what stands from the separators after a text's first part on is the rest without separators at its start
unled-rest : (q : List ℕ) → without_leading (drop (length (before_first q)) q) ≡ without_leading (after_first q)
unled-rest q = at (any is_separator q) refl
  where
    at : (t : Bool) → any is_separator q ≡ t → without_leading (drop (length (before_first q)) q) ≡ without_leading (after_first q)
    at true e =
        ap without_leading (ap (drop (length (before_first q))) (first-parts q e) ∙ drop-append_seam (before_first q) (47 ∷ after_first q))
    at false e =
        ap without_leading (drop_of_length-le q {i = length (before_first q)} (omega (arith, ap length (first-all q e))) ∙ sym (rest-none q e))

-- what stands before a text's first separator is no longer than the text
pub before-le : (q : List ℕ) → length (before_first q) ≤ length q
before-le [] = omega arith
before-le (c ∷ t) = at (is_separator c) (before-le t)
  where
    at : (b : Bool) → length (before_first t) ≤ length t → length (cond b [] (c ∷ before_first t)) ≤ suc (length t)
    at true h = omega arith
    at false h = omega (arith, h)

skipped-plain : (b : List ℕ) → is_complete b ≡ false → skipped b ≡ b
skipped-plain b h = rw h

-- a text without the separators at its start is what stands after them
unled-is : (l : List ℕ) → without_leading l ≡ drop (prefix_len is_separator l) l
unled-is [] = refl
unled-is (c ∷ t) = at (is_separator c) (unled-is t)
  where
    at : (b : Bool) → without_leading t ≡ drop (prefix_len is_separator t) t
        → cond b (without_leading t) (c ∷ t) ≡ drop (cond b (1 + prefix_len is_separator t) 0) (c ∷ t)
    at true e = let z : 1 + prefix_len is_separator t ≡ suc (prefix_len is_separator t) = omega arith in rw z e
    at false e = refl

-- the first part of a branch that doesn't begin with a separator
module _ (b : List ℕ) (h : is_complete b ≡ false) where
  first-value : length (lsplit_first b) ≡ length (before_first b)
  first-value = ap (λ (l : List ℕ). length (before_first l)) (skipped-plain b h)

  pub first_le : length (lsplit_first b) ≤ length b
  first_le = omega (arith, first-value, before-le b)

  -- a directory's text under the set's name
  pub inside_is : (first n : ℕ) → first ≡ length (lsplit_first b) → n ≡ prefix_len is_separator (drop first b)
      → ◌≡◌ {A = Span} (record { at = first + n; len = length (drop first b) - n }) (directory_span Inside b)
  inside_is first n e d =
      let w : without_leading (drop first b) ≡ without_leading (lsplit_rest b) =
      ap (λ (k : ℕ). without_leading (drop k b)) (e ∙ first-value) ∙ unled-rest b ∙ ap (λ (l : List ℕ). without_leading (after_first l)) (sym (skipped-plain b h)) in
      let m : length (without_leading (lsplit_rest b)) ≡ length b - first - n =
      ap length (sym w ∙ unled-is (drop first b) ∙ ap (λ (k : ℕ). drop k (drop first b)) (sym d)) ∙ rw (length-drop, length-drop) in
      let k : n ≤ length (drop first b) = omega (arith, d, prefix_len-le-length is_separator (drop first b)) in
      let l : first ≤ length b = omega (arith, e, first_le) in
      same (omega (arith, m, k, l, length-drop first b)) (omega (arith, m, length-drop first b))
    where
      same : {a a' m m' : ℕ} → a ≡ a' → m ≡ m' → ◌≡◌ {A = Span} (record { at = a; len = m }) (record { at = a'; len = m' })
      same f g = cc

-- the branch of a path that is not absolute
pub branch-plain : (path : List ℕ) → is_complete path ≡ false → is_complete (rsplit_branch path) ≡ false
branch-plain path h = at (rsplit_branch path) (branch_leads path).0 (branch_leads path).1
  where
    at : (q s : List ℕ) → path ≡ q ++ s → is_complete q ≡ false
    at [] s e = refl
    at (c ∷ t) s e = sym (ap is_complete e) ∙ h

-- a path with no separator of either kind, but for one at its end, is no longer than its leaf and that one
no-either : (s b r : Bool) → cond (cond s true b) true r ≡ false → (s ≡ false) × (r ≡ false)
no-either true b r e = absurd (true≢false e)
no-either false true r e = absurd (true≢false e)
no-either false false r e = (refl, e)

ends-clear : (c : ℕ) (s : Bool) → is_separator c ≡ s → any is_separator (cond s [] (c ∷ [])) ≡ false
ends-clear c true e = refl
ends-clear c false e = rw e

clear-from : (c : ℕ) (t : List ℕ) → any is_either (trimmed_from is_either c t) ≡ false → any is_separator (trimmed_from is_separator c t) ≡ false
clear-from c [] e = ends-clear c (is_separator c) refl
clear-from c (d ∷ t) e =
    let n = no-either (is_separator c) (eqb c 92) (any is_either (trimmed_from is_either d t)) e in
    rw n.0 (clear-from d t n.1)

trimmed-clear : (p : List ℕ) → has_parent_path p ≡ false → any is_separator (trimmed is_separator p) ≡ false
trimmed-clear [] e = refl
trimmed-clear (c ∷ t) e = clear-from c t e

length_from : (c : ℕ) (t : List ℕ) → length t ≤ length (trimmed_from is_separator c t)
length_from c [] = omega arith
length_from c (d ∷ t) = omega (arith, length_from d t)

trimmed-length : (p : List ℕ) → length p ≤ length (trimmed is_separator p) + 1
trimmed-length [] = omega arith
trimmed-length (c ∷ t) = omega (arith, length_from c t)

pub parent_above : (p leaf : List ℕ) → leaf ≡ rsplit_leaf p → length leaf + 1 < length p → has_parent_path p ≡ true
parent_above p leaf e h = at (has_parent_path p) refl
  where
    at : (t : Bool) → has_parent_path p ≡ t → t ≡ true
    at true q = refl
    at false q = absurd (omega (arith, trimmed-length p, ap length e ∙ ap length (leaf-all (trimmed is_separator p) (trimmed-clear p q))))

-- the name that is stored
pub name-is : (given : Option (List ℕ)) (path own : List ℕ) → own ≡ path_name path → name_from given own ≡ stored_name given path
name-is None path own f = f
name-is (Some given) path own f = ap (λ (n : List ℕ). cond (is_empty given) n given) f

-- the name that refusal 5 looks at, and refusal 6
pub limited-is : (given : Option (List ℕ)) (path : List ℕ) → limited_length given (length (rsplit_leaf path)) ≡ length (limited_name given path)
limited-is None path = refl
limited-is (Some given) path = refl

absolute-is : (a b c : Bool) → absolute_kind (cond a Absolute (cond b Single (cond c Inside Outside))) ≡ a
absolute-is true b c = refl
absolute-is false true c = refl
absolute-is false false true = refl
absolute-is false false false = refl

pub bad-is : (given : Option (List ℕ)) (name path : List ℕ) → bad_beside given (absolute_kind (kind_for name path)) ≡ bad_name given path
bad-is None name path = refl
bad-is (Some given) name path =
    ap (λ (t : Bool). bad_beside (Some given) t) (absolute-is (is_complete path) (is_empty (rsplit_branch path)) (equal (lsplit_first (rsplit_branch path)) name))

-- ---- the parts lie within the path

trimmed-le : (path : List ℕ) → length (trimmed is_separator path) ≤ length path
trimmed-le path =
    let w = trimmed-rest is_separator path in
    omega (arith, ap length w.1, length-append (trimmed is_separator path) w.0)

branch-le : (path : List ℕ) → length (rsplit_branch path) ≤ length path
branch-le path =
    let w = branch_leads path in
    omega (arith, ap length w.1, length-append (rsplit_branch path) w.0)

end-within : (x l : List ℕ) (n : ℕ) → Ends x l → length l ≤ n → length l - length x + length x ≤ n
end-within x l n w h = let k = ends-le x l w in omega (arith, k, h)

name-within : (path : List ℕ) → (name_span path).at + (name_span path).len ≤ length path
name-within path = at (is_complete path)
  where
    at : (t : Bool) → (cond t (whole_span path) (leaf_span path)).at + (cond t (whole_span path) (leaf_span path)).len ≤ length path
    at true = omega arith
    at false =
        end-within (rsplit_leaf path) (trimmed is_separator path) (length path) (leaf-ends (trimmed is_separator path)) (trimmed-le path)

first-within : (path : List ℕ) → (first_span path).at + (first_span path).len ≤ length path
first-within [] = omega arith
first-within (c ∷ t) = at (is_separator c)
  where
    at : (b : Bool) → cond b 1 0 + length (before_first (drop (cond b 1 0) (c ∷ t))) ≤ suc (length t)
    at true = let h = before-le t in omega (arith, h)
    at false = let h = before-le (c ∷ t) in omega (arith, h)

set-within : (files : ℕ) (path : List ℕ)
    → (set_name_span files (has_parent_path path) path).at + (set_name_span files (has_parent_path path) path).len ≤ length path
set-within files path = at (eqb files 0) (has_parent_path path)
  where
    at : (t u : Bool) → (cond t (cond u (first_span path) (whole_span path)) no_span).at + (cond t (cond u (first_span path) (whole_span path)) no_span).len ≤ length path
    at true true = first-within path
    at true false = omega arith
    at false u = omega arith

directory-within : (kind : PathKind) (path : List ℕ)
    → (directory_span kind (rsplit_branch path)).at + (directory_span kind (rsplit_branch path)).len ≤ length path
directory-within Single path = omega arith
directory-within Absolute path = omega arith
directory-within Inside path =
    end-within (without_leading (lsplit_rest (rsplit_branch path))) (rsplit_branch path) (length path)
    (directory-ends (rsplit_branch path))
    (branch-le path)
directory-within Outside path = let h = branch-le path in omega (arith, h)

pub parts_within : (files : ℕ) (name path : List ℕ) → PartsWithin (length path) (parts_of files name path)
parts_within files name path =
    record {
      set-name = set-within files path;
      directory = directory-within (kind_for (name_after files name path) path) path;
      name = name-within path;
    }
