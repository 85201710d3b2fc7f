-- Laws of the questions through the renames: what a rename that was found tells, a leaf's place, and that on tables in order the
-- answers are those of the list of renames. They rely on the laws of `renames` about renames that are read back.
use Rattle.std.specs.Prelude.{Option, Some, None, MatchOption, Result, Ok, Err, IsErrAnd}
use Prim.Native.Nat.{ℕ, ◌+◌, ◌-◌, ◌≤◌}
use mathlib.Core.Path.{◌≡◌, refl, sym, ap, ◌∙◌}
use mathlib.Core.Bool.{Bool, true, false, cond, not, ◌&&◌}
use mathlib.Core.List.{List, ◌∷◌, ◌++◌}
use native.Mathlib.Omega.{arith}
use lib.Dec.{eqb}
use lib.IntN.{ℤ}
use lib.ListN.{length, get_or, take, drop, length-append, length-drop}
use lib.Seq.{drop-append-add, length-take-le, take-length}
use Rattle.lists.specs.Lists.{part_of, any}
use Rattle.lists.proofs.Parts.{drop-take, part-part-within, part_length}
use Rattle.path.specs.Split.{is_separator, trimmed, before_last, after_last, rsplit_leaf}
use Rattle.path.proofs.Ends.{trim-yes, trim-no}
use Rattle.path.proofs.Splits.{last-parts, leaf-all}
use Rattle.types.specs.declared.refusal.Refusal.{Refusal}
use Rattle.types.specs.Refusals.{number_of, value, refused}
use Rattle.tables.specs.declared.storage.FileStorage.{FileStorage}
use Rattle.tables.specs.declared.span.Span.{Span}
use Rattle.tables.specs.Span.{text_at}
use Rattle.tables.specs.Rows.{row_at, is_absolute}
use Rattle.rules.specs.Rules.{outcome_of}
use Rattle.rules.specs.Bounds.{bad_length, clamped_of, is_below}
use Rattle.rules.specs.Questions.{few_entries, file_answer, rows_are_held, text_held}
use Rattle.renames.specs.declared.rename.Rename.{Rename}
use Rattle.renames.specs.declared.rename.RenamedFiles.{RenamedFiles}
use Rattle.renames.specs.Renames.{Renamed, renames_of, renames_held, in_order}
use Rattle.renames.specs.Finding.{rename_for, rename_found, find_given}
use Rattle.renames.proofs.Finding.{read_found, renamed-found, read_as, read-if}
use Rattle.renames.proofs.Deciding.{asked-own}
use Rattle.answers.specs.Given.{file_absolute_path_given, file_name_given}
use Rattle.renamed.specs.declared.result.FileName.{FileName}
use Rattle.renamed.specs.Results.{name_says}
use Rattle.renamed.proofs.Deciding.{asked-refused, asked-disorder, asked-value}
use Rattle.renamed.specs.Questions.{renamed_absolute, is_by_itself, NameSpan, in_set, in_renames, leaf_span, name_span, name_given, absolute_given}

-- ---- what a rename that was found tells

module _ {A : Type 0} (a : A) where
  told : (o : Bool) (x : A) → value x ≡ outcome_of (cond (not o) 10 0) a → (o ≡ true) × (x ≡ a)
  told true x e = (refl, cc)
  told false x e = absurd (let z : ◌≡◌ {A = ℕ} 0 1 = cc in omega arith)

  untold : (o : Bool) (m : ℕ) → refused m ≡ outcome_of (cond (not o) 10 0) a → (o ≡ false) × (m ≡ 10)
  untold true m e = absurd (let z : ◌≡◌ {A = ℕ} 0 1 = cc in omega arith)
  untold false m e = (refl, cc)

module _ (rf : RenamedFiles) (e t : List ℕ) (k : ℕ) where
  pub found-value : (x : Option Rename) → value x ≡ find_given rf e (length t) k → (renames_held rf e (length t) ≡ true) × (rename_found rf e k ≡ x)
  found-value x p = let w = told (rename_found rf e k) (renames_held rf e (length t)) x p in (w.0, sym w.1)

  pub found-refused : (m : ℕ) → refused m ≡ find_given rf e (length t) k → (renames_held rf e (length t) ≡ false) × (m ≡ 10)
  found-refused m p = untold (rename_found rf e k) (renames_held rf e (length t)) m p

-- the set's own answer about a file first, then that of its rename
module _ {A B : Type 0} (fs : FileStorage) (z : ℤ) (held : Bool) (rf : RenamedFiles) (e t : List ℕ) (own : ℕ → A) (new : ℕ → B) (v : A)
    (h : value v ≡ file_answer fs z held own) where
  rename-refused : (m : ℕ) → refused m ≡ find_given rf e (length t) (clamped_of z) → refused m ≡ file_answer fs z (held && renames_held rf e (length t)) new
  rename-refused m p =
      let w = found-refused rf e t (clamped_of z) m p in
      ap refused w.1 ∙ asked-disorder fs z held (renames_held rf e (length t)) own new v h w.0

  rename-told : (x : Option Rename) → value x ≡ find_given rf e (length t) (clamped_of z)
      → (w : B) → (rename_found rf e (clamped_of z) ≡ x → w ≡ new (clamped_of z)) → value w ≡ file_answer fs z (held && renames_held rf e (length t)) new
  rename-told x p w q =
      let f = found-value rf e t (clamped_of z) x p in
      asked-value fs z held (renames_held rf e (length t)) own new v h f.0 w (q f.1)

-- ---- whether a file's path is absolute

module _ (fs : FileStorage) (rows : List ℕ) (rf : RenamedFiles) (e t : List ℕ) (z : ℤ) where
  abbrev own_absolute : ℕ → Bool
  own_absolute k = is_absolute (row_at rows k)

  abbrev new_absolute : ℕ → Bool
  new_absolute k = renamed_absolute (rename_found rf e k) (own_absolute k)

  module _ (own : Bool) (h : value own ≡ file_absolute_path_given fs rows z) where
    pub absolute-said : (x : Option Rename) → value x ≡ find_given rf e (length t) (clamped_of z)
        → (w : Bool) → MatchOption x (w ≡ own) (λ r. w ≡ is_by_itself r.mode) → value w ≡ absolute_given fs rows rf e t z
    absolute-said None p w q =
        rename-told fs z (rows_are_held fs rows) rf e t own_absolute new_absolute own h None p w
        (λ none. rw none (q ∙ asked-own fs z (rows_are_held fs rows) own_absolute own h))
    absolute-said (Some r) p w q = rename-told fs z (rows_are_held fs rows) rf e t own_absolute new_absolute own h (Some r) p w (λ one. rw one q)

-- ---- where a file's name lies

-- what the exit of a `?` says of a name
pub exit_name : (r : Result FileName Refusal) (e : Refusal) → IsErrAnd r (λ x. x ≡ e) → name_says r ≡ refused (number_of e)
exit_name (Ok a) e h = absurd h
exit_name (Err x) e h = ap (λ y. refused (number_of y)) h

module _ (fs : FileStorage) (rows text : List ℕ) (rf : RenamedFiles) (e t : List ℕ) (z : ℤ) where
  abbrev own_name : ℕ → Span
  own_name k = (row_at rows k).name

  abbrev new_name : ℕ → NameSpan
  new_name k = name_span t (own_name k) (rename_found rf e k)

  pub name-refused : (m : ℕ) → refused m ≡ file_name_given fs rows text z → refused m ≡ name_given fs rows text rf e t z
  name-refused = asked-refused fs z (rows_are_held fs rows && text_held fs text) (renames_held rf e (length t)) own_name new_name

  pub name-disorder : (own : Span) → value own ≡ file_name_given fs rows text z
      → (m : ℕ) → refused m ≡ find_given rf e (length t) (clamped_of z) → refused m ≡ name_given fs rows text rf e t z
  name-disorder own h = rename-refused fs z (rows_are_held fs rows && text_held fs text) rf e t own_name new_name own h

-- ---- a leaf's place

-- what stands behind the last separator is the end of the path
end_of : (x a b : List ℕ) → x ≡ a ++ (47 ∷ b) → b ≡ drop (length x - length b) x
end_of x a b e =
    let n : length (a ++ (47 ∷ b)) - length b ≡ length a + 1 = omega (arith, length-append a (47 ∷ b)) in
    rw (e, n, drop-append-add a (47 ∷ b) 1)

behind-end : (x : List ℕ) → after_last x ≡ drop (length x - length (after_last x)) x
behind-end x = at (any is_separator x) refl
  where
    at : (b : Bool) → any is_separator x ≡ b → after_last x ≡ drop (length x - length (after_last x)) x
    at true q = end_of x (before_last x) (after_last x) (last-parts x q)
    at false q = let w = leaf-all x q in let z : length x - length x ≡ 0 = omega arith in rw (w, z)

-- the leaf of the n bytes at a place, k of them being left once a separator at the end is dropped
module _ (l : List ℕ) (at n k : ℕ) (leaf : List ℕ) (b : k ≤ length (part_of l at n)) (trim : take k (part_of l at n) ≡ trimmed is_separator (part_of l at n))
    (e : leaf ≡ rsplit_leaf (part_of l at n)) where
  leaf-end : leaf ≡ drop (k - length leaf) (take k (part_of l at n))
  leaf-end =
      let x = take k (part_of l at n) in
      let s : leaf ≡ after_last x = e ∙ rw trim in
      let c = length-take-le k (part_of l at n) b in
      s ∙ behind-end x ∙ rw (c, ← s)

  leaf-short : length leaf ≤ k
  leaf-short = omega (arith, ap length leaf-end, length-drop (k - length leaf) (take k (part_of l at n)), length-take-le k (part_of l at n) b)

  pub leaf-place : (m : ℕ) → m ≡ k - length leaf → part_of l (at + m) (length leaf) ≡ rsplit_leaf (part_of l at n)
  leaf-place m h =
      let s = leaf-short in
      let w : k - (k - length leaf) ≡ length leaf = omega arith in
      let inner : part_of (part_of l at n) (k - length leaf) (length leaf) ≡ leaf = sym (leaf-end ∙ drop-take (k - length leaf) k (part_of l at n) ∙ rw w) in
      rw h (sym (part-part-within l at n (k - length leaf) (length leaf) (omega (arith, part_length l at n))) ∙ inner ∙ e)

-- the place of the leaf, and what stands there
trimmed-front : (x : List ℕ) → (length (trimmed is_separator x) ≤ length x) × (take (length (trimmed is_separator x)) x ≡ trimmed is_separator x)
trimmed-front x = at (is_separator (get_or x (length x - 1) 0)) refl
  where
    at : (b : Bool) → is_separator (get_or x (length x - 1) 0) ≡ b
        → (length (trimmed is_separator x) ≤ length x) × (take (length (trimmed is_separator x)) x ≡ trimmed is_separator x)
    at true q =
        let w = trim-yes is_separator refl x (length x - 1) refl q in
        let n : length (trimmed is_separator x) ≡ length x - 1 = sym (ap length w) ∙ length-take-le (length x - 1) x (omega arith) in
        (omega arith, ap (λ (k : ℕ). take k x) n ∙ w)
    at false q =
        let w = trim-no is_separator refl x (length x - 1) refl q in
        (omega (arith, ap length w), ap (λ (k : ℕ). take k x) (sym (ap length w)) ∙ take-length x ∙ w)

pub leaf-text : (l : List ℕ) (s : Span) → text_at l (leaf_span l s) ≡ rsplit_leaf (text_at l s)
leaf-text l s =
    let f = trimmed-front (text_at l s) in
    leaf-place l s.at s.len (length (trimmed is_separator (text_at l s))) (rsplit_leaf (text_at l s)) f.0 f.1 refl
    (length (trimmed is_separator (text_at l s)) - length (rsplit_leaf (text_at l s))) refl

-- ---- what is read through a rename of the list

-- the leaf of the rename, or the set's own name
abbrev pub renamed_name : Option Renamed → List ℕ → List ℕ
renamed_name None own = own
renamed_name (Some r) own = rsplit_leaf r.name

abbrev pub listed_absolute : Option Renamed → Bool → Bool
listed_absolute None own = own
listed_absolute (Some r) own = is_by_itself r.mode

-- the text at a place of a name, in the text area of the set or in that of the renames
abbrev pub read_name : List ℕ → List ℕ → NameSpan → List ℕ
read_name text names (in_set s) = text_at text s
read_name text names (in_renames s) = text_at names s

name-if : (text t : List ℕ) (own : Span) (o : Option Rename) → read_name text t (name_span t own o) ≡ renamed_name (read_found t o) (text_at text own)
name-if text t own None = refl
name-if text t own (Some r) = leaf-text t r.name

-- on tables in order the name of a file is the leaf of its rename in the list of renames, or its own, and whether its path is
-- absolute is said by that rename or by its own row
module _ (fs : FileStorage) (rows text : List ℕ) (rf : RenamedFiles) (e names : List ℕ) (z : ℤ) (ordered : in_order rf e names ≡ true) where
  abbrev k : ℕ
  k = clamped_of z

  abbrev held : Bool
  held = renames_held rf e (length names)

  abbrev number : Bool → ℕ
  number all = cond (bad_length fs.piece_length) 1 (cond (not (is_below fs.num_files z)) 11 (cond (not (all && few_entries fs)) 10 0))

  pub name-said : read_as (read_name text names) (name_given fs rows text rf e names z)
      ≡ file_answer fs z ((rows_are_held fs rows && text_held fs text) && renames_held rf e (length names))
      (λ k. renamed_name (rename_for k (renames_of rf e names)) (text_at text (row_at rows k).name))
  name-said =
      let own = (row_at rows k).name in
      let f = rename_found rf e k in
      let m = number ((rows_are_held fs rows && text_held fs text) && held) in
      read-if (read_name text names) (eqb m 0) m (name_span names own f)
      ∙ ap (outcome_of m) (name-if text names own f ∙ ap (λ (x : Option Renamed). renamed_name x (text_at text own)) (sym (renamed-found rf e names k ordered)))

  absolute-if : (o : Option Rename) (own : Bool) → renamed_absolute o own ≡ listed_absolute (read_found names o) own
  absolute-if None own = refl
  absolute-if (Some r) own = refl

  pub absolute-listed : absolute_given fs rows rf e names z
      ≡ file_answer fs z (rows_are_held fs rows && renames_held rf e (length names))
      (λ k. listed_absolute (rename_for k (renames_of rf e names)) (is_absolute (row_at rows k)))
  absolute-listed =
      let own = is_absolute (row_at rows k) in
      ap (outcome_of (number (rows_are_held fs rows && held)))
      (absolute-if (rename_found rf e k) own ∙ ap (λ (x : Option Renamed). listed_absolute x own) (sym (renamed-found rf e names k ordered)))
