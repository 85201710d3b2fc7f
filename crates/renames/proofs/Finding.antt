-- Laws of a rename read back: where the search for a file's rename stops, there it is or nowhere; rename i is one of the list. They
-- rely on the laws of proofs/Ordered.antt, proofs/Readings.antt and proofs/Decisions.antt.
use Rattle.std.specs.Prelude.{Option, Some, None}
use Prim.Native.Nat.{ℕ, zero, suc, ◌+◌, ◌-◌, ◌*◌, ◌/◌, ◌%◌, ◌≤◌, ◌<◌}
use mathlib.Core.Path.{◌≡◌, refl, sym, ap, ◌∙◌}
use mathlib.Core.Bool.{Bool, true, false, cond, false≢true, ◌&&◌}
use mathlib.Core.Logic.{◌⊎◌, inl, inr}
use mathlib.Core.List.{List, [], ◌∷◌}
use native.Mathlib.Nat.{zero-add, add-zero, mod-eq_of_lt}
use native.Mathlib.Omega.{arith}
use borrow.Author.Tests.{ltb-true, lt-ltb, le-ltb, le-leb, lt-leb, eq-eqb, ne_eqb}
use lib.Dec.{eqb, ltb, leb}
use lib.IntN.{ℤ}
use lib.ListN.{length, get_or, take, drop}
use lib.Seq.{drop-drop}
use Rattle.lists.proofs.Orders.{le-or-lt}
use Rattle.types.specs.Refusals.{Outcome, value, refused}
use Rattle.tables.specs.Span.{text_at}
use Rattle.rules.specs.Rules.{when, first_of, outcome_of}
use Rattle.rules.specs.Bounds.{clamped_of}
use Rattle.renames.specs.declared.rename.RenameMode.{RenameMode}
use Rattle.renames.specs.declared.rename.RenameMode.TheVariants.{FullPath}
use Rattle.renames.specs.declared.rename.Rename.{Rename}
use Rattle.renames.specs.declared.rename.RenamedFiles.{RenamedFiles}
use Rattle.renames.specs.Renames.{Renamed, mode_of, renames_from, renames_of, ordered_from, placed_from, in_order}
use Rattle.renames.specs.Finding.{rename_in, rename_for, rename_found, exported}
use Rattle.renames.specs.Finding.{entry_is_named, entry_sought}
use Rattle.renames.specs.private.Slots.{bytes_from}
use Rattle.renames.proofs.Halves.{below_from, sought-below}
use Rattle.renames.proofs.Placed.{place-at}
use Rattle.renames.proofs.Ordered.{order-first, order-rest, order-entry}
use Rattle.renames.proofs.Readings.{is_named_from, ltb-both}
use Rattle.renames.proofs.Decisions.{order-in}

-- ---- the rename of a file

-- the rename at entry j whose text begins t
abbrev pub rename_at : ℕ → List ℕ → List ℕ → Renamed
rename_at j e t =
    record {
      file = get_or e (j * 4) 0;
      mode = mode_of (get_or e (j * 4 + 1) 0);
      name = take (get_or e (j * 4 + 2) 0) t;
    }

-- a number below all others is not there
pub rename-none : (n i least left k : ℕ) (e t : List ℕ) → ordered_from n i least left e ≡ true → k < least → rename_for k (renames_from n i e t) ≡ None
unfolding renames_from
rename-none zero i least left k e t h g = refl
rename-none (suc n) i least left k e t h g =
    let f = get_or e (i * 4) 0 in
    let l = get_or e (i * 4 + 2) 0 in
    let o = order-first n i least left e h in
    rw (ne_eqb f k (λ q. omega arith)) (rename-none n (i + 1) (f + 1) (left - l) k e (drop l t) (order-rest n i least left e h) (omega arith))

abbrev Found : ℕ → ℕ → ℕ → List ℕ → List ℕ → ℕ → Type 0
Found n i k e t j =
    rename_for k (renames_from n i e t) ≡ cond (is_named_from n k i j e) (Some (rename_at (i + j) e (drop (bytes_from j i e) t))) None

-- where the search stops, there the rename is, or nowhere
rename-found : (n i least left k : ℕ) (e t : List ℕ) → ordered_from n i least left e ≡ true → Found n i k e t (below_from n i k e)
unfolding renames_from below_from bytes_from
rename-found zero i least left k e t h = refl
rename-found (suc n) i least left k e t h =
    step (le-or-lt k (get_or e (i * 4) 0)) (le-or-lt (get_or e (i * 4) 0) k)
    (rename-found n (i + 1) (get_or e (i * 4) 0 + 1) (left - get_or e (i * 4 + 2) 0) k e (drop (get_or e (i * 4 + 2) 0) t) (order-rest n i least left e h))
  where
    step : (k ≤ get_or e (i * 4) 0) ⊎ (get_or e (i * 4) 0 < k) → (get_or e (i * 4) 0 ≤ k) ⊎ (k < get_or e (i * 4) 0)
        → Found n (i + 1) k e (drop (get_or e (i * 4 + 2) 0) t) (below_from n (i + 1) k e)
        → Found (suc n) i k e t (below_from (suc n) i k e)
    step (inr g) b ih =
        let f = get_or e (i * 4) 0 in
        let l = get_or e (i * 4 + 2) 0 in
        let j = below_from n (i + 1) k e in
        let w : i + (j + 1) ≡ i + 1 + j = omega arith in
        let s : j + 1 ≡ suc j = omega arith in
        rw (ne_eqb f k (λ q. omega arith), lt-ltb f k g, ltb-both j n, w, s, ← drop-drop (bytes_from j (i + 1) e) l t) ih
    step (inl g) (inr b) ih =
        let f = get_or e (i * 4) 0 in
        let l = get_or e (i * 4 + 2) 0 in
        rw (le-ltb f k g, ne_eqb f k (λ q. omega arith), lt-ltb 0 (suc n) (omega arith), add-zero i, ne_eqb f k (λ q. omega arith))
        (rename-none n (i + 1) (f + 1) (left - l) k e (drop l t) (order-rest n i least left e h) (omega arith))
    step (inl g) (inl b) ih =
        let f = get_or e (i * 4) 0 in
        rw (le-ltb f k g, eq-eqb f k (omega arith), lt-ltb 0 (suc n) (omega arith), add-zero i, eq-eqb f k (omega arith))

-- a rename with its text
abbrev pub read_rename : List ℕ → Rename → Renamed
read_rename names r = record { file = clamped_of r.file_index.0; mode = r.mode; name = text_at names r.name }

abbrev pub read_found : List ℕ → Option Rename → Option Renamed
read_found names None = None
read_found names (Some r) = Some (read_rename names r)

-- an entry of tables in order, read with its text
pub read-back : (n u j : ℕ) (e t : List ℕ) → ordered_from n 0 0 u e ≡ true → placed_from n 0 0 e ≡ true → j < n
    → read_rename t (rename_in e j) ≡ rename_at j e (drop (bytes_from j 0 e) t)
read-back n u j e t ordered placed h =
    let o = order-entry n 0 0 u e ordered j (omega arith) (omega arith) in
    let d : get_or e (j * 4) 0 % 2147483648 ≡ get_or e (j * 4) 0 = mod-eq_of_lt (omega (arith, o.0)) in
    let p = rw (zero-add j, zero-add (bytes_from j 0 e)) at (place-at n 0 0 e placed j h) in
    rw (d, p)

-- the entry that was found is the rename in the list
found-if : (b : Bool) (e t : List ℕ) (j : ℕ) → (b ≡ true → read_rename t (rename_in e j) ≡ rename_at j e (drop (bytes_from j 0 e) t))
    → cond b (Some (rename_at j e (drop (bytes_from j 0 e) t))) None ≡ read_found t (cond b (Some (rename_in e j)) None)
found-if true e t j h = ap Some (sym (h refl))
found-if false e t j h = refl

among : (b c : Bool) → (b && c) ≡ true → b ≡ true
among true c h = refl
among false c h = absurd (false≢true h)

pub renamed-found : (rf : RenamedFiles) (e t : List ℕ) (k : ℕ) → in_order rf e t ≡ true → rename_for k (renames_of rf e t) ≡ read_found t (rename_found rf e k)
renamed-found rf e t k h =
    let n = rf.num_renames in
    let o = order-in rf e (length t) h in
    let s = sought-below n 0 rf.text_len k e o.2 in
    let j = entry_sought n k e in
    let w = rename-found n 0 0 rf.text_len k e t o.2 in
    (rw (zero-add (below_from n 0 k e), ← s) at w)
    ∙ found-if (entry_is_named n k j e) e t j (λ q. read-back n rf.text_len j e t o.2 o.3 (ltb-true j n (among (ltb j n) (eqb (get_or e (j * 4) 0) k) q)))

-- a rename by its parts
pub same-rename : (r : Rename) (f : ℤ) (m : RenameMode) (a n : ℕ) → r.file_index.0 ≡ f → r.mode ≡ m → r.name.at ≡ a → r.name.len ≡ n
    → r ≡ record { file_index = record { 0 = f }; mode = m; name = record { at = a; len = n } }
same-rename r f m a n e g h i = rw (← e, ← g, ← h, ← i)

-- ---- what an answer reads as

-- an answer read by a function
abbrev pub read_as : {A B : Type 0} → (A → B) → Outcome A → Outcome B
read_as f (value a) = value (f a)
read_as f (refused n) = refused n

pub read-if : {A B : Type 0} (f : A → B) (b : Bool) (n : ℕ) (a : A) → read_as f (cond b (value a) (refused n)) ≡ cond b (value (f a)) (refused n)
read-if f true n a = refl
read-if f false n a = refl

-- rename i as one of the list of renames
abbrev nothing : Renamed
nothing = record { file = 0; mode = FullPath; name = [] }

rename-get : (n i j : ℕ) (e t : List ℕ) → j < n → get_or (renames_from n i e t) j nothing ≡ rename_at (i + j) e (drop (bytes_from j i e) t)
unfolding renames_from bytes_from
rename-get zero i j e t h = absurd (omega arith)
rename-get (suc n) i zero e t h = rw (add-zero i)
rename-get (suc n) i (suc j) e t h =
    let l = get_or e (i * 4 + 2) 0 in
    let w : i + suc j ≡ i + 1 + j = omega arith in
    rw (w, ← drop-drop (bytes_from j (i + 1) e) l t) (rename-get n (i + 1) j e (drop l t) (omega arith))

pub export-said : (rf : RenamedFiles) (e names : List ℕ) (i : ℕ) → in_order rf e names ≡ true
    → read_as (read_rename names) (exported rf e names i) ≡ outcome_of (first_of (when (leb rf.num_renames i) 11 ∷ [])) (get_or (renames_of rf e names) i nothing)
export-said rf e names i h = at (le-or-lt rf.num_renames i)
  where
    n : ℕ
    n = rf.num_renames

    o : (n ≤ length e / 4) × (rf.text_len ≤ length names) × (ordered_from n 0 0 rf.text_len e ≡ true) × (placed_from n 0 0 e ≡ true)
    o = order-in rf e (length names) h

    at : (n ≤ i) ⊎ (i < n)
        → read_as (read_rename names) (exported rf e names i) ≡ outcome_of (first_of (when (leb n i) 11 ∷ [])) (get_or (renames_of rf e names) i nothing)
    at (inl g) = rw (le-leb n i g)
    at (inr g) =
        rw (lt-leb n i g, le-leb n (length e / 4) o.0, le-leb rf.text_len (length names) o.1, rename-get n 0 i e names g, zero-add i)
        (ap value (read-back n rf.text_len i e names o.2 o.3 g))
