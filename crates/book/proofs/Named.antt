-- The renames that calls leave are in order, so after every list of calls a rename and an import are refused as document 01's
-- table says: 11 where the book has no such row, 10 where the renames after it have no room. Relies on Agree.antt, and on the
-- laws of `renames` for what a change leaves.
--     names-in-order                  the tables of renames
--     rename-answer, import-answer    what the two calls answer
use Prim.Native.Nat.{ℕ, zero, suc, ◌+◌, ◌-◌, ◌*◌, ◌/◌, ◌≤◌, ◌<◌}
use mathlib.Core.Path.{◌≡◌, refl, sym, ap, subst, ◌∙◌}
use mathlib.Core.Bool.{Bool, true, false, cond, not, ◌&&◌}
use mathlib.Core.List.{List, [], ◌∷◌}
use native.Mathlib.Omega.{arith}
use borrow.Author.Tests.{eqb-true, ltb-true, ltb-false, le-leb}
use lib.Dec.{eqb, ltb, leb}
use lib.IntN.{ℤ, pos, negsuc}
use lib.ListN.{length, get_or}
use lib.Seq.{sets}
use Rattle.types.specs.Refusals.{value, refused}
use Rattle.tables.specs.Model.{Store, file_of, view_of}
use Rattle.tables.proofs.Tabled.{length-tabled}
use Rattle.rules.specs.Rules.{Rule, when, first_of}
use Rattle.rules.specs.Bounds.{bad_length, is_below, clamped_of}
use Rattle.rules.specs.Questions.{few_entries}
use Rattle.renames.specs.Renames.{Renamed, renames_of, ordered_from, placed_from, in_order, with_rename, renamed_to, lacks_room, state_of, words_of, texts_of}
use Rattle.renames.specs.Renames as renames
use Rattle.imports.specs.Imports.{Naming, full_path, imported, has_negative}
use Rattle.renames.proofs.Rising.{Rises, Small, rises-read, small-read, rises-with, small-with}
use Rattle.renames.proofs.Decisions.{order-in}
use Rattle.renames.proofs.Kept.{kept-order}
use Rattle.sound.proofs.Added.Answer.{pass-one, neither}
use Rattle.book.specs.Book.{Made, Book, book}
use Rattle.book.specs.Calls.{came_of, Renames, no_entries, renames_after, SameRenames, Leads}
use Rattle.book.specs.Calls as calls
use Rattle.book.specs.Book as books
use Rattle.book.proofs.Entries.{length-rows}
use Rattle.book.proofs.Lent.{as_long, get_or-below}
use Rattle.book.proofs.Agree.{agrees}
use Rattle.book.proofs.Runs.{renaming, importing, answer_of, came_by, rename_number, import_number, good, few}

abbrev Ordered : Renames → Type 0
Ordered r = in_order r.rf r.entries r.text ≡ true

-- ---- what a change leaves

-- a file's number is small
small-index : (n : ℕ) (z : ℤ) → n ≤ 65535 → is_below n z ≡ true → clamped_of z ≤ 2147483647
small-index n (pos k) h e = omega (arith, ltb-true k n e)
small-index n (negsuc k) h e = omega arith

-- the list that changes is in order
module _ (r : Renames) (o : Ordered r) where
  abbrev list : List Renamed
  list = renames_of r.rf r.entries r.text

  rises : Rises 0 list
  rises = rises-read r.rf.num_renames 0 0 r.rf.text_len r.entries r.text (order-in r.rf r.entries (length r.text) o).2

  small : Small list
  small = small-read r.rf.num_renames 0 0 r.rf.text_len r.entries r.text (order-in r.rf r.entries (length r.text) o).2

  -- so is what a change makes of it
  after : (k : ℕ) (rs : List Renamed) → (k ≡ 0 → (Rises 0 rs) × (Small rs) × (lacks_room rs r.entries r.text ≡ false))
      → (c : renames.RenamesChanged) → c ≡ renames.renames_changed_if k rs r.entries r.text → Ordered (renames_after r c)
  after k rs f c e = subst (λ (x : renames.RenamesChanged). Ordered (renames_after r x)) (sym e) (at (eqb k 0) refl)
    where
      at : (b : Bool) → eqb k 0 ≡ b
          → Ordered (renames_after r (cond b (record { says = value (state_of rs); entries = sets r.entries 0 (words_of rs); text = sets r.text 0 (texts_of rs) }) (record { says = refused k; entries = r.entries; text = r.text })))
      at true q =
          let x = f (eqb-true k 0 q) in
          let y = neither (ltb (length r.entries / 4) (length rs)) (ltb (length r.text) (length (texts_of rs))) x.2 in
          kept-order rs r.entries r.text x.0 x.1 (ltb-false _ _ y.0) (ltb-false _ _ y.1)
      at false q = o

rises-imported : (files : ℕ) (xs : List Naming) (rs : List Renamed) → Rises 0 rs → Rises 0 (imported files xs rs)
rises-imported files [] rs a = a
rises-imported files (x ∷ xs) rs a =
    rises-imported files xs (cond (is_below files x.file) (with_rename (full_path x) rs) rs) (at (is_below files x.file))
  where
    at : (b : Bool) → Rises 0 (cond b (with_rename (full_path x) rs) rs)
    at true = rises-with (full_path x) rs 0 (omega arith) a
    at false = a

small-imported : (files : ℕ) → files ≤ 65535 → (xs : List Naming) (rs : List Renamed) → Small rs → Small (imported files xs rs)
small-imported files h [] rs a = a
small-imported files h (x ∷ xs) rs a =
    small-imported files h xs (cond (is_below files x.file) (with_rename (full_path x) rs) rs) (at (is_below files x.file) refl)
  where
    at : (b : Bool) → is_below files x.file ≡ b → Small (cond b (with_rename (full_path x) rs) rs)
    at true q = small-with (full_path x) rs (small-index files x.file h q) a
    at false q = a

not-not : (b : Bool) → not b ≡ false → b ≡ true
not-not true e = refl
not-not false e = sym e

-- ---- other tables with the same entries

ordered_same : (n i least left : ℕ) (e d : List ℕ) → ((j : ℕ) → j < (i + n) * 4 → get_or d j 0 ≡ get_or e j 0) → ordered_from n i least left d ≡ ordered_from n i least left e
unfolding ordered_from
ordered_same zero i least left e d h = refl
ordered_same (suc n) i least left e d h =
    rw (h (i * 4) (omega arith), h (i * 4 + 1) (omega arith), h (i * 4 + 2) (omega arith))
    (ap (λ (b : Bool). ((leb least (get_or e (i * 4) 0) && leb (get_or e (i * 4) 0) 2147483647) && (leb (get_or e (i * 4 + 1) 0) 2 && (leb (get_or e (i * 4 + 2) 0) left && b))))
    (ordered_same n (i + 1) (get_or e (i * 4) 0 + 1) (left - get_or e (i * 4 + 2) 0) e d (λ j g. h j (omega arith))))

placed_same : (n i at : ℕ) (e d : List ℕ) → ((j : ℕ) → j < (i + n) * 4 → get_or d j 0 ≡ get_or e j 0) → placed_from n i at d ≡ placed_from n i at e
unfolding placed_from
placed_same zero i at e d h = refl
placed_same (suc n) i at e d h =
    rw (h (i * 4 + 2) (omega arith), h (i * 4 + 3) (omega arith), placed_same n (i + 1) (at + get_or e (i * 4 + 2) 0) e d (λ j g. h j (omega arith)))

lent-ordered : (r q : Renames) → SameRenames r q → Ordered r → Ordered q
lent-ordered r q same o =
    let x = order-in r.rf r.entries (length r.text) o in
    let long : r.rf.num_renames * 4 ≤ length r.entries = omega (arith, x.0) in
    let a = as_long (r.rf.num_renames * 4) q.entries r.entries same.entries long in
    let b = as_long r.rf.text_len q.text r.text same.text x.1 in
    let w : (j : ℕ) → j < (0 + r.rf.num_renames) * 4 → get_or q.entries j 0 ≡ get_or r.entries j 0 =
    λ j g. get_or-below (r.rf.num_renames * 4) q.entries r.entries same.entries j 0 (omega arith) in
    let d = ordered_same r.rf.num_renames 0 0 r.rf.text_len r.entries q.entries w ∙ x.2 in
    let p = placed_same r.rf.num_renames 0 0 r.entries q.entries w ∙ x.3 in
    rw (same.rf, le-leb r.rf.num_renames (length q.entries / 4) (omega arith), le-leb r.rf.text_len (length q.text) b, d, p)

-- ---- every list of calls

opened-ordered : (r : Renames) → r.rf ≡ no_entries → Ordered r
unfolding ordered_from placed_from
opened-ordered r z = rw (z, le-leb 0 (length r.entries / 4) (omega arith), le-leb 0 (length r.text) (omega arith))

pub names-in-order : {n : ℕ} {made : List Made} {s : Store} {r : Renames} → Leads n made s r → Ordered r
names-in-order (calls.opening {s} {r} indexed h e z) = opened-ordered r z
names-in-order (calls.addition a c p e) = names-in-order p
names-in-order (calls.trim c p e) = names-in-order p
names-in-order (calls.cleaning marks stage path c p e) = names-in-order p
names-in-order (calls.renaming {made} {s} {r} x c p e) =
    let o = names-in-order p in
    after r o (rename_number s r x) (renamed_to x.file x.name (list r o))
    (λ z.
    let a = pass-one (bad_length s.fs.piece_length) 0 _ z in
    let b = pass-one (not (is_below s.fs.num_files x.file)) 10 _ a.1 in
    let i = pass-one (not (few_entries s.fs)) 9 _ b.1 in
    let d = pass-one (not (in_order r.rf r.entries r.text)) 9 _ i.1 in
    let g = pass-one (lacks_room (renamed_to x.file x.name (list r o)) r.entries r.text) 9 _ d.1 in
    (rises-with _ (list r o) 0 (omega arith) (rises r o), small-with _ (list r o) (small-index s.fs.num_files x.file (agrees p).sound.few-files (not-not _ b.0)) (small r o), g.0))
    c
    e
names-in-order (calls.importing {made} {s} {r} xs c p e) =
    let o = names-in-order p in
    after r o (import_number s r xs) (imported s.fs.num_files xs (list r o))
    (λ z.
    let a = pass-one (bad_length s.fs.piece_length) 0 _ z in
    let b = pass-one (has_negative xs) 10 _ a.1 in
    let i = pass-one (not (few_entries s.fs)) 9 _ b.1 in
    let d = pass-one (not (in_order r.rf r.entries r.text)) 9 _ i.1 in
    let g = pass-one (lacks_room (imported s.fs.num_files xs (list r o)) r.entries r.text) 9 _ d.1 in
    (rises-imported s.fs.num_files xs (list r o) (rises r o), small-imported s.fs.num_files (agrees p).sound.few-files xs (list r o) (small r o), g.0))
    c
    e
names-in-order (calls.lending {made} {s} {t} {r} {q} p same also) = lent-ordered r q also (names-in-order p)

-- ---- what is refused

came-names : (k : ℕ) (rs : List Renamed) (e t : List ℕ) → came_of (renames.renames_changed_if k rs e t).says ≡ came_by k
came-names k rs e t = at (eqb k 0)
  where
    at : (b : Bool) → came_of (cond {A = renames.RenamesChanged} b (record { says = value (state_of rs); entries = sets e 0 (words_of rs); text = sets t 0 (texts_of rs) }) (record { says = refused k; entries = e; text = t })).says ≡ cond b books.done (books.refused k)
    at true = refl
    at false = refl

module _ {n : ℕ} {made : List Made} {s : Store} {r : Renames} (p : Leads n made s r) where
  -- the files are the book's rows
  files-are : s.fs.num_files ≡ length (book n made).rows
  files-are =
      sym (length-tabled s.fs.num_files (file_of s)) ∙ sym (length-rows (view_of s).files) ∙ ap (λ (b : Book). length b.rows) (agrees p).books

  abbrev held : List Renamed
  held = renames_of r.rf r.entries r.text

  -- document 01's rows for a rename and an import: 'no such file, also in a rename', and room for the renames after it
  abbrev pub rename_refusals : Naming → List Rule
  rename_refusals x =
      when (not (is_below (length (book n made).rows) x.file)) 11 ∷
      when (lacks_room (renamed_to x.file x.name held) r.entries r.text) 10 ∷
      []

  abbrev pub import_refusals : List Naming → List Rule
  import_refusals xs =
      when (has_negative xs) 11 ∷
      when (lacks_room (imported (length (book n made).rows) xs held) r.entries r.text) 10 ∷
      []

  rename-number : (x : Naming) → rename_number s r x ≡ first_of (rename_refusals x)
  rename-number x = rw (good p, few p, names-in-order p, files-are)

  import-number : (xs : List Naming) → import_number s r xs ≡ first_of (import_refusals xs)
  import-number xs = rw (good p, few p, names-in-order p, files-are)

  pub rename-answer : (x : Naming) → (answer_of s r (renaming x)).came ≡ came_by (first_of (rename_refusals x))
  rename-answer x = came-names (rename_number s r x) (renamed_to x.file x.name held) r.entries r.text ∙ ap came_by (rename-number x)

  pub import-answer : (xs : List Naming) → (answer_of s r (importing xs)).came ≡ came_by (first_of (import_refusals xs))
  import-answer xs = came-names (import_number s r xs) (imported s.fs.num_files xs held) r.entries r.text ∙ ap came_by (import-number xs)
