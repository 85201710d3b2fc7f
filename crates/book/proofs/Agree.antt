-- The book agrees with the set over every list of calls, refused ones included, and every set that the calls lead to is one
-- of those of which BEP 3, 47 and 52 are proved. Relies on Entries.antt, Rooted.antt and Lent.antt, and on the theorems of
-- `reached`.
use Rattle.std.specs.Prelude.{Option, Some, None}
use mathlib.Core.Path.{◌≡◌, refl, sym, ap, ap₂, subst, ◌∙◌}
use mathlib.Core.Bool.{Bool, true, false, cond, not, false≢true}
use mathlib.Core.List.{List, [], ◌∷◌, map, map-map}
use Prim.Native.Nat.{ℕ, ◌≤◌, ◌<◌}
use native.Mathlib.Omega.{arith}
use lib.Dec.{eqb}
use lib.IntN.{pos}
use lib.ListN.{length}
use borrow.Author.Tests.{eqb-true, eqb-false}
use Rattle.lists.specs.Lists.{sum, cleared}
use Rattle.types.specs.Refusals.{value, refused}
use Rattle.tables.specs.declared.storage.FileStorage.{FileStorage}
use Rattle.tables.specs.Model.{File, Model, Store, store_of, file_of, view_of}
use Rattle.rules.specs.Rules.{outcome_of, first_of, when}
use Rattle.rules.specs.Bounds.{bad_length}
use Rattle.additions.specs.Addition.{Addition, added}
use Rattle.trim.specs.Trim.{tail_pad}
use Rattle.plan.specs.Write.{store_added}
use Rattle.storage.specs.Opening.{new_storage, opened, new_model}
use Rattle.change.specs.Changes.{Changed, answering, changed_if}
use Rattle.change.specs.Rooms.{rooms_of, holds}
use Rattle.plan.specs.Outcomes.{adding_number}
use Rattle.trim.specs.Removal.{trimmed_by}
use Rattle.lookup.specs.Space.{space}
use Rattle.lookup.specs.Lookup.{lent, entries_of}
use Rattle.cleaning.specs.Cleaning.{cleaned_store, text_needed, Cleaned, cleaned_to, cleaning_number, clean_stored}
use Rattle.sound.specs.Sound.{Sound}
use Rattle.sound.specs.Documents.{sizes, EndToEnd, OnDisk, Marked, MadePad, OnPiece, Each, LinkEmpty}
use Rattle.reached.specs.Reached.{Reached}
use Rattle.reached.specs.Reached as reach
use Rattle.sound.proofs.Common.{sum-tabled}
use Rattle.sound.proofs.Opened.{sound-opened, view-opened}
use Rattle.sound.proofs.Added.Answer.{adding, has-places}
use Rattle.sound.proofs.Trimmed.{view-trimmed, sound-trimmed}
use Rattle.reached.proofs.Cleaned.Answer.{enough}
use Rattle.reached.proofs.Cleaned.{sound-cleaned, view-cleaned}
use Rattle.reached.proofs.Cleaned.Lent.{cleaned-lent, number-lent}
use Rattle.reached.proofs.Documents.{end_to_end_lem, on-disk, marked, pads-made, on-piece}
use Rattle.book.specs.Book.{Call, add, trim, clean, rename, «import», Made, Book, sizes_of, after_addition, after_trim, entry, book, Untrimmed}
use Rattle.book.specs.Book as books
use Rattle.book.specs.Times.{Timed, times_in, trimmed_timed, timed_after, timed_rows}
use Rattle.book.specs.Calls.{came_of, store_after, call, cleaned_by, SameSet, Renames, Leads}
use Rattle.book.specs.Calls as calls
use Rattle.book.proofs.Entries.{book_of, timed_of, timed_files, sizes-rows, book-added, timed-added, book-trimmed, timed-trimmed, book-cleaned, timed-cleaned, entry-rename, entry-import, timed-rename, timed-import}
use Rattle.book.proofs.Rooted.{Settled, settled}
use Rattle.book.proofs.Lent.{lent-sound, lent_view}

-- the book's rows are the set's files, with their times
pub record Agrees (n : ℕ) (made : List Made) (s : Store) : Type 0 where
  pub sound : Sound s
  pub some : 0 < n
  pub short : n ≤ 2147483647
  pub lengths : s.fs.piece_length ≡ n
  pub books : book_of (view_of s) ≡ book n made
  pub timed : timed_files (view_of s).files ≡ timed_rows n made

-- ---- what holds after a call

-- the answer of a call that leaves the store t, and of one that is refused on the store s
abbrev pub leaving : Store → Changed
leaving t = answering (value t.fs) t

abbrev pub refusing : ℕ → Store → Changed
refusing k s = answering (refused k) s

-- it holds of a call that is done where its number is 0, and of a refused one, which changes nothing
module _ {ℓ} (P : Made → Store → Type ℓ) (k : Call) (number : ℕ) (s t : Store) where
  abbrev After : Changed → Type ℓ
  After c = P (call k c) (store_after s.fs c)

  pub after_call : (number ≡ 0 → P (record { call = k; came = books.done }) t) → P (record { call = k; came = books.refused number }) s
      → (c : Changed) → c ≡ changed_if number s t → After c
  after_call d r c e = subst After (sym e) (at (eqb number 0) refl)
    where
      at : (b : Bool) → eqb number 0 ≡ b → After (cond b (leaving t) (refusing number s))
      at true q = d (eqb-true number 0 q)
      at false q = r

-- what a trim is refused by, which on tables in order is nothing
abbrev pub trim_number : Store → ℕ
trim_number s = first_of (when (bad_length s.fs.piece_length) 1 ∷ when (not (holds s)) 10 ∷ [])

-- the same of a cleaning, which is lent neither roots nor first files
module _ {ℓ} (P : Made → Store → Type ℓ) (s : Store) (marks stage path : List ℕ) where
  abbrev Cleans : Cleaned → Type ℓ
  Cleans c = P (call clean (cleaned_by s c)) (store_after s.fs (cleaned_by s c))

  abbrev bare : Store
  bare = lent s.fs s.rows s.dirs s.text

  pub after-clean : (cleaning_number s (length marks) (length stage) (length path) ≡ 0 → P (record { call = clean; came = books.done }) (cleaned_store (length stage) s))
      → ((k : ℕ) → P (record { call = clean; came = books.refused k }) s)
      → (c : Cleaned) → c ≡ clean_stored bare marks stage path → Cleans c
  after-clean d r c e = subst Cleans (sym e) (at (eqb number 0) refl)
    where
      number : ℕ
      number = cleaning_number bare (length marks) (length stage) (length path)

      cleaned : Cleaned
      cleaned =
          cleaned_to (value (cleaned_store (length stage) bare).fs) (cleaned_store (length stage) bare) (cleared marks) (cleared stage) (cleared path)

      at : (b : Bool) → eqb number 0 ≡ b → Cleans (cond b cleaned (cleaned_to (refused number) bare marks stage path))
      at true q =
          subst (P (record { call = clean; came = books.done })) (cleaned-lent (length stage) s)
          (d (number-lent s (length marks) (length stage) (length path) ∙ eqb-true number 0 q))
      at false q = r number

-- ---- opening

module _ (n : ℕ) (indexed : Bool) (s : Store) (e : opened (pos n) indexed ≡ value s.fs) where
  pub opened-is : (0 < n) × (new_storage n indexed ≡ s.fs)
  opened-is = at (eqb n 0) refl e
    where
      at : (b : Bool) → eqb n 0 ≡ b → cond b (refused 1) (value (new_storage n indexed)) ≡ value s.fs → (0 < n) × (new_storage n indexed ≡ s.fs)
      at true q e = let z : ◌≡◌ {A = ℕ} 0 1 = cc in absurd (omega arith)
      at false q e = (omega (arith, eqb-false n 0 q), cc)

  abbrev with_record : FileStorage → Store
  with_record fs = store_of fs s.rows s.roots s.firsts s.dirs s.text

  opened-store : with_record (new_storage n indexed) ≡ s
  opened-store = ap with_record opened-is.1

  opened_view : new_model n ≡ view_of s
  opened_view = sym (view-opened n indexed s.rows s.roots s.firsts s.dirs s.text) ∙ ap view_of opened-store

  agrees-opened : n ≤ 2147483647 → Agrees n [] s
  agrees-opened h =
      record {
        sound = subst Sound opened-store (sound-opened n indexed s.rows s.roots s.firsts s.dirs s.text);
        some = opened-is.0;
        short = h;
        lengths = ap (λ (fs : FileStorage). fs.piece_length) (sym opened-is.1);
        books = ap book_of (sym opened_view);
        timed = ap (λ (m : Model). timed_files m.files) (sym opened_view);
      }

-- ---- one call

pub total-is : (s : Store) → Sound s → (view_of s).total ≡ sum (sizes (view_of s))
total-is s ok = ok.total ∙ sym (sum-tabled (λ (f : File). f.size) s.fs.num_files (file_of s))

agrees-refused : {n : ℕ} {made : List Made} {s : Store} (k : Call) (i : ℕ) → Agrees n made s → Agrees n (record { call = k; came = books.refused i } ∷ made) s
agrees-refused k i g =
    record { sound = g.sound; some = g.some; short = g.short; lengths = g.lengths; books = g.books; timed = g.timed }

pub agrees-added : {n : ℕ} {made : List Made} (s : Store) (a : Addition) → Agrees n made s → Settled s a → Agrees n (record { call = add a; came = books.done } ∷ made) (store_added s (view_of s) a)
agrees-added s a g st =
    let l = g.lengths in
    record {
      sound = st.sound;
      some = g.some;
      short = g.short;
      lengths = l;
      books =
          ap book_of st.view
          ∙ book-added (view_of s) st.like (total-is s g.sound) (omega (arith, g.some))
          ∙ st.entered (book_of (view_of s))
          ∙ ap (λ (b : Book). after_addition b a) g.books;
      timed =
          ap (λ (m : Model). timed_files m.files) st.view
          ∙ timed-added (view_of s) st.like (total-is s g.sound) (omega (arith, g.some))
          ∙ st.timed (book_of (view_of s)) (timed_files (view_of s).files)
          ∙ ap₂ (λ (b : Book) (ts : List Timed). timed_after b ts (add a) books.done) g.books g.timed;
    }

agrees-trimmed : {n : ℕ} {made : List Made} (s : Store) → Agrees n made s → Agrees n (record { call = trim; came = books.done } ∷ made) (trimmed_by (tail_pad (view_of s).files) s)
agrees-trimmed s g =
    record {
      sound = sound-trimmed s g.sound;
      some = g.some;
      short = g.short;
      lengths = same_length (tail_pad (view_of s).files) ∙ g.lengths;
      books = ap book_of (view-trimmed s g.sound) ∙ book-trimmed (view_of s) ∙ ap after_trim g.books;
      timed =
          ap (λ (m : Model). timed_files m.files) (view-trimmed s g.sound)
          ∙ timed-trimmed (view_of s)
          ∙ ap trimmed_timed g.timed;
    }
  where
    same_length : (o : Option ℕ) → (trimmed_by o s).fs.piece_length ≡ s.fs.piece_length
    same_length None = refl
    same_length (Some f) = refl

agrees-cleaned : {n : ℕ} {made : List Made} (m : ℕ) (s : Store) → Agrees n made s → text_needed s ≤ length s.text → space (entries_of s) ≤ m → Agrees n (record { call = clean; came = books.done } ∷ made) (cleaned_store m s)
agrees-cleaned m s g room work =
    record {
      sound = sound-cleaned s g.sound m room work;
      some = g.some;
      short = g.short;
      lengths = ap (λ (x : Model). x.piece_length) (view-cleaned s g.sound m room work) ∙ g.lengths;
      books = ap book_of (view-cleaned s g.sound m room work) ∙ book-cleaned (view_of s) ∙ g.books;
      timed =
          ap (λ (x : Model). timed_files x.files) (view-cleaned s g.sound m room work)
          ∙ timed-cleaned (view_of s)
          ∙ g.timed;
    }

-- a call that leaves the set, and that the book does not enter
agrees-beside : {n : ℕ} {made : List Made} {s : Store} (m : Made) → entry (book n made) m.call m.came ≡ book n made
    → timed_after (book n made) (timed_rows n made) m.call m.came ≡ timed_rows n made → Agrees n made s → Agrees n (m ∷ made) s
agrees-beside m e t g =
    record {
      sound = g.sound;
      some = g.some;
      short = g.short;
      lengths = g.lengths;
      books = g.books ∙ sym e;
      timed = g.timed ∙ sym t;
    }

-- other tables that hold the same set mean the same, so they agree with the same book
agrees-lent : {n : ℕ} {made : List Made} (s t : Store) → Agrees n made s → SameSet s t → Agrees n made t
agrees-lent s t g same =
    record {
      sound = lent-sound s t g.sound same;
      some = g.some;
      short = g.short;
      lengths = ap (λ (fs : FileStorage). fs.piece_length) same.fs ∙ g.lengths;
      books = ap book_of (lent_view s t g.sound same) ∙ g.books;
      timed = ap (λ (m : Model). timed_files m.files) (lent_view s t g.sound same) ∙ g.timed;
    }

-- ---- every list of calls

pub agrees : {n : ℕ} {made : List Made} {s : Store} {r : Renames} → Leads n made s r → Agrees n made s
agrees {n} (calls.opening {s} indexed h e z) = agrees-opened n indexed s e h
agrees {n} (calls.addition {made} {s} a c p e) =
    let g = agrees p in
    after_call (λ (m : Made) (t : Store). Agrees n (m ∷ made) t) (add a) (adding_number s (view_of s) a) s (store_added s (view_of s) a)
    (λ z. agrees-added s a g (settled s a g.sound z))
    (agrees-refused (add a) (adding_number s (view_of s) a) g)
    c
    e
agrees {n} (calls.trim {made} {s} c p e) =
    let g = agrees p in
    after_call (λ (m : Made) (t : Store). Agrees n (m ∷ made) t) trim (trim_number s) s (trimmed_by (tail_pad (view_of s).files) s)
    (λ z. agrees-trimmed s g)
    (agrees-refused trim (trim_number s) g)
    c
    e
agrees {n} (calls.cleaning {made} {s} marks stage path c p e) =
    let g = agrees p in
    after-clean (λ (m : Made) (t : Store). Agrees n (m ∷ made) t) s marks stage path
    (λ z. let h = enough s (length marks) (length stage) (length path) z in agrees-cleaned (length stage) s g h.0 h.1)
    (λ k. agrees-refused clean k g)
    c
    e
agrees {n} (calls.renaming {made} {s} x c p e) =
    agrees-beside (record { call = rename x; came = came_of c.says }) (entry-rename (book n made) x (came_of c.says)) (timed-rename (book n made) (timed_rows n made) x (came_of c.says)) (agrees p)
agrees {n} (calls.importing {made} {s} xs c p e) =
    agrees-beside (record { call = «import» xs; came = came_of c.says }) (entry-import (book n made) xs (came_of c.says)) (timed-import (book n made) (timed_rows n made) xs (came_of c.says)) (agrees p)
agrees (calls.lending {made} {s} {t} p same names) = agrees-lent s t (agrees p) same

pub sizes-agree : {n : ℕ} {made : List Made} {s : Store} {r : Renames} → Leads n made s r → map (λ (f : File). f.size) (view_of s).files ≡ sizes_of (book n made).rows
sizes-agree {n} {made} {s} p = sym (sizes-rows (view_of s).files) ∙ ap (λ (b : Book). sizes_of b.rows) (agrees p).books

-- document 02 (vi): every file has the time that its addition gave, and 0 where an addition made it
pub times-given : {n : ℕ} {made : List Made} {s : Store} {r : Renames} → Leads n made s r → map (λ (f : File). f.time) (view_of s).files ≡ times_in (timed_rows n made)
times-given {n} {made} {s} p = sym (map-map (λ (t : Timed). t.time) timed_of (view_of s).files) ∙ ap times_in (agrees p).timed

-- ---- the public documents

pub reached : {n : ℕ} {made : List Made} {s : Store} {r : Renames} → Leads n made s r → Reached (view_of s)
reached {n} (calls.opening {s} indexed h e z) = subst Reached (opened_view n indexed s e) (reach.opened n (opened-is n indexed s e).0 h)
reached (calls.addition {made} {s} a c p e) =
    after_call (λ (m : Made) (t : Store). Reached (view_of t)) (add a) (adding_number s (view_of s) a) s (store_added s (view_of s) a)
    (λ z. more (settled s a (agrees p).sound z) (reached p))
    (reached p)
    c
    e
  where
    more : Settled s a → Reached (view_of s) → Reached (view_of (store_added s (view_of s) a))
    more st r =
        subst Reached (sym st.view)
        (reach.addition r (rooms_of s) st.like
        (adding s (agrees p).sound st.like (has-places s (view_of s) st.like st.number) ∙ ap (λ (k : ℕ). outcome_of k (added (view_of s) st.like)) st.number))
reached (calls.trim {made} {s} c p e) =
    after_call (λ (m : Made) (t : Store). Reached (view_of t)) trim (trim_number s) s (trimmed_by (tail_pad (view_of s).files) s)
    (λ z. subst Reached (sym (view-trimmed s (agrees p).sound)) (reach.trim (reached p)))
    (reached p)
    c
    e
reached (calls.cleaning {made} {s} marks stage path c p e) =
    after-clean (λ (m : Made) (t : Store). Reached (view_of t)) s marks stage path
    (λ z. let h = enough s (length marks) (length stage) (length path) z in subst Reached (sym (view-cleaned s (agrees p).sound (length stage) h.0 h.1)) (reach.cleaning (reached p)))
    (λ k. reached p)
    c
    e
reached (calls.renaming {made} {s} x c p e) = reached p
reached (calls.importing {made} {s} xs c p e) = reached p
reached (calls.lending {made} {s} {t} p same names) = subst Reached (sym (lent_view s t (agrees p).sound same)) (reached p)

-- where no trim was done, the record does not say that one was
pub untrimmed : {n : ℕ} {made : List Made} {s : Store} {r : Renames} → Leads n made s r → Untrimmed made → (view_of s).trimmed ≡ false
untrimmed {n} (calls.opening {s} indexed h e z) u = ap (λ (m : Model). m.trimmed) (sym (opened_view n indexed s e))
untrimmed (calls.addition {made} {s} a c p e) u =
    after_call (λ (m : Made) (t : Store). Untrimmed (m ∷ made) → (view_of t).trimmed ≡ false) (add a) (adding_number s (view_of s) a) s (store_added s (view_of s) a)
    (λ z w. untrimmed p w.1)
    (λ w. untrimmed p w.1)
    c
    e
    u
untrimmed (calls.trim {made} {s} c p e) u =
    after_call (λ (m : Made) (t : Store). Untrimmed (m ∷ made) → (view_of t).trimmed ≡ false) trim (trim_number s) s (trimmed_by (tail_pad (view_of s).files) s)
    (λ z w. absurd (false≢true (sym w.0)))
    (λ w. untrimmed p w.1)
    c
    e
    u
untrimmed (calls.cleaning {made} {s} marks stage path c p e) u =
    after-clean (λ (m : Made) (t : Store). Untrimmed (m ∷ made) → (view_of t).trimmed ≡ false) s marks stage path
    (λ z w.
    let h = enough s (length marks) (length stage) (length path) z in
    ap (λ (m : Model). m.trimmed) (view-cleaned s (agrees p).sound (length stage) h.0 h.1)
    ∙ untrimmed p w.1)
    (λ k w. untrimmed p w.1)
    c
    e
    u
untrimmed (calls.renaming x c p e) u = untrimmed p u.1
untrimmed (calls.importing xs c p e) u = untrimmed p u.1
untrimmed (calls.lending {made} {s} {t} p same names) u =
    ap (λ (m : Model). m.trimmed) (lent_view s t (agrees p).sound same) ∙ untrimmed p u

module _ {n : ℕ} {made : List Made} {s : Store} {r : Renames} (p : Leads n made s r) where
  -- BEP 3
  pub set-end-to-end : EndToEnd (view_of s)
  set-end-to-end = end_to_end_lem (reached p)

  -- BEP 47
  pub set-on-disk : OnDisk (view_of s)
  set-on-disk = on-disk (reached p)

  pub set-marked : Each Marked (view_of s).files
  set-marked = marked (reached p)

  pub set-pads-made : Each (MadePad n) (view_of s).files
  set-pads-made = subst (λ (k : ℕ). Each (MadePad k) (view_of s).files) (agrees p).lengths (pads-made (reached p))

  -- BEP 52: 'On an untrimmed v2 set whose links all have size 0, each nonempty file but the pads made here starts on a piece'
  pub set-on-piece : Untrimmed made → (book n made).v2 ≡ true → Each LinkEmpty (view_of s).files → Each (OnPiece n) (view_of s).files
  set-on-piece u v l =
      subst (λ (k : ℕ). Each (OnPiece k) (view_of s).files) (agrees p).lengths
      (on-piece (reached p) (untrimmed p u) (ap (λ (b : Book). b.v2) (agrees p).books ∙ v) l)
