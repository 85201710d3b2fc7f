-- What the book keeps of a set is, after an addition and after a trim, what the book enters for it, and after a cleaning what
-- it was; the same of its rows with their times. All on the model; it relies on what the search for a tail pad finds, and on
-- what a cleaning keeps of each file.
use Rattle.std.specs.Prelude.{Option, Some, None}
use mathlib.Core.Path.{◌≡◌, refl, sym, ap, ap₂, ◌∙◌}
use mathlib.Core.Bool.{Bool, true, false, cond, not, ◌&&◌, ◌||◌}
use mathlib.Core.List.{List, [], ◌∷◌, ◌++◌, map, map-append, map-map}
use Prim.Native.Nat.{ℕ, zero, suc, ◌+◌, ◌-◌, ◌%◌, ◌≤◌, ◌<◌}
use native.Mathlib.Nat.{mod-lt}
use native.Mathlib.Omega.{arith}
use lib.Dec.{eqb, ltb}
use lib.IntN.{ℤ, pos, negsuc}
use lib.ListN.{length, take, drop}
use borrow.Author.Tests.{eqb-true, eqb-false, eq-eqb, ne_eqb, lt-ltb}
use native.Mathlib.Numerals.{add-one}
use Rattle.lists.specs.Lists.{sum}
use Rattle.rules.specs.Bounds.{clamped_of}
use Rattle.path.specs.Join.{is_empty}
use Rattle.tables.specs.Model.{File, Model}
use Rattle.additions.specs.Addition.{Addition, added, file_added, pad_added, pad_to, pad_after, pad_of, size_added, flags_kept, keeps, is_present, is_v2, decides, files_of}
use Rattle.additions.specs.Addition as additions
use Rattle.trim.specs.Trim.{tail_pad, size_at, beginning_at, trimmed_if, trimmed_of}
use Rattle.additions.proofs.Rules.{pad-none, pad-some}
use Rattle.links.specs.Clean.{cleaned_of}
use Rattle.imports.specs.Imports.{Naming}
use Rattle.sound.specs.Documents.{sizes}
use Rattle.sound.proofs.Files.{sum-zero}
use Rattle.reached.proofs.Cleaned.Files.{clean-map-same}
use Rattle.sound.proofs.Trimmed.Tail.{flags_at, Last, tail-pad, NoTailPad, bare, other, no-tail-pad}
use Rattle.book.specs.Book.{Came, done, refused, add, rename, «import», Row, Book, sizes_of, bytes_of, natural, size_given, has_link, is_given, is_plain, is_left_open, version_after, row_for, filling, links_after, after_addition, trimmed_rows, after_trim, entry}
use Rattle.book.specs.Times.{Timed, rows_in, untimed, trimmed_timed, timed_after}
use Rattle.book.proofs.Timed.{rows-trimmed}

-- ---- what the book keeps of a set

abbrev pub row_of : File → Row
row_of f = record { size = f.size; marked = eqb (f.flags % 2) 1 }

abbrev pub rows_of : List File → List Row
rows_of fs = map row_of fs

abbrev pub book_of : Model → Book
book_of m = record { piece_length = m.piece_length; v2 = m.v2; rows = rows_of m.files; links = m.links }

pub sizes-rows : (fs : List File) → sizes_of (rows_of fs) ≡ map (λ (f : File). f.size) fs
sizes-rows fs = map-map (λ (r : Row). r.size) row_of fs

-- its rows with their times
abbrev pub timed_of : File → Timed
timed_of f = record { row = row_of f; time = f.time }

abbrev pub timed_files : List File → List Timed
timed_files fs = map timed_of fs

pub timed-rows : (fs : List File) → rows_in (timed_files fs) ≡ rows_of fs
timed-rows fs = map-map (λ (t : Timed). t.row) timed_of fs

pub length-rows : (fs : List File) → length (rows_of fs) ≡ length fs
length-rows [] = refl
length-rows (f ∷ fs) = ap suc (length-rows fs)

same-book : {n : ℕ} {v v' : Bool} {r r' : List Row} {l l' : ℕ} → v ≡ v' → r ≡ r' → l ≡ l'
    → ◌≡◌ {A = Book} (record { piece_length = n; v2 = v; rows = r; links = l }) (record { piece_length = n; v2 = v'; rows = r'; links = l' })
same-book ev er el = cc

-- ---- an addition

empty-link : (l : List ℕ) → is_empty l ≡ not (ltb 0 (length l))
empty-link [] = refl
empty-link (c ∷ l) = rw (lt-ltb 0 (suc (length l)) (omega arith))

pub held_link : (l : List ℕ) → not (is_empty l) ≡ ltb 0 (length l)
held_link [] = refl
held_link (c ∷ l) = rw (lt-ltb 0 (suc (length l)) (omega arith))

-- the flag of a pad is kept
marked-kept : (flags : ℕ) (keeps : Bool) → flags_kept flags keeps % 2 ≡ flags % 2
marked-kept flags true = omega arith
marked-kept flags false = omega arith

-- a size and a root, by the book's words
pub natural-is : (z : ℤ) → clamped_of z ≡ natural z
natural-is (pos n) = refl
natural-is (negsuc n) = refl

pub given_is : (o : Option (List ℕ)) → is_present o ≡ is_given o
given_is None = refl
given_is (Some xs) = refl

pub plain-is : (a : Addition) → decides (size_added a) a.link ≡ is_plain a
plain-is a = ap₂ (λ (n : ℕ) (b : Bool). (ltb 0 n && b)) (natural-is a.size) (empty-link a.link)

-- the pad that follows is the row that fills up
pad-rows : (n : ℕ) (v2 : Bool) (o t : ℕ) → 0 < n → rows_of (pad_added o (pad_after v2 n t)) ≡ filling n v2 t
pad-rows n false o t h = refl
pad-rows n true o t h = at (eqb (t % n) 0) refl
  where
    at : (b : Bool) → eqb (t % n) 0 ≡ b → rows_of (pad_added o (pad_to n t)) ≡ cond (not b) (record { size = n - t % n; marked = true } ∷ []) []
    at true e = rw (← pad-none n t (eqb-true (t % n) 0 e))
    at false e =
        let l = mod-lt t {m = n} h in
        let k : eqb (n - t % n) 0 ≡ false = ne_eqb (n - t % n) 0 (λ q. omega arith) in
        rw (← pad-some n t h (eqb-false (t % n) 0 e), k)

pad-bytes : (o n : ℕ) → bytes_of (rows_of (pad_added o n)) ≡ n
pad-bytes o n = at (eqb n 0) refl
  where
    at : (b : Bool) → eqb n 0 ≡ b → bytes_of (rows_of (pad_added o n)) ≡ n
    at true e = rw e (sym (eqb-true n 0 e))
    at false e = rw e (omega arith)

-- which has no time
pad-untimed : (o n : ℕ) → timed_files (pad_added o n) ≡ map untimed (rows_of (pad_added o n))
pad-untimed o n = at (eqb n 0) refl
  where
    at : (b : Bool) → eqb n 0 ≡ b → timed_files (pad_added o n) ≡ map untimed (rows_of (pad_added o n))
    at true e = rw e
    at false e = rw e

link-counted : (b : Bool) (n : ℕ) → n + cond b 1 0 ≡ cond b (n + 1) n
link-counted true n = refl
link-counted false n = omega arith

module _ (m : Model) (a : Addition) (total : m.total ≡ sum (sizes m)) where
  pub bytes-is : m.total ≡ bytes_of (rows_of m.files)
  bytes-is = total ∙ ap sum (sym (sizes-rows m.files))

  pub bytes-with : m.total + size_added a ≡ bytes_of (rows_of m.files) + size_given a
  bytes-with = ap₂ (λ (t n : ℕ). t + n) bytes-is (natural-is a.size)

  pub open_is : additions.is_left_open m.total m.links (files_of m) ≡ is_left_open (book_of m)
  open_is = ap₂ (λ (t k : ℕ). (eqb t 0 || eqb m.links k)) bytes-is (sym (length-rows m.files))

  pub version-is : is_v2 m a ≡ version_after (book_of m) a
  version-is =
      ap₂ (λ (d o : Bool). cond (d && o) (is_present a.root) m.v2) (plain-is a) open_is
      ∙ ap (λ (b : Bool). cond (is_plain a && is_left_open (book_of m)) b m.v2) (given_is a.root)

  links-is : (added m a).links ≡ links_after (book_of m) a
  links-is =
      ap (λ (b : Bool). m.links + cond (b && ltb m.links 32766) 1 0) (held_link a.link)
      ∙ link-counted (has_link a && ltb m.links 32766) m.links

  module _ (some : 0 < m.piece_length) where
    file-row : row_of (file_added m a) ≡ row_for a
    file-row =
        ap₂ (λ (k n : ℕ). record { size = k; marked = eqb n 1 }) (natural-is a.size) (marked-kept a.flags (keeps m a))

    pad-row : rows_of (pad_added (m.total + size_added a) (pad_of m a)) ≡ filling m.piece_length (version_after (book_of m) a) (bytes_of (rows_of m.files) + size_given a)
    pad-row =
        pad-rows m.piece_length (is_v2 m a) (m.total + size_added a) (m.total + size_added a) some
        ∙ ap₂ (λ (v : Bool) (t : ℕ). filling m.piece_length v t) version-is bytes-with

    rows_is : rows_of (added m a).files ≡ (after_addition (book_of m) a).rows
    rows_is =
        map-append row_of m.files (file_added m a ∷ pad_added (m.total + size_added a) (pad_of m a))
        ∙ ap₂ (λ (r : Row) (l : List Row). rows_of m.files ++ (r ∷ l)) file-row pad-row

    pub timed-added : timed_files (added m a).files ≡ timed_after (book_of m) (timed_files m.files) (add a) done
    timed-added =
        map-append timed_of m.files (file_added m a ∷ pad_added (m.total + size_added a) (pad_of m a))
        ∙ ap₂ (λ (r : Row) (l : List Timed). timed_files m.files ++ (record { row = r; time = a.time } ∷ l)) file-row
        (pad-untimed (m.total + size_added a) (pad_of m a) ∙ ap (map untimed) pad-row)

    -- the pad's size is that of the row that fills up
    pub pad-is : pad_of m a ≡ bytes_of (filling m.piece_length (version_after (book_of m) a) (bytes_of (rows_of m.files) + size_given a))
    pad-is =
        sym (pad-bytes (m.total + size_added a) (pad_of m a))
        ∙ ap bytes_of (pad-rows m.piece_length (is_v2 m a) (m.total + size_added a) (m.total + size_added a) some)
        ∙ ap₂ (λ (v : Bool) (t : ℕ). bytes_of (filling m.piece_length v t)) version-is bytes-with

    pub book-added : book_of (added m a) ≡ after_addition (book_of m) a
    book-added = same-book version-is rows_is links-is

-- ---- a trim

sum-timed : (fs : List File) → bytes_of (rows_in (timed_files fs)) ≡ sum (map (λ (f : File). f.size) fs)
sum-timed fs = ap bytes_of (timed-rows fs) ∙ ap sum (sizes-rows fs)

-- where all rows are empty, none goes
trimmed-none : (fs : List File) → ((k : ℕ) → size_at k fs ≡ 0) → trimmed_timed (timed_files fs) ≡ timed_files fs
trimmed-none [] z = refl
trimmed-none (f ∷ fs) z =
    let e : eqb (bytes_of (rows_in (timed_files fs))) 0 ≡ true = eq-eqb (bytes_of (rows_in (timed_files fs))) 0 (sum-timed fs ∙ sum-zero (map (λ (g : File). g.size) fs) (λ k. z (suc k))) in
    let d : f.size ≡ 0 = z 0 in
    rw (e, d)

-- the last nonempty row goes where it is marked
trimmed-last : (fs : List File) (k : ℕ) → Last fs k → trimmed_timed (timed_files fs) ≡ cond (eqb (flags_at k fs % 2) 1) (timed_files (take k fs ++ drop (suc k) fs)) (timed_files fs)
trimmed-last [] k p = absurd (omega (arith, p.there))
trimmed-last (f ∷ fs) zero p =
    let e : eqb (bytes_of (rows_in (timed_files fs))) 0 ≡ true = eq-eqb (bytes_of (rows_in (timed_files fs))) 0 (sum-timed fs ∙ sum-zero (map (λ (g : File). g.size) fs) (λ k. p.behind (suc k) (omega arith))) in
    let d : ltb 0 f.size ≡ true = lt-ltb 0 f.size p.nonempty in
    rw (e, d)
trimmed-last (f ∷ fs) (suc k) p =
    let q : Last fs k = record { there = omega (arith, p.there); nonempty = p.nonempty; behind = λ i h. p.behind (suc i) (omega arith) } in
    let e : eqb (bytes_of (rows_in (timed_files fs))) 0 ≡ false = ne_eqb (bytes_of (rows_in (timed_files fs))) 0 (λ z. omega (arith, sum-timed fs, size_in fs k, p.nonempty)) in
    rw e (ap (λ (l : List Timed). timed_of f ∷ l) (trimmed-last fs k q) ∙ by (eqb (flags_at k fs % 2) 1))
  where
    size_in : (gs : List File) (i : ℕ) → size_at i gs ≤ sum (map (λ (g : File). g.size) gs)
    size_in [] zero = omega arith
    size_in [] (suc i) = omega arith
    size_in (g ∷ gs) zero = omega arith
    size_in (g ∷ gs) (suc i) = omega (arith, size_in gs i)

    by : (b : Bool) → timed_of f ∷ cond b (timed_files (take k fs ++ drop (suc k) fs)) (timed_files fs) ≡ cond b (timed_of f ∷ timed_files (take k fs ++ drop (suc k) fs)) (timed_of f ∷ timed_files fs)
    by true = refl
    by false = refl

pub timed-trimmed : (m : Model) → timed_files (trimmed_of m).files ≡ trimmed_timed (timed_files m.files)
timed-trimmed m = at (tail_pad m.files) refl
  where
    none : NoTailPad m.files → timed_files m.files ≡ trimmed_timed (timed_files m.files)
    none (bare z) = sym (trimmed-none m.files z)
    none (other f p q) =
        sym
        (trimmed-last m.files f p
        ∙ ap (λ (b : Bool). cond b (timed_files (take f m.files ++ drop (suc f) m.files)) (timed_files m.files)) (ne_eqb (flags_at f m.files % 2) 1 q))

    gone : (o f : ℕ) → timed_files (take f m.files ++ map (beginning_at o) (drop (f + 1) m.files)) ≡ timed_files (take f m.files ++ drop (suc f) m.files)
    gone o f =
        rw (add-one f)
        (map-append timed_of (take f m.files) (map (beginning_at o) (drop (suc f) m.files))
        ∙ ap (λ (l : List Timed). timed_files (take f m.files) ++ l) (map-map timed_of (beginning_at o) (drop (suc f) m.files))
        ∙ sym (map-append timed_of (take f m.files) (drop (suc f) m.files)))

    at : (o : Option ℕ) → tail_pad m.files ≡ o → timed_files (trimmed_if o m).files ≡ trimmed_timed (timed_files m.files)
    at None e = none (no-tail-pad m.files e)
    at (Some f) e =
        let p = tail-pad m.files f e in
        gone (m.total - size_at f m.files) f
        ∙ sym
        (trimmed-last m.files f p.last
        ∙ ap (λ (b : Bool). cond b (timed_files (take f m.files ++ drop (suc f) m.files)) (timed_files m.files)) (eq-eqb (flags_at f m.files % 2) 1 p.pad))

pub book-trimmed : (m : Model) → book_of (trimmed_of m) ≡ after_trim (book_of m)
book-trimmed m = at (tail_pad m.files) rows
  where
    rows : rows_of (trimmed_of m).files ≡ trimmed_rows (rows_of m.files)
    rows =
        sym (timed-rows (trimmed_of m).files)
        ∙ ap rows_in (timed-trimmed m)
        ∙ rows-trimmed (timed_files m.files)
        ∙ ap trimmed_rows (timed-rows m.files)

    at : (o : Option ℕ) → rows_of (trimmed_if o m).files ≡ trimmed_rows (rows_of m.files) → book_of (trimmed_if o m) ≡ after_trim (book_of m)
    at None e = same-book refl e refl
    at (Some f) e = same-book refl e refl

-- ---- calls that the book does not enter

-- a cleaning leaves sizes, pads and the number of link texts
pub book-cleaned : (m : Model) → book_of (cleaned_of m) ≡ book_of m
book-cleaned m = same-book refl (clean-map-same m row_of (λ l f. refl)) refl

-- and times
pub timed-cleaned : (m : Model) → timed_files (cleaned_of m).files ≡ timed_files m.files
timed-cleaned m = clean-map-same m timed_of (λ l f. refl)

-- whatever comes of a rename or of an import
pub entry-rename : (b : Book) (x : Naming) (o : Came) → entry b (rename x) o ≡ b
entry-rename b x done = refl
entry-rename b x (refused k) = refl

pub entry-import : (b : Book) (xs : List Naming) (o : Came) → entry b («import» xs) o ≡ b
entry-import b xs done = refl
entry-import b xs (refused k) = refl

pub timed-rename : (b : Book) (ts : List Timed) (x : Naming) (o : Came) → timed_after b ts (rename x) o ≡ ts
timed-rename b ts x done = refl
timed-rename b ts x (refused k) = refl

pub timed-import : (b : Book) (ts : List Timed) (xs : List Naming) (o : Came) → timed_after b ts («import» xs) o ≡ ts
timed-import b ts xs done = refl
timed-import b ts xs (refused k) = refl
