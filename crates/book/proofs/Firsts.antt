-- Document 02 (v): the table of 'the file in which each piece begins' is 'true after each addition and trim and each later
-- kind of change', over every list of calls on a set that keeps it. It is said over the book's sizes first; that relies on
-- the book's agreement with the set (Agree.antt) and on what the set's tables hold (Tables.antt).
--     Has, Firsts                 a byte of a file, and a table that has the file of each piece's first byte
--     held                        the tables hold the book's rows
--     firsts-kept                 the set's table is such a table of the book's sizes
--     told-kept, table-true       so it is true of the set's rows
--     room-kept, places-kept      it has a place for each piece, and so all that the set uses of it
--     places-are                  which is as many places as the book has pieces
--     add-mark, trim-mark, clean-mark, mark-opened     a set keeps the table where it was opened so
use Rattle.std.specs.Prelude.{Option, Some, None}
use mathlib.Core.Path.{◌≡◌, refl, sym, ap, ap₂, subst, ◌∙◌}
use mathlib.Core.Logic.{◌⊎◌, inl, inr}
use mathlib.Core.Bool.{Bool, true, false, cond, not, ◌&&◌, false≢true}
use mathlib.Core.List.{List, [], ◌∷◌, ◌++◌, map-append}
use Prim.Native.Nat.{ℕ, zero, suc, ◌+◌, ◌-◌, ◌*◌, ◌/◌, ◌%◌, ◌≤◌, ◌<◌}
use native.Mathlib.Nat.{suc-mul, mul-le-mul_right, div-add-mod', mod-lt}
use native.Mathlib.Omega.{arith}
use lib.Dec.{eqb, ltb}
use lib.ListN.{length, get_or, take, replicate, length-append, length-replicate, get_or-replicate, get_or-append}
use lib.Seq.{sets, length-sets, take_all, take-append_seam, take-append-le, get_or-append_seam}
use borrow.Author.Tests.{eqb-true, eqb-false, ltb-false}
use Rattle.lists.specs.Lists.{sum, ceiling}
use Rattle.lists.proofs.Orders.{le-or-lt}
use Rattle.lists.proofs.Quotients.{ceiling-above, ceiling-le, ceiling-mono, ceiling-zero}
use Rattle.lists.proofs.Runs.{get_or-sets, get_or-sets-below}
use Rattle.lists.proofs.Sums.{sum-append, sum-take-more}
use Rattle.tables.specs.declared.storage.FileStorage.{FileStorage}
use Rattle.tables.specs.Rows.{row_at}
use Rattle.tables.specs.Model.{Store, view_of}
use Rattle.rules.specs.Questions.{num_pieces}
use Rattle.change.specs.Changes.{Changed}
use Rattle.additions.specs.Addition.{Addition}
use Rattle.plan.specs.Write.{storage_added, store_added, firsts_added}
use Rattle.plan.specs.Outcomes.{adding_number, add_stored}
use Rattle.trim.specs.Trim.{tail_pad}
use Rattle.trim.specs.Removal.{trimmed_by, trim_stored}
use Rattle.lookup.specs.Lookup.{lent}
use Rattle.cleaning.specs.Cleaning.{Cleaned, clean_stored}
use Rattle.layout.specs.Window.{Told}
use Rattle.layout.proofs.Alike.{TrueTable}
use Rattle.sound.proofs.Added.Answer.{has-places}
use Rattle.reached.proofs.Cleaned.Lent.{cleaned-lent, mark-cleaned}
use Rattle.book.specs.Book.{add, trim, done, Made, Row, Book, sizes_of, bytes_of, size_given, row_for, version_after, filling, trimmed_rows, book}
use Rattle.book.specs.Calls.{came_of, store_after, cleaned_by, places_used, Renames, Leads}
use Rattle.book.specs.Calls as calls
use Rattle.book.proofs.Tables.{Holds, held-in-order, laid}
use Rattle.book.proofs.Entries.{sizes-rows, entry-rename, entry-import}
use Rattle.book.proofs.Rooted.{settled}
use Rattle.book.proofs.Lent.{as_long, get_or-below}
use Rattle.book.proofs.Agree.{Agrees, agrees, agrees-added, opened-is, after_call, after-clean, trim_number}

-- ---- files of given sizes, end to end

-- byte t is a byte of file f
pub record Has (xs : List ℕ) (f t : ℕ) : Type 0 where
  pub among : f < length xs
  pub low : sum (take f xs) ≤ t
  pub high : t < sum (take f xs) + get_or xs f 0

-- the file with the first byte of each piece, and a place for each piece
pub record Firsts (n : ℕ) (xs firsts : List ℕ) : Type 0 where
  pub each : (p : ℕ) → p * n < sum xs → Has xs (get_or firsts p 0) (p * n)
  pub room : ceiling (sum xs) n ≤ length firsts

-- a byte of a file stays one where files follow, and the first that follows has the bytes behind the others
has-front : (xs ys : List ℕ) (f t : ℕ) → Has xs f t → Has (xs ++ ys) f t
has-front xs ys f t w =
    let e = take-append-le f xs ys (omega (arith, w.among)) in
    let g = get_or-append xs ys 0 f w.among in
    record { among = omega (arith, w.among, length-append xs ys); low = rw e w.low; high = rw (e, g) w.high }

has-next : (xs : List ℕ) (x : ℕ) (ys : List ℕ) (t : ℕ) → sum xs ≤ t → t < sum xs + x → Has (xs ++ (x ∷ ys)) (length xs) t
has-next xs x ys t l h =
    let e = take-append_seam xs (x ∷ ys) in
    record { among = omega (arith, length-append xs (x ∷ ys)); low = rw e l; high = rw (e, get_or-append_seam xs x ys 0) h }

-- no files have no pieces
firsts-none : (n : ℕ) (firsts : List ℕ) → Firsts n [] firsts
firsts-none n firsts = record { each = λ p h. absurd (none h); room = rw (ceiling-zero n) (omega arith) }
  where
    none : {x : ℕ} → x < 0 → ⊥
    none h = omega arith

-- a file of x bytes is added, and files ys behind it in which no piece begins: the pieces that are new begin in the file
module _ (n : ℕ) (some : 0 < n) (xs : List ℕ) (x : ℕ) (ys : List ℕ) (idle : (p : ℕ) → p * n < sum xs + (x + sum ys) → p * n < sum xs + x) where
  abbrev more : List ℕ
  more = xs ++ (x ∷ ys)

  abbrev before : ℕ
  before = ceiling (sum xs) n

  abbrev after : ℕ
  after = ceiling (sum more) n

  firsts_more : (firsts : List ℕ) → Firsts n xs firsts → after ≤ length firsts → Firsts n more (sets firsts before (replicate (after - before) (length xs)))
  firsts_more firsts k room =
      record {
        each = λ p h. by p h (le-or-lt (sum xs) (p * n));
        room = rw (length-sets firsts before new) room;
      }
    where
      new : List ℕ
      new = replicate (after - before) (length xs)

      by : (p : ℕ) → p * n < sum more → (sum xs ≤ p * n) ⊎ (p * n < sum xs) → Has more (get_or (sets firsts before new) p 0) (p * n)
      by p h (inr b) =
          let e = get_or-sets-below new firsts before p 0 (ceiling-above (sum xs) n some p b) in
          rw e (has-front xs (x ∷ ys) (get_or firsts p 0) (p * n) (k.each p b))
      by p h (inl b) =
          let l : before ≤ p = ceiling-le (sum xs) n some p b in
          let u : p < after = ceiling-above (sum more) n some p h in
          let d : before + (p - before) ≡ p = omega arith in
          let e : get_or (sets firsts before new) p 0 ≡ length xs =
          ap (λ (i : ℕ). get_or (sets firsts before new) i 0) (sym d)
          ∙ get_or-sets new firsts before (p - before) 0 (omega (arith, length-replicate (after - before) (length xs))) (omega (arith, room))
          ∙ get_or-replicate (after - before) (p - before) (length xs) 0 (omega arith) in
          rw e (has-next xs x ys (p * n) b (idle p (rw (sum-append xs (x ∷ ys)) at h)))

-- the files that are left have the bytes that they had
firsts-less : (n : ℕ) → 0 < n → (xs ys firsts : List ℕ) → sum ys ≤ sum xs → ((f t : ℕ) → t < sum ys → Has xs f t → Has ys f t) → Firsts n xs firsts → Firsts n ys firsts
firsts-less n some xs ys firsts l left k =
    record {
      each = λ p h. left (get_or firsts p 0) (p * n) h (k.each p (omega arith));
      room = omega (arith, k.room, ceiling-mono (sum ys) (sum xs) n some l);
    }

-- a table that begins alike
firsts-alike : (n : ℕ) → 0 < n → (xs firsts others : List ℕ) → take (ceiling (sum xs) n) others ≡ take (ceiling (sum xs) n) firsts → Firsts n xs firsts → Firsts n xs others
firsts-alike n some xs firsts others e k =
    record {
      each = λ p h. rw (get_or-below (ceiling (sum xs) n) others firsts e p 0 (ceiling-above (sum xs) n some p h)) (k.each p h);
      room = as_long (ceiling (sum xs) n) others firsts e k.room;
    }

-- ---- the book's changes

-- the row that fills up a piece ends with it and is shorter than one, so no piece begins in it
filled-up : (n : ℕ) → 0 < n → (v2 : Bool) (bytes p : ℕ) → p * n < bytes + bytes_of (filling n v2 bytes) → p * n < bytes
filled-up n some v2 bytes p h = at (v2 && not (eqb (bytes % n) 0)) refl h
  where
    rest : (a b : Bool) → (a && not b) ≡ true → b ≡ false
    rest true false e = refl
    rest true true e = absurd (false≢true e)
    rest false b e = absurd (false≢true e)

    at : (b : Bool) → (v2 && not (eqb (bytes % n) 0)) ≡ b → p * n < bytes + sum (sizes_of (cond b (record { size = n - bytes % n; marked = true } ∷ []) [])) → p * n < bytes
    at false q l = omega arith
    at true q l = by (le-or-lt p (bytes / n))
      where
        off : bytes % n ≡ 0 → ⊥
        off = eqb-false (bytes % n) 0 (rest v2 (eqb (bytes % n) 0) q)

        by : (p ≤ bytes / n) ⊎ (bytes / n < p) → p * n < bytes
        by (inl a) = let z = off in omega (arith, mul-le-mul_right n a, div-add-mod' bytes n)
        by (inr a) =
            let m : suc (bytes / n) * n ≤ p * n = mul-le-mul_right n a in
            absurd (omega (arith, suc-mul (bytes / n) n, div-add-mod' bytes n, mod-lt bytes some))

-- a trim takes a row behind which there are no bytes
trimmed-less : (rs : List Row) → bytes_of (trimmed_rows rs) ≤ bytes_of rs
trimmed-less [] = omega arith
trimmed-less (r ∷ rs) = at (trimmed-less rs) (eqb (bytes_of rs) 0) (ltb 0 r.size && r.marked)
  where
    at : bytes_of (trimmed_rows rs) ≤ bytes_of rs → (b c : Bool) → bytes_of (cond b (cond c rs (r ∷ rs)) (r ∷ trimmed_rows rs)) ≤ bytes_of (r ∷ rs)
    at l true true = omega arith
    at l true false = omega arith
    at l false c = omega arith

-- so the files that are left have the bytes that they had
trimmed-left : (rs : List Row) (f t : ℕ) → t < bytes_of (trimmed_rows rs) → Has (sizes_of rs) f t → Has (sizes_of (trimmed_rows rs)) f t
trimmed-left [] f t h w = w
trimmed-left (r ∷ rs) f t h w = at (λ f t. trimmed-left rs f t) (eqb (bytes_of rs) 0) refl (ltb 0 r.size && r.marked) h f w
  where
    at : ((f t : ℕ) → t < bytes_of (trimmed_rows rs) → Has (sizes_of rs) f t → Has (sizes_of (trimmed_rows rs)) f t)
        → (b : Bool) → eqb (bytes_of rs) 0 ≡ b → (c : Bool) → t < bytes_of (cond b (cond c rs (r ∷ rs)) (r ∷ trimmed_rows rs))
        → (f : ℕ) → Has (sizes_of (r ∷ rs)) f t → Has (sizes_of (cond b (cond c rs (r ∷ rs)) (r ∷ trimmed_rows rs))) f t
    at left true q true h f w = let z = eqb-true (bytes_of rs) 0 q in absurd (omega arith)
    at left true q false h f w = w
    at left false q c h zero w = record { among = omega arith; low = w.low; high = w.high }
    at left false q c h (suc f) w =
        let i = left f (t - r.size) (omega (arith, w.low, w.high)) (record { among = omega (arith, w.among); low = omega (arith, w.low); high = omega (arith, w.low, w.high) }) in
        record { among = omega (arith, i.among); low = omega (arith, i.low, w.low); high = omega (arith, i.high, w.low) }

-- ---- the set's tables

-- the tables hold the book's rows
pub held : {n : ℕ} {made : List Made} {s : Store} → Agrees n made s → Holds n (sizes_of (book n made).rows) s.fs s.rows
held {n} {made} {s} g =
    held-in-order n (sizes_of (book n made).rows) s g.sound g.lengths g.some g.short
    (sym (sizes-rows (view_of s).files) ∙ ap (λ (b : Book). sizes_of b.rows) g.books)

-- so many pieces
pieces_are : {n : ℕ} {xs : List ℕ} {fs : FileStorage} {rows : List ℕ} → Holds n xs fs rows → num_pieces fs ≡ ceiling (sum xs) n
pieces_are h = ap₂ ceiling h.total h.long

used-are : {n : ℕ} {xs : List ℕ} {fs : FileStorage} {rows : List ℕ} → Holds n xs fs rows → fs.indexed ≡ true → places_used fs ≡ ceiling (sum xs) n
used-are {fs = fs} h i = ap (λ (b : Bool). cond b (num_pieces fs) 0) i ∙ pieces_are h

-- an addition that is done
firsts-added : {n : ℕ} {made : List Made} (s : Store) (a : Addition) → Agrees n made s → adding_number s (view_of s) a ≡ 0 → s.fs.indexed ≡ true
    → Firsts n (sizes_of (book n made).rows) s.firsts → Firsts n (sizes_of (book n (record { call = add a; came = done } ∷ made)).rows) (firsts_added s (view_of s) a)
firsts-added {n} {made} s a g z e k =
    subst (λ (b : Bool). Firsts n (sizes_of (rows ++ (row_for a ∷ fill))) (cond b written s.firsts)) (sym e)
    (subst (λ (zs : List ℕ). Firsts n zs written) (sym is)
    (subst (λ (l : List ℕ). Firsts n more l) (sym put)
    (firsts_more n g.some xs (size_given a) (sizes_of fill) idle s.firsts k room)))
  where
    rows : List Row
    rows = (book n made).rows

    fill : List Row
    fill = filling (book n made).piece_length (version_after (book n made) a) (bytes_of rows + size_given a)

    xs : List ℕ
    xs = sizes_of rows

    more : List ℕ
    more = xs ++ (size_given a ∷ sizes_of fill)

    is : sizes_of (rows ++ (row_for a ∷ fill)) ≡ more
    is = map-append (λ (r : Row). r.size) rows (row_for a ∷ fill)

    written : List ℕ
    written =
        sets s.firsts (num_pieces s.fs) (replicate (num_pieces (storage_added s.fs (view_of s) a) - num_pieces s.fs) s.fs.num_files)

    after : num_pieces (storage_added s.fs (view_of s) a) ≡ ceiling (sum more) n
    after = pieces_are (held (agrees-added s a g (settled s a g.sound z))) ∙ ap (λ (l : List ℕ). ceiling (sum l) n) is

    put : written ≡ sets s.firsts (ceiling (sum xs) n) (replicate (ceiling (sum more) n - ceiling (sum xs) n) (length xs))
    put = rw (after, pieces_are (held g), (held g).count)

    room : ceiling (sum more) n ≤ length s.firsts
    room =
        let l : (true && ltb (length s.firsts) (num_pieces (storage_added s.fs (view_of s) a))) ≡ false =
        subst (λ (b : Bool). (b && ltb (length s.firsts) (num_pieces (storage_added s.fs (view_of s) a))) ≡ false) e (has-places s (view_of s) a z) in
        omega (arith, ltb-false (length s.firsts) (num_pieces (storage_added s.fs (view_of s) a)) l, after)

    idle : (p : ℕ) → p * n < sum xs + (size_given a + sum (sizes_of fill)) → p * n < sum xs + size_given a
    idle p h =
        let c : (book n made).piece_length ≡ n = ap (λ (b : Book). b.piece_length) (sym g.books) ∙ g.lengths in
        let b : bytes_of fill ≡ bytes_of (filling n (version_after (book n made) a) (bytes_of rows + size_given a)) = ap (λ (m : ℕ). bytes_of (filling m (version_after (book n made) a) (bytes_of rows + size_given a))) c in
        filled-up n g.some (version_after (book n made) a) (bytes_of rows + size_given a) p (omega (arith, h, b))

-- a trim that is done
firsts-trimmed : {n : ℕ} {made : List Made} (s : Store) → Agrees n made s → (s.fs.indexed ≡ true → Firsts n (sizes_of (book n made).rows) s.firsts)
    → (o : Option ℕ) → (trimmed_by o s).fs.indexed ≡ true → Firsts n (sizes_of (trimmed_rows (book n made).rows)) (trimmed_by o s).firsts
firsts-trimmed {n} {made} s g k = at
  where
    less : s.fs.indexed ≡ true → Firsts n (sizes_of (trimmed_rows (book n made).rows)) s.firsts
    less i =
        firsts-less n g.some (sizes_of (book n made).rows) (sizes_of (trimmed_rows (book n made).rows)) s.firsts (trimmed-less (book n made).rows) (trimmed-left (book n made).rows) (k i)

    at : (o : Option ℕ) → (trimmed_by o s).fs.indexed ≡ true → Firsts n (sizes_of (trimmed_rows (book n made).rows)) (trimmed_by o s).firsts
    at None = less
    at (Some f) = less

-- ---- every list of calls

-- what holds of the first files after a call
abbrev Keeps : ℕ → List Made → Made → Store → Type 0
Keeps n made m t = t.fs.indexed ≡ true → Firsts n (sizes_of (book n (m ∷ made)).rows) t.firsts

pub firsts-kept : {n : ℕ} {made : List Made} {s : Store} {r : Renames} → Leads n made s r → s.fs.indexed ≡ true → Firsts n (sizes_of (book n made).rows) s.firsts
firsts-kept {n} (calls.opening {s} indexed h e z) i = firsts-none n s.firsts
firsts-kept {n} (calls.addition {made} {s} a c p e) i =
    after_call (Keeps n made) (add a) (adding_number s (view_of s) a) s (store_added s (view_of s) a)
    (λ z i. firsts-added s a (agrees p) z i (firsts-kept p i))
    (λ i. firsts-kept p i)
    c
    e
    i
firsts-kept {n} (calls.trim {made} {s} c p e) i =
    after_call (Keeps n made) trim (trim_number s) s (trimmed_by (tail_pad (view_of s).files) s)
    (λ z. firsts-trimmed s (agrees p) (λ i. firsts-kept p i) (tail_pad (view_of s).files))
    (λ i. firsts-kept p i)
    c
    e
    i
firsts-kept {n} (calls.cleaning {made} {s} marks stage path c p e) i =
    after-clean (Keeps n made) s marks stage path
    (λ z i. subst (λ (l : List ℕ). Firsts n (sizes_of (book n made).rows) l) (sym (ap (λ (t : Store). t.firsts) (cleaned-lent (length stage) s))) (firsts-kept p (sym (mark-cleaned (length stage) s) ∙ i)))
    (λ k i. firsts-kept p i)
    c
    e
    i
firsts-kept {n} (calls.renaming {made} {s} x c p e) i =
    subst (λ (b : Book). Firsts n (sizes_of b.rows) s.firsts) (sym (entry-rename (book n made) x (came_of c.says))) (firsts-kept p i)
firsts-kept {n} (calls.importing {made} {s} xs c p e) i =
    subst (λ (b : Book). Firsts n (sizes_of b.rows) s.firsts) (sym (entry-import (book n made) xs (came_of c.says))) (firsts-kept p i)
firsts-kept {n} (calls.lending {made} {s} {t} p same names) i =
    let j : s.fs.indexed ≡ true = ap (λ (fs : FileStorage). fs.indexed) (sym same.fs) ∙ i in
    let u = used-are (held (agrees p)) j in
    firsts-alike n (agrees p).some (sizes_of (book n made).rows) s.firsts t.firsts (subst (λ (k : ℕ). take k t.firsts ≡ take k s.firsts) u same.firsts) (firsts-kept p j)

module _ {n : ℕ} {made : List Made} {s : Store} {r : Renames} (l : Leads n made s r) where
  -- the table is true
  pub told-kept : s.fs.indexed ≡ true → Told s.fs s.rows s.firsts
  told-kept i p b =
      let h = held (agrees l) in
      let w = (firsts-kept l i).each p (rw (h.long, h.total) at b) in
      rw (h.long, h.count)
      (record {
        among = w.among;
        low = rw (h.offsets (get_or s.firsts p 0) w.among) w.low;
        high = rw (h.offsets (get_or s.firsts p 0) w.among, ← h.sizes (get_or s.firsts p 0) w.among) w.high;
      })

  -- and so of rows that lie end to end and reach the total, as the laws of the search by a window ask (layout,
  -- proofs/Alike.antt)
  pub table-true : s.fs.indexed ≡ true → TrueTable s.fs s.rows s.firsts
  table-true i =
      let h = held (agrees l) in
      record {
        laid = λ k b. laid h k (rw h.count at b);
        reaches = λ k e. last k (e ∙ h.count);
        told = told-kept i;
      }
    where
      last : (k : ℕ) → k + 1 ≡ length (sizes_of (book n made).rows) → s.fs.total_size ≤ (row_at s.rows k).offset + (row_at s.rows k).size
      last k e =
          let h = held (agrees l) in
          let xs = sizes_of (book n made).rows in
          let a : sum (take (k + 1) xs) ≡ sum xs = ap sum (take_all (k + 1) xs (omega arith)) in
          omega (arith, h.total, h.offsets k (omega arith), h.sizes k (omega arith), sum-take-more xs k)

  pub room-kept : s.fs.indexed ≡ true → num_pieces s.fs ≤ length s.firsts
  room-kept i = omega (arith, (firsts-kept l i).room, pieces_are (held (agrees l)))

  -- as many places are used as the book has pieces, fewer after a trim
  pub places-are : s.fs.indexed ≡ true → places_used s.fs ≡ ceiling (bytes_of (book n made).rows) n
  places-are = used-are (held (agrees l))

  pub places-kept : places_used s.fs ≤ length s.firsts
  places-kept = at s.fs.indexed refl
    where
      at : (b : Bool) → s.fs.indexed ≡ b → cond b (num_pieces s.fs) 0 ≤ length s.firsts
      at true i = room-kept i
      at false i = omega arith

-- ---- whether a set keeps the table

-- no call changes that
module _ (s : Store) where
  abbrev Marks : Made → Store → Type 0
  Marks m t = t.fs.indexed ≡ s.fs.indexed

  pub add-mark : (a : Addition) (c : Changed) → c ≡ add_stored s a → (store_after s.fs c).fs.indexed ≡ s.fs.indexed
  add-mark a = after_call Marks (add a) (adding_number s (view_of s) a) s (store_added s (view_of s) a) (λ z. refl) refl

  pub trim-mark : (c : Changed) → c ≡ trim_stored s → (store_after s.fs c).fs.indexed ≡ s.fs.indexed
  trim-mark =
      after_call Marks trim (trim_number s) s (trimmed_by (tail_pad (view_of s).files) s) (λ z. by (tail_pad (view_of s).files)) refl
    where
      by : (o : Option ℕ) → (trimmed_by o s).fs.indexed ≡ s.fs.indexed
      by None = refl
      by (Some f) = refl

  pub clean-mark : (marks stage path : List ℕ) (c : Cleaned) → c ≡ clean_stored (lent s.fs s.rows s.dirs s.text) marks stage path
      → (store_after s.fs (cleaned_by s c)).fs.indexed ≡ s.fs.indexed
  clean-mark marks stage path = after-clean Marks s marks stage path (λ z. mark-cleaned (length stage) s) (λ k. refl)

-- how the set was opened
abbrev pub opened_as : {n : ℕ} {made : List Made} {s : Store} {r : Renames} → Leads n made s r → Bool
opened_as (calls.opening indexed h e z) = indexed
opened_as (calls.addition a c p e) = opened_as p
opened_as (calls.trim c p e) = opened_as p
opened_as (calls.cleaning marks stage path c p e) = opened_as p
opened_as (calls.renaming x c p e) = opened_as p
opened_as (calls.importing xs c p e) = opened_as p
opened_as (calls.lending p same names) = opened_as p

pub mark-opened : {n : ℕ} {made : List Made} {s : Store} {r : Renames} (p : Leads n made s r) → s.fs.indexed ≡ opened_as p
mark-opened {n} (calls.opening {s} indexed h e z) = ap (λ (fs : FileStorage). fs.indexed) (sym (opened-is n indexed s e).1)
mark-opened (calls.addition {made} {s} a c p e) = add-mark s a c e ∙ mark-opened p
mark-opened (calls.trim {made} {s} c p e) = trim-mark s c e ∙ mark-opened p
mark-opened (calls.cleaning {made} {s} marks stage path c p e) = clean-mark s marks stage path c e ∙ mark-opened p
mark-opened (calls.renaming x c p e) = mark-opened p
mark-opened (calls.importing xs c p e) = mark-opened p
mark-opened (calls.lending p same names) = ap (λ (fs : FileStorage). fs.indexed) same.fs ∙ mark-opened p
