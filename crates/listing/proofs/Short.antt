-- The listing of every input is at most 262144 bytes long, the length of the buffer that `setlist` lends: a file's path is
-- at most twice as long as its line and one byte more, a pad's is short, and there are at most 400 files. Relies on the
-- laws of Printed.antt and Steps.antt.
use Rattle.std.specs.Prelude.{Option, Some, None}
use Prim.Native.Nat.{ℕ, suc, ◌+◌, ◌*◌, ◌%◌, ◌≤◌}
use mathlib.Core.Path.{◌≡◌, refl, sym, ap, subst, ◌∙◌}
use mathlib.Core.Bool.{Bool, true, false, cond, not, ◌&&◌, ◌||◌}
use mathlib.Core.List.{List, [], ◌∷◌, ◌++◌}
use native.Mathlib.Omega.{arith}
use lib.Dec.{eqb, ltb, leb}
use lib.IntN.{ℤ, pos}
use lib.ListN.{length, drop, length-append, length-drop}
use borrow.Author.Tests.{ltb-false, eqb-true}
use Rattle.lists.specs.Lists.{equal, any, ceiling}
use Rattle.lists.specs.Decimal.{decimal, column}
use Rattle.lists.proofs.Decimals.{decimal-few, column-length}
use Rattle.types.specs.Refusals.{Outcome, value, refused}
use Rattle.path.specs.Split.{is_separator, is_complete, trimmed_from, trimmed, before_last, after_last, after_first, rsplit_branch, rsplit_leaf, lsplit_first, lsplit_rest, has_parent_path}
use Rattle.path.specs.Join.{is_empty}
use Rattle.tables.specs.Model.{Directory, single, absolute, stored, File, Model}
use Rattle.rules.specs.Rules.{first_of}
use Rattle.rules.specs.Bounds.{limit, is_negative, bad_length}
use Rattle.additions.specs.Addition.{Addition, limited_name, bad_name, disagree, files_of, without_leading, directory_under, path_name, stored_name, directory_added, new_name, file_added, pad_added, pad_directory_name, pad_of, size_added, added, lacks, text_of, adding_rules, added_to}
use Rattle.storage.specs.Opening.{new_model}
use Rattle.listing_input.specs.Form.{FileEntry, lines_from, lines, piece_length_in, file_in}
use Rattle.listing.specs.Run.{addition_of, go_on, read_as, run_from, opened_as, run_lines, run, places, listing}
use Rattle.listing_output.specs.Output.{Run, listed, stopped, pieces, internal_path, file_line, file_lines, totals_line, printed}
use Rattle.listing_output.proofs.Printed.{joined-few, four-length, refusal-length}
use Rattle.listing.proofs.Steps.{path-is}

-- parts of a path are no longer than it
cond-few : (b : Bool) (x y : List ℕ) (n : ℕ) → length x ≤ n → length y ≤ n → length (cond b x y) ≤ n
cond-few true x y n h k = h
cond-few false x y n h k = k

trimmed-from-few : (f : ℕ → Bool) (c : ℕ) (t : List ℕ) → length (trimmed_from f c t) ≤ suc (length t)
trimmed-from-few f c [] = cond-few (f c) [] (c ∷ []) 1 (omega arith) (omega arith)
trimmed-from-few f c (d ∷ t) = omega (arith, trimmed-from-few f d t)

trimmed-few : (f : ℕ → Bool) (p : List ℕ) → length (trimmed f p) ≤ length p
trimmed-few f [] = omega arith
trimmed-few f (c ∷ t) = trimmed-from-few f c t

before-last-few : (p : List ℕ) → length (before_last p) ≤ length p
before-last-few [] = omega arith
before-last-few (c ∷ t) = cond-few (any is_separator t) (c ∷ before_last t) [] (suc (length t)) (omega (arith, before-last-few t)) (omega arith)

after-last-few : (p : List ℕ) → length (after_last p) ≤ length p
after-last-few [] = omega arith
after-last-few (c ∷ t) =
    cond-few (any is_separator t) (after_last t) (cond (is_separator c) t (c ∷ t)) (suc (length t)) (omega (arith, after-last-few t))
    (cond-few (is_separator c) t (c ∷ t) (suc (length t)) (omega arith) (omega arith))

after-first-few : (p : List ℕ) → length (after_first p) ≤ length p
after-first-few [] = omega arith
after-first-few (c ∷ t) = cond-few (is_separator c) t (after_first t) (suc (length t)) (omega arith) (omega (arith, after-first-few t))

unled-few : (p : List ℕ) → length (without_leading p) ≤ length p
unled-few [] = omega arith
unled-few (c ∷ t) = cond-few (is_separator c) (without_leading t) (c ∷ t) (suc (length t)) (omega (arith, unled-few t)) (omega arith)

branch-part-few : (p : List ℕ) → length (rsplit_branch p) ≤ length p
branch-part-few p = omega (arith, before-last-few (trimmed is_separator p), trimmed-few is_separator p)

leaf-part-few : (p : List ℕ) → length (rsplit_leaf p) ≤ length p
leaf-part-few p = omega (arith, after-last-few (trimmed is_separator p), trimmed-few is_separator p)

rest-part-few : (p : List ℕ) → length (lsplit_rest p) ≤ length p
rest-part-few p = omega (arith, after-first-few (drop (cond (is_complete p) 1 0) p), length-drop (cond (is_complete p) 1 0) p)

-- the directory and the name of a file that is added
directory_length : Directory → ℕ
directory_length single = 0
directory_length absolute = 0
directory_length (stored d outside) = length d

under-few : (b : Bool) (branch : List ℕ) → directory_length (cond b (stored (without_leading (lsplit_rest branch)) false) (stored branch true)) ≤ length branch
unfolding directory_length
under-few true branch = omega (arith, unled-few (lsplit_rest branch), rest-part-few branch)
under-few false branch = omega arith

place-few : (a b : Bool) (name path : List ℕ) → directory_length (cond a absolute (cond b single (directory_under name (rsplit_branch path)))) ≤ length path
unfolding directory_length
place-few true b name path = omega arith
place-few false true name path = omega arith
place-few false false name path =
    omega (arith, under-few (equal (lsplit_first (rsplit_branch path)) name) (rsplit_branch path), branch-part-few path)

name-few : (path : List ℕ) → length (path_name path) ≤ length path
name-few path = cond-few (is_complete path) path (rsplit_leaf path) (length path) (omega arith) (leaf-part-few path)

-- the length of an internal path
module _ (offset size : ℕ) (name : List ℕ) (flags : ℕ) (time : ℤ) (link root : Option (List ℕ)) (made : Bool) where
  inside-few : (d : Directory) → length (internal_path (record { offset = offset; size = size; name = name; directory = d; flags = flags; time = time; link = link; root = root; made = made })) ≤ directory_length d + 1 + length name
  unfolding directory_length
  inside-few single = omega arith
  inside-few absolute = omega arith
  inside-few (stored d outside) = joined-few d name

added-path-few : (m : Model) (a : Addition) → a.given ≡ None → length (internal_path (file_added m a)) ≤ 2 * length a.path + 1
added-path-few m a e =
    let f = file_added m a in
    let n : f.name ≡ path_name a.path = ap (λ (g : Option (List ℕ)). stored_name g a.path) e in
    omega (
      arith,
      inside-few f.offset f.size f.name f.flags f.time f.link f.root f.made (directory_added m a),
      place-few (is_complete a.path) (is_empty (rsplit_branch a.path)) (new_name m a) a.path,
      ap length n,
      name-few a.path,
    )

-- the paths of files together
paths_length : List File → ℕ
paths_length [] = 0
paths_length (f ∷ fs) = length (internal_path f) + paths_length fs

paths-append : (fs gs : List File) → paths_length (fs ++ gs) ≡ paths_length fs + paths_length gs
unfolding paths_length
paths-append [] gs = omega arith
paths-append (f ∷ fs) gs = omega (arith, paths-append fs gs)

pad-few : (b : Bool) (offset size : ℕ) (pad : File) → length (internal_path pad) ≤ 26 → paths_length (cond b [] (pad ∷ [])) ≤ 26 * length (cond b [] (pad ∷ []))
unfolding paths_length
pad-few true offset size pad h = omega arith
pad-few false offset size pad h = omega arith

pads-few : (offset size : ℕ) → paths_length (pad_added offset size) ≤ 26 * length (pad_added offset size)
pads-few offset size =
    pad-few (eqb size 0) offset size
    (record { offset = offset; size = size; name = decimal size; directory = stored pad_directory_name false; flags = 1; time = pos 0; link = None; root = None; made = true })
    (omega (arith, joined-few pad_directory_name (decimal size), decimal-few size))

length-files : (fs gs : List File) → length (fs ++ gs) ≡ length fs + length gs
length-files fs gs = length-append fs gs

added-few : (m : Model) (a : Addition) → a.given ≡ None → paths_length (added m a).files + 26 * files_of m ≤ paths_length m.files + 2 * length a.path + 26 * files_of (added m a)
unfolding paths_length
added-few m a e =
    let pads = pad_added (m.total + size_added a) (pad_of m a) in
    omega (
      arith,
      paths-append m.files (file_added m a ∷ pads),
      length-files m.files (file_added m a ∷ pads),
      added-path-few m a e,
      pads-few (m.total + size_added a) (pad_of m a),
    )

-- an addition that was taken left at most 400 files
pass : (t : Bool) (n k : ℕ) → cond t (n + 1) k ≡ 0 → k ≡ 0
pass true n k e = absurd (omega arith)
pass false n k e = e

last-pass : (t : Bool) → ◌≡◌ {A = ℕ} (cond t 10 0) 0 → t ≡ false
last-pass true e = absurd (omega arith)
last-pass false e = refl

either-none : (a b : Bool) → (a || b) ≡ false → a ≡ false
either-none true b e = e
either-none false b e = refl

-- the last of eleven rules, where none holds
module _ (a b c d e f g h i j t : Bool) where
  abbrev r0 : ℕ
  r0 = cond t 10 0

  abbrev r1 : ℕ
  r1 = cond j 4 r0

  abbrev r2 : ℕ
  r2 = cond i 9 r1

  abbrev r3 : ℕ
  r3 = cond h 8 r2

  abbrev r4 : ℕ
  r4 = cond g 7 r3

  abbrev r5 : ℕ
  r5 = cond f 6 r4

  abbrev r6 : ℕ
  r6 = cond e 5 r5

  abbrev r7 : ℕ
  r7 = cond d 4 r6

  abbrev r8 : ℕ
  r8 = cond c 3 r7

  abbrev r9 : ℕ
  r9 = cond b 2 r8

  abbrev r10 : ℕ
  r10 = cond a 1 r9

  all_pass : r10 ≡ 0 → t ≡ false
  all_pass q = last-pass t (pass j 3 r0 (pass i 8 r1 (pass h 7 r2 (pass g 6 r3 (pass f 5 r4 (pass e 4 r5 (pass d 3 r6 (pass c 2 r7 (pass b 1 r8 (pass a 0 r9 q))))))))))

room-left : (m : Model) (a : Addition) (no_room : Bool) → first_of (adding_rules m a no_room) ≡ 0 → no_room ≡ false
room-left m a no_room e =
    all_pass (bad_length m.piece_length)
    (is_negative a.size)
    (ltb limit (size_added a))
    (ltb limit (m.total + size_added a))
    (leb 4096 (length (limited_name a.given a.path)))
    (bad_name a.given a.path)
    (not (has_parent_path a.path) && ltb 0 (files_of m))
    (disagree m a && m.v2)
    (disagree m a)
    (ltb limit (m.total + size_added a + pad_of m a))
    no_room
    e

taken : (m next : Model) (a : Addition) → added_to places m a ≡ value next → (next ≡ added m a) × (files_of (added m a) ≤ 400)
taken m next a e = at (eqb k 0) refl e
  where
    no_room : Bool
    no_room = lacks places (added m a) (text_of (added m a))

    k : ℕ
    k = first_of (adding_rules m a no_room)

    at : (b : Bool) → eqb k 0 ≡ b → cond b (value (added m a)) (refused k) ≡ value next → (next ≡ added m a) × (files_of (added m a) ≤ 400)
    at true t q =
        let z : next ≡ added m a = cc in
        let f = room-left m a no_room (eqb-true k 0 t) in
        (z, ltb-false 400 (files_of (added m a)) (either-none (ltb 400 (files_of (added m a))) (ltb 400 (length (added m a).directories) || ltb 65536 (text_of (added m a))) f))
    at false t q = let z : ◌≡◌ {A = ℕ} 0 1 = cc in absurd (omega arith)

-- the lines of an input are no longer than it
lines_length : List (List ℕ) → ℕ
lines_length [] = 0
lines_length (l ∷ ls) = length l + lines_length ls

lines_step : (b : Bool) (line : List ℕ) (more rest : List (List ℕ)) (n : ℕ) → lines_length rest ≤ n → lines_length more ≤ length line + 1 + n → lines_length (cond b (line ∷ rest) more) ≤ length line + suc n
unfolding lines_length
lines_step true line more rest n h k = omega arith
lines_step false line more rest n h k = omega arith

lines-last : (b : Bool) (line : List ℕ) → lines_length (cond b [] (line ∷ [])) ≤ length line + 0
unfolding lines_length
lines-last true line = omega arith
lines-last false line = omega arith

lines-from-few : (line s : List ℕ) → lines_length (lines_from line s) ≤ length line + length s
lines-from-few line [] = lines-last (is_empty line) line
lines-from-few line (c ∷ t) =
    lines_step (eqb c 10) line (lines_from (line ++ (c ∷ [])) t) (lines_from [] t) (length t)
    (omega (arith, lines-from-few [] t))
    (omega (arith, lines-from-few (line ++ (c ∷ [])) t, length-append line (c ∷ [])))

-- what a run keeps: the paths are bounded by the lines that were obeyed and the number of files
record Bounded (m n : Model) (bytes : ℕ) : Type 0 where
  few : files_of n ≤ 400
  paths : paths_length n.files + 26 * files_of m ≤ paths_length m.files + 2 * bytes + 26 * files_of n

-- one line of a run that ends with a set
step-few : (l : List ℕ) (ls : List (List ℕ)) (line : ℕ) (m n : Model)
    → ((x : Model) → files_of x ≤ 400 → run_from places (line + 1) x ls ≡ listed n → Bounded x n (lines_length ls))
    → read_as (file_in l) (line + 1) (λ f. go_on (added_to places m (addition_of f)) (line + 1) (λ x. run_from places (line + 1) x ls)) ≡ listed n
    → Bounded m n (length l + lines_length ls)
step-few l ls line m n ih e = reads (file_in l) refl e
  where
    goes : (f : FileEntry) → file_in l ≡ Some f → (o : Outcome Model) → added_to places m (addition_of f) ≡ o → go_on o (line + 1) (λ x. run_from places (line + 1) x ls) ≡ listed n → Bounded m n (length l + lines_length ls)
    goes f q (refused k) p r = let z : ◌≡◌ {A = ℕ} 0 1 = cc in absurd (omega arith)
    goes f q (value x) p r =
        let a = addition_of f in
        let t = taken m x a p in
        let b = ih (added m a) t.1 (ap (λ (y : Model). run_from places (line + 1) y ls) (sym t.0) ∙ r) in
        let g = added-few m a refl in
        record {
          few = b.few;
          paths = omega (arith, b.paths, g, ap length (path-is l f q), length-drop 19 l);
        }

    reads : (o : Option FileEntry) → file_in l ≡ o → read_as o (line + 1) (λ f. go_on (added_to places m (addition_of f)) (line + 1) (λ x. run_from places (line + 1) x ls)) ≡ listed n → Bounded m n (length l + lines_length ls)
    reads None q r = let z : ◌≡◌ {A = ℕ} 0 1 = cc in absurd (omega arith)
    reads (Some f) q r = goes f q (added_to places m (addition_of f)) refl r

ends-few : (b : Bool) (line : ℕ) (m n : Model) → files_of m ≤ 400 → cond b (stopped 13 line) (listed m) ≡ listed n → Bounded m n 0
ends-few true line m n h e = let z : ◌≡◌ {A = ℕ} 0 1 = cc in absurd (omega arith)
ends-few false line m n h e =
    let z : m ≡ n = cc in
    subst (λ (x : Model). Bounded m x 0) z (record { few = h; paths = omega arith })

run-few : (ls : List (List ℕ)) (line : ℕ) (m n : Model) → files_of m ≤ 400 → run_from places line m ls ≡ listed n → Bounded m n (lines_length ls)
unfolding run_from lines_length
run-few [] line m n h e = ends-few (ltb 2147483647 (ceiling m.total m.piece_length)) line m n h e
run-few (l ∷ ls) line m n h e = step-few l ls line m n (λ x k r. run-few ls (line + 1) x n k r) e

opened-few : (ls : List (List ℕ)) (o : Option ℕ) (n : Model) → read_as o 1 (λ k. go_on (opened_as k) 1 (λ x. run_from places 1 x ls)) ≡ listed n → (files_of n ≤ 400) × (paths_length n.files ≤ 2 * lines_length ls + 26 * files_of n)
unfolding paths_length
opened-few ls None n e = let z : ◌≡◌ {A = ℕ} 0 1 = cc in absurd (omega arith)
opened-few ls (Some k) n e = opens (eqb k 0) e
  where
    opens : (b : Bool) → go_on (cond b (refused 1) (value (new_model k))) 1 (λ x. run_from places 1 x ls) ≡ listed n → (files_of n ≤ 400) × (paths_length n.files ≤ 2 * lines_length ls + 26 * files_of n)
    opens true q = let z : ◌≡◌ {A = ℕ} 0 1 = cc in absurd (omega arith)
    opens false q = let b = run-few ls 1 (new_model k) n (omega arith) q in (b.few, omega (arith, b.paths))

lines-listed : (ls : List (List ℕ)) (n : Model) → run_lines places ls ≡ listed n → (files_of n ≤ 400) × (paths_length n.files ≤ 2 * lines_length ls + 26 * files_of n)
unfolding lines_length
lines-listed [] n e = let z : ◌≡◌ {A = ℕ} 0 1 = cc in absurd (omega arith)
lines-listed (l ∷ ls) n e = let b = opened-few ls (piece_length_in l) n e in (b.0, omega (arith, b.1))

-- the length of what is printed
line-length : (i : ℕ) (f : File) → length (file_line i f) ≡ 39 + length (internal_path f)
line-length i f =
    rw (
      length-append (column 5 i),
      length-append (column 15 f.offset),
      length-append (column 15 f.size),
      length-append (column 2 (f.flags % 2)),
      column-length 5 i,
      column-length 15 f.offset,
      column-length 15 f.size,
      column-length 2 (f.flags % 2),
      length-append (internal_path f) (10 ∷ []),
    )
    (omega arith)

file-lines-length : (i : ℕ) (fs : List File) → length (file_lines i fs) ≡ 39 * length fs + paths_length fs
unfolding file_lines paths_length
file-lines-length i [] = refl
file-lines-length i (f ∷ fs) =
    omega (arith, length-append (file_line i f) (file_lines (i + 1) fs), line-length i f, file-lines-length (i + 1) fs)

set-few : (m : Model) → files_of m ≤ 400 → paths_length m.files ≤ 2 * 65536 + 26 * files_of m → length (printed (listed m)) ≤ 262144
set-few m h k =
    omega (
      arith,
      length-append (file_lines 0 m.files) (totals_line m),
      file-lines-length 0 m.files,
      four-length (files_of m) m.total m.on_disk 10 (pieces m) 10,
    )

printed-few : (input : List ℕ) (r : Run) → run places input ≡ r → length (printed r) ≤ 262144
printed-few input (stopped k line) e = omega (arith, refusal-length k line)
printed-few input (listed m) e = read (ltb 65536 (length input)) refl e
  where
    read : (b : Bool) → ltb 65536 (length input) ≡ b → cond b (stopped 17 0) (run_lines places (lines input)) ≡ listed m → length (printed (listed m)) ≤ 262144
    read true q r = let z : ◌≡◌ {A = ℕ} 0 1 = cc in absurd (omega arith)
    read false q r =
        let b = lines-listed (lines input) m r in
        set-few m b.0 (omega (arith, b.1, lines-from-few [] input, ltb-false 65536 (length input) q))

pub listing-few : (input : List ℕ) → length (listing input) ≤ 262144
listing-few input = printed-few input (run places input) refl
