-- Laws of printing: runs of columns and texts are written one after the other, and a path is joined in the rest of a buffer.
use Rattle.std.specs.Prelude.{Result, None, Some}
use Prim.Native.Nat.{ℕ, zero, suc, ◌+◌, ◌-◌, ◌/◌, ◌%◌, ◌≤◌, ◌<◌}
use mathlib.Core.Path.{◌≡◌, refl, sym, ap, ◌∙◌}
use mathlib.Core.Bool.{Bool, true, false, cond, not, ◌&&◌}
use mathlib.Core.List.{List, [], ◌∷◌, ◌++◌, append_assoc}
use native.Mathlib.Omega.{arith}
use lib.Dec.{eqb}
use native.Mathlib.Numerals.{add-one}
use lib.ListN.{length, get_or, take, drop, set, length-append, length-take, length-drop, drop_of_length-le}
use lib.Seq.{sets, drop-cons}
use borrow.Author.Tests.{le-leb, lt-leb, eqb-true, eqb-false}
use Rattle.std.specs.Int.{from_bool}
use Rattle.lists.specs.Lists.{ceiling}
use Rattle.lists.specs.Decimal.{column}
use Rattle.lists.proofs.Decimals.{column-length}
use Rattle.lists.proofs.Runs.{sets-append}
use Rattle.path.specs.Join.{is_alone, is_empty, is_closed, appended, Joined, joined_if, fits}
use Rattle.path.proofs.Joins.{written_is}
use Rattle.types.specs.Refusals.{value, outcome}
use Rattle.types.specs.declared.refusal.Refusal.{Refusal}
use Rattle.tables.specs.declared.rows.Row.{Row}
use Rattle.tables.specs.declared.span.Span.{Span}
use Rattle.tables.specs.Span.{text_at}
use Rattle.tables.specs.declared.storage.FileStorage.{FileStorage}
use Rattle.tables.specs.Rows.{row_at, dir_at, has}
use Rattle.tables.specs.Model.{single, absolute, stored, path_in, File, Store, tabled, file_of, view_of}
use Rattle.tables.proofs.Tabled.{length-tabled, get_or-tabled}
use Rattle.listing_output.specs.Output.{listed, stopped, internal_path, file_line, file_lines, totals_line, printed}
use Rattle.listing_output.specs.private.Lines.{columns_then, four_columns, row_path, row_line, lines_of, left_in}
use Rattle.listing_output.specs.Printing.{bare, shown, put_text}

-- texts in a row, each at the place after the one before
pub sets-two : (l a b : List ℕ) (at p : ℕ) → p ≡ at + length a → sets (sets l at a) p b ≡ sets l at (a ++ b)
sets-two l a b at p e = rw e (sym (sets-append a b l at))

pub sets-three : (l a b c : List ℕ) (at p q : ℕ) → p ≡ at + length a → q ≡ p + length b → sets (sets (sets l at a) p b) q c ≡ sets l at (a ++ (b ++ c))
sets-three l a b c at p q e h = sets-two (sets l at a) b c p q h ∙ sets-two l a (b ++ c) at p e

-- the columns from i on, and a byte
module _ (last : ℕ) (cs : List (ℕ × ℕ)) (i : ℕ) where
  abbrev pub columns_from : List ℕ
  columns_from = columns_then last (drop i cs)

  abbrev pub here : ℕ × ℕ
  here = get_or cs i (0, 0)

  pub column-next : i < length cs → columns_from ≡ column here.0 here.1 ++ columns_then last (drop (i + 1) cs)
  column-next h = rw (add-one i) (ap (columns_then last) (drop-cons cs i (0, 0) h))

  pub length-next : i < length cs → length columns_from ≡ here.0 + length (columns_then last (drop (i + 1) cs))
  length-next h =
      rw (column-next h, length-append (column here.0 here.1) (columns_then last (drop (i + 1) cs)), column-length here.0 here.1)

  pub put_next_column : (l : List ℕ) (at : ℕ) → i < length cs
      → sets (sets l at (column here.0 here.1)) (at + here.0) (columns_then last (drop (i + 1) cs)) ≡ sets l at columns_from
  put_next_column l at h =
      rw (column-next h)
      (sets-two l (column here.0 here.1) (columns_then last (drop (i + 1) cs)) at (at + here.0) (ap (λ (k : ℕ). at + k) (sym (column-length here.0 here.1))))

  pub column-none : length cs ≤ i → columns_from ≡ last ∷ []
  column-none h = rw (drop_of_length-le cs {i = i} h)

-- the column of a pad holds 1
pub pad-shown : (flags n : ℕ) (b : Bool) → b ≡ has flags 1 → n ≡ from_bool b → n ≡ flags % 2
pad-shown flags n true e h = let q = eqb-true (flags / 1 % 2) 1 (sym e) in omega (arith, h)
pad-shown flags n false e h = let q = eqb-false (flags / 1 % 2) 1 (sym e) in omega (arith, h)

-- a path is at most one byte longer than its parts
pub joined-few : (d n : List ℕ) → length (appended d n) ≤ length d + 1 + length n
joined-few d n = at (is_alone d) (is_empty n) (is_closed d)
  where
    at : (a e c : Bool) → length (cond a n (cond e d (d ++ cond c n (47 ∷ n)))) ≤ length d + 1 + length n
    at true e c = omega arith
    at false true c = omega arith
    at false false true = omega (arith, length-append d n)
    at false false false = omega (arith, length-append d (47 ∷ n))

-- a join in the rest of a buffer, which has room for it
module _ (out d n x : List ℕ) (at : ℕ) (r : Result ℕ Refusal) (h : at + length (appended d n) ≤ length out)
    (e : ◌≡◌ {A = Joined} (record { says = outcome r; buf = x }) (joined_if (fits (appended d n) (take (length out - at) (drop at out))) (appended d n) (take (length out - at) (drop at out)))) where
  joined : ◌≡◌ {A = Joined} (record { says = outcome r; buf = x }) (record { says = value (length (appended d n)); buf = sets (take (length out - at) (drop at out)) 0 (appended d n) })
  joined = e ∙ rw (le-leb (length (appended d n)) (length (take (length out - at) (drop at out))) (omega (arith, length-take (length out - at) (drop at out), length-drop at out)))

  pub joined-text : x ≡ sets (take (length out - at) (drop at out)) 0 (appended d n)
  joined-text = ap (λ (j : Joined). j.buf) joined

-- how long texts are
pub four-length : (a b c width d last : ℕ) → length (four_columns a b c width d last) ≡ 36 + width
four-length a b c width d last =
    rw (length-append (column 5 a), length-append (column 15 b), length-append (column 15 c), length-append (column width d), column-length 5 a, column-length 15 b, column-length 15 c, column-length width d)
    (omega arith)

-- a file's line
pub put-line-is : (l path : List ℕ) (at end a b c d : ℕ) → end ≡ at + 38 + length path
    → set (sets (sets l at (four_columns a b c 2 d 32)) (at + 38) path) end 10 ≡ sets l at (four_columns a b c 2 d 32 ++ (path ++ (10 ∷ [])))
put-line-is l path at end a b c d e =
    sets-three l (four_columns a b c 2 d 32) path (10 ∷ []) at (at + 38) end (omega (arith, four-length a b c 2 d 32)) e

pub row-line-length : (dirs text : List ℕ) (i : ℕ) (r : Row) → length (row_line dirs text i r) ≡ 39 + length (row_path dirs text r)
row-line-length dirs text i r =
    rw (length-append (four_columns i r.offset r.size 2 (r.flags % 2) 32), length-append (row_path dirs text r), four-length i r.offset r.size 2 (r.flags % 2) 32)
    (omega arith)

-- the path that a row's file prints
module _ (name area : List ℕ) (span : Span) (outside : Bool) where
  path-in : (a b : Bool)
      → path_in (cond a single (cond b absolute (stored (text_at area span) outside))) name ≡ appended (text_at area (cond (not a && not b) span (record { at = 0; len = 0 }))) name
  path-in true b = refl
  path-in false true = refl
  path-in false false = refl

regroup : (a b c d p : List ℕ) (x y : ℕ) → a ++ (b ++ (c ++ (d ++ (x ∷ (p ++ (y ∷ [])))))) ≡ (a ++ (b ++ (c ++ (d ++ (x ∷ []))))) ++ (p ++ (y ∷ []))
regroup a b c d p x y = simp append_assoc

pub line-is : (s : Store) (i k : ℕ) → file_line i (file_of s k) ≡ row_line s.dirs s.text i (row_at s.rows k)
line-is s i k =
    let r = row_at s.rows k in
    let f = file_of s k in
    let p : internal_path f ≡ row_path s.dirs s.text r =
    path-in f.name s.text (dir_at s.dirs r.path_index) (has r.flags 32) (eqb r.path_index 1073741823) (eqb r.path_index 1073741822) in
    let q : r.flags % 16 % 2 ≡ r.flags % 2 = omega arith in
    ap (λ (x : List ℕ). column 5 i ++ (column 15 r.offset ++ (column 15 r.size ++ (column 2 (r.flags % 16 % 2) ++ (32 ∷ (x ++ (10 ∷ []))))))) p
    ∙ ap (λ (n : ℕ). column 5 i ++ (column 15 r.offset ++ (column 15 r.size ++ (column 2 n ++ (32 ∷ (row_path s.dirs s.text r ++ (10 ∷ []))))))) q
    ∙ regroup (column 5 i) (column 15 r.offset) (column 15 r.size) (column 2 (r.flags % 2)) (row_path s.dirs s.text r) 32 10

-- one file's line, and then those of the files after it
module _ (n : ℕ) (g : ℕ → File) (i : ℕ) where
  lines-turn : i < n → file_lines i (drop i (tabled n g)) ≡ file_line i (g i) ++ file_lines (i + 1) (drop (i + 1) (tabled n g))
  unfolding file_lines
  lines-turn h =
      let e : drop i (tabled n g) ≡ g i ∷ drop (i + 1) (tabled n g) =
      rw (add-one i) (drop-cons (tabled n g) i (g i) (omega (arith, length-tabled n g)) ∙ ap (λ (f : File). f ∷ drop (suc i) (tabled n g)) (get_or-tabled n g i (g i) h)) in
      rw e

  lines_end : n ≤ i → file_lines i (drop i (tabled n g)) ≡ []
  unfolding file_lines
  lines_end h = rw (drop_of_length-le (tabled n g) {i = i} (omega (arith, length-tabled n g)))

-- the lines of the files from i on
abbrev pub lines_from : FileStorage → List ℕ → List ℕ → List ℕ → ℕ → List ℕ
lines_from fs rows dirs text i = file_lines i (drop i (shown fs rows dirs text).files)

module _ (fs : FileStorage) (rows dirs text : List ℕ) (i : ℕ) where
  pub next-line : i < fs.num_files → lines_from fs rows dirs text i ≡ row_line dirs text i (row_at rows i) ++ lines_from fs rows dirs text (i + 1)
  next-line h =
      lines-turn fs.num_files (file_of (bare fs rows dirs text)) i h
      ∙ ap (λ (x : List ℕ). x ++ lines_from fs rows dirs text (i + 1)) (line-is (bare fs rows dirs text) i i)

  pub next_length : i < fs.num_files → length (lines_from fs rows dirs text i) ≡ 39 + length (row_path dirs text (row_at rows i)) + length (lines_from fs rows dirs text (i + 1))
  next_length h =
      rw (next-line h, length-append (row_line dirs text i (row_at rows i)) (lines_from fs rows dirs text (i + 1)), row-line-length dirs text i (row_at rows i))

  pub no_line : fs.num_files ≤ i → lines_from fs rows dirs text i ≡ []
  no_line h = lines_end fs.num_files (file_of (bare fs rows dirs text)) i h

  pub no_length : fs.num_files ≤ i → length (lines_from fs rows dirs text i) ≡ 0
  no_length h = rw (no_line h)

  pub put_next : (l : List ℕ) (at : ℕ) → i < fs.num_files
      → sets (sets l at (row_line dirs text i (row_at rows i))) (at + (39 + length (row_path dirs text (row_at rows i)))) (lines_from fs rows dirs text (i + 1)) ≡ sets l at (lines_from fs rows dirs text i)
  put_next l at h =
      rw (next-line h)
      (sets-two l (row_line dirs text i (row_at rows i)) (lines_from fs rows dirs text (i + 1)) at (at + (39 + length (row_path dirs text (row_at rows i)))) (ap (λ (k : ℕ). at + k) (sym (row-line-length dirs text i (row_at rows i)))))

-- what the lines leave of a room
pub left_no : (needed room : ℕ) → room < needed → left_in needed room ≡ None
left_no needed room h = rw (lt-leb needed room h)

pub left_yes : (needed room left : ℕ) → left + needed ≡ room → left_in needed room ≡ Some left
left_yes needed room left e = let q : room - needed ≡ left = omega arith in rw (le-leb needed room (omega arith), q)

pub ruleset measuring = (next_length, no_length, left_no, left_yes)

pub ruleset writing = (next_length, no_length, no_line, put_next)

-- a text that is put where it fits, or refused
module _ (text out : List ℕ) where
  pub put-yes : (n : ℕ) (x : List ℕ) → length text ≤ length out → n ≡ length text → x ≡ sets out 0 text → ◌≡◌ {A = Joined} (record { says = value n; buf = x }) (put_text text out)
  put-yes n x h e k = written_is (fits text out) text out n x (le-leb (length text) (length out) h) e k

-- a refusal's text
module _ (k line : ℕ) where
  pub refusal-length : length (printed (stopped k line)) ≡ 11
  refusal-length = rw (length-append (column 5 k), length-append (column 5 line), column-length 5 k, column-length 5 line)

-- a set's text
module _ (fs : FileStorage) (rows dirs text : List ℕ) where
  totals-are : (n : ℕ) → n ≡ ceiling fs.total_size fs.piece_length → four_columns fs.num_files fs.total_size fs.size_on_disk 10 n 10 ≡ totals_line (shown fs rows dirs text)
  totals-are n e = rw (e, length-tabled fs.num_files (file_of (bare fs rows dirs text)))

  pub set-length : length (printed (listed (shown fs rows dirs text))) ≡ length (lines_of fs rows dirs text) + 46
  set-length =
      rw (← totals-are (ceiling fs.total_size fs.piece_length) refl, length-append (lines_of fs rows dirs text), four-length fs.num_files fs.total_size fs.size_on_disk 10 (ceiling fs.total_size fs.piece_length) 10)

  pub set-put : (out : List ℕ) (at n : ℕ) → at ≡ length (lines_of fs rows dirs text) → n ≡ ceiling fs.total_size fs.piece_length
      → sets (sets out 0 (lines_of fs rows dirs text)) at (four_columns fs.num_files fs.total_size fs.size_on_disk 10 n 10) ≡ sets out 0 (printed (listed (shown fs rows dirs text)))
  set-put out at n e h =
      rw (totals-are n h) (sets-two out (lines_of fs rows dirs text) (totals_line (shown fs rows dirs text)) 0 at (omega arith))

-- roots are not shown
lines_same : (n i : ℕ) (g h : ℕ → File) → ((j k : ℕ) → file_line j (g k) ≡ file_line j (h k)) → file_lines i (tabled n g) ≡ file_lines i (tabled n h)
unfolding file_lines tabled
lines_same zero i g h e = refl
lines_same (suc n) i g h e =
    ap (λ (x : List ℕ). x ++ file_lines (i + 1) (tabled n (λ k. g (suc k)))) (e i 0)
    ∙ ap (λ (x : List ℕ). file_line i (h 0) ++ x) (lines_same n (i + 1) (λ k. g (suc k)) (λ k. h (suc k)) (λ j k. e j (suc k)))

pub shown-is : (s : Store) → printed (listed (shown s.fs s.rows s.dirs s.text)) ≡ printed (listed (view_of s))
shown-is s =
    rw (
      lines_same s.fs.num_files 0 (file_of (bare s.fs s.rows s.dirs s.text)) (file_of s) (λ j k. refl),
      length-tabled s.fs.num_files (file_of (bare s.fs s.rows s.dirs s.text)),
      length-tabled s.fs.num_files (file_of s),
    )
