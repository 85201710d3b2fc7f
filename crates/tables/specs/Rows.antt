-- Records in flat lists: words for the file rows and the directory rows, bytes for the roots. Reading past a list's end
-- gives zeros and storing there does nothing, so every list has a row at every index. It relies on the spans of
-- Span.antt.
use Rattle.std.specs.Prelude.{ℕ, zero, suc, ◌+◌, ◌-◌, ◌*◌, ◌/◌, ◌%◌, ◌^◌, min, Bool, cond, not, ◌&&◌, List, [], ◌∷◌}
use Rattle.std.specs.Prelude.{◌++◌, eqb, ltb, length, get_or, take, drop, replicate}
use Rattle.std.proofs.lemmas.List.Edits.{sets}
use Rattle.tables.specs.declared.span.Span.{Span}
use Rattle.tables.specs.declared.rows.Row.{Row}
use Rattle.tables.specs.Span.{low}

-- the words of a file row and of a directory row, and the bytes of a root
abbrev pub row_width : ℕ
row_width = 8

abbrev pub dir_width : ℕ
dir_width = 2

abbrev pub root_width : ℕ
root_width = 32

-- ---- bits of a row's flags, each by its value

-- those that an addition gives: 'pad 1, hidden 2, executable 4, symlink 8'
abbrev pub pad_bit : ℕ
pad_bit = 1

abbrev pub hidden_bit : ℕ
hidden_bit = 2

abbrev pub executable_bit : ℕ
executable_bit = 4

abbrev pub symlink_bit : ℕ
symlink_bit = 8

-- those that the table adds: a link text is held
abbrev pub link_held_bit : ℕ
link_held_bit = 16

-- the directory stands outside the set's name
abbrev pub outside_bit : ℕ
outside_bit = 32

-- a pad that an addition made
abbrev pub made_bit : ℕ
made_bit = 64

-- a root is there
abbrev pub root_bit : ℕ
root_bit = 128

-- the flags of a pad that an addition makes
abbrev pub made_pad_flags : ℕ
made_pad_flags = pad_bit + made_bit

-- whether a bit of the flags is set
abbrev pub has : ℕ → ℕ → Bool
has flags bit = eqb (flags / bit % 2) 1

-- ---- rows

-- row i: offset; size and flags in one word; the spans of name and link text, two words each; path index; time. Offset
-- and size are read below 2 ^ 48, as the 48 bits that hold them upstream, and the flags are the 16 bits above the size
abbrev pub row_at : List ℕ → ℕ → Row
row_at rows i =
    record {
      offset = get_or rows (i * row_width) 0 % 2 ^ 48;
      size = get_or rows (i * row_width + 1) 0 % 2 ^ 48;
      name = record { at = get_or rows (i * row_width + 2) 0; len = get_or rows (i * row_width + 3) 0 };
      link = record { at = get_or rows (i * row_width + 4) 0; len = get_or rows (i * row_width + 5) 0 };
      path_index = get_or rows (i * row_width + 6) 0;
      flags = get_or rows (i * row_width + 1) 0 / 2 ^ 48 % 2 ^ 16;
      time = get_or rows (i * row_width + 7) 0;
    }

-- a size of 48 bits and flags of 16 in one word
abbrev pub packed : ℕ → ℕ → ℕ
packed size flags = size % 2 ^ 48 + flags % 2 ^ 16 * 2 ^ 48

abbrev pub words : Row → List ℕ
words r =
    r.offset ∷
    packed r.size r.flags ∷
    r.name.at ∷
    r.name.len ∷
    r.link.at ∷
    r.link.len ∷
    r.path_index ∷
    r.time ∷
    []

abbrev pub put_row : List ℕ → ℕ → Row → List ℕ
put_row rows i r = sets rows (i * row_width) (words r)

-- directory row i
abbrev pub dir_at : List ℕ → ℕ → Span
dir_at dirs i = record { at = get_or dirs (i * dir_width) 0; len = get_or dirs (i * dir_width + 1) 0 }

abbrev pub dir_words : Span → List ℕ
dir_words s = s.at ∷ s.len ∷ []

abbrev pub put_dir : List ℕ → ℕ → Span → List ℕ
put_dir dirs i s = sets dirs (i * dir_width) (dir_words s)

-- the Rust's path indices of a single name and of an absolute path, which have no directory; any other is that of a
-- directory row
abbrev pub no_path : ℕ
no_path = 1073741823

abbrev pub path_is_absolute : ℕ
path_is_absolute = 1073741822

abbrev pub is_stored : ℕ → Bool
is_stored index = not (eqb index no_path) && not (eqb index path_is_absolute)

-- whether a file was added by an absolute path, and whether it lies in a stored directory
abbrev pub is_absolute : Row → Bool
is_absolute r = eqb r.path_index path_is_absolute

abbrev pub is_inside : Row → Bool
is_inside r = is_stored r.path_index

-- where the text of a file's directory lies: a span of no bytes for a single name and an absolute path
abbrev pub directory_span : List ℕ → Row → Span
directory_span dirs r = cond (is_inside r) (dir_at dirs r.path_index) (record { at = 0; len = 0 })

-- where a file's link text lies: a span of no bytes where none is held
abbrev pub link_span : Row → Span
link_span r = cond (has r.flags link_held_bit) r.link (record { at = 0; len = 0 })

-- the root of row i, filled up with zeros past the end
abbrev pub root_at : List ℕ → ℕ → List ℕ
root_at roots i = take root_width (drop (i * root_width) roots ++ replicate root_width 0)

abbrev pub put_root : List ℕ → ℕ → List ℕ → List ℕ
put_root roots i root = sets roots (i * root_width) root

-- the words of n rows, from row i on: those of row k are g k
unfoldable pub filled : (ℕ → List ℕ) → ℕ → ℕ → List ℕ
filled g i zero = []
filled g i (suc n) = g i ++ filled g (i + 1) n

-- the first n directory rows, or as many as there are, once the bytes of span c are removed from the text area
abbrev pub dirs_lowered : List ℕ → ℕ → Span → List ℕ
dirs_lowered dirs n c =
    sets dirs 0 (filled (λ i. dir_words (low c (dir_at dirs i))) 0 (min n (length dirs / dir_width)))

-- the row that becomes row i where row f is removed
abbrev pub skip : ℕ → ℕ → ℕ
skip f i = i + (1 - (f - i))

-- row r as row i, where row f is removed and with it the spans c and then d of the text area: the rows after f begin at
-- the new total
abbrev pub row_moved : ℕ → ℕ → Span → Span → ℕ → Row → Row
row_moved f total c d i r =
    record {
      offset = cond (ltb i f) r.offset total;
      size = r.size;
      name = low d (low c r.name);
      link = low d (low c r.link);
      path_index = r.path_index;
      flags = r.flags;
      time = r.time;
    }

-- n rows once row f of n + 1 is removed; the words after them are left as they were
abbrev pub rows_without : List ℕ → ℕ → ℕ → ℕ → Span → Span → List ℕ
rows_without rows n f total c d =
    sets rows 0
    (filled (λ i. words (row_moved f total c d i (row_at rows (skip f i)))) 0 (min n (length rows / row_width)))
