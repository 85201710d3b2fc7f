-- The file at an offset: the last file whose offset is at or before the target, where the rows' offsets ascend, as they
-- do in every set that the calls lead to. On other rows it is where the steps of Steps.antt lead.
use Rattle.std.specs.Prelude.{ℕ, zero, suc, ◌+◌, ◌-◌, ◌*◌, min, Bool, true, false, cond, ◌&&◌, List, drop, ◌==◌, nat_le}
use Rattle.std.specs.Prelude.{nat_lt}
use Rattle.tables.specs.Rows.{row_at, row_width}
use Rattle.layout.specs.declared.window.Window.{Window}
use Rattle.layout.specs.Steps.{halved}

-- the offset of file k
abbrev pub offset_at : List ℕ → ℕ → ℕ
offset_at rows = λ k. (row_at rows k).offset

-- no offset of n files is before that of the file in front of it
unfoldable pub ascend : List ℕ → ℕ → Bool
ascend rows zero = true
ascend rows (suc k) = cond (nat_le (offset_at rows (k - 1)) (offset_at rows k)) (ascend rows k) false

-- the last of n files whose offset is at or before the target; 0 where there is none
unfoldable pub last_at_or_before : List ℕ → ℕ → ℕ → ℕ
last_at_or_before rows zero t = 0
last_at_or_before rows (suc k) t = cond (nat_le (offset_at rows k) t) k (last_at_or_before rows k t)

-- the file found among n; n steps are always enough
abbrev pub file_found : List ℕ → ℕ → ℕ → ℕ
file_found rows n t = cond (ascend rows n) (last_at_or_before rows n t) (halved n (offset_at rows) t n 0)

-- ---- document 02 (v): the search that begins with some files

-- whether file k has byte t of the set
abbrev pub has_byte : List ℕ → ℕ → ℕ → Bool
has_byte rows k t = nat_le (offset_at rows k) t && nat_lt t (offset_at rows k + (row_at rows k).size)

-- the first of n files from file k on that has byte t; k + n where none has it
unfoldable pub first_with : List ℕ → ℕ → ℕ → ℕ → ℕ
first_with rows zero k t = k
first_with rows (suc n) k t = cond (has_byte rows k t) k (first_with rows n (k + 1) t)

-- a window's first four files, or all where it has fewer, are looked at one by one: where they end, and which has the
-- byte
abbrev pub near_end : Window → ℕ
near_end w = min (w.low + 4) w.high

abbrev pub found_near : List ℕ → Window → ℕ → ℕ
found_near rows w t = first_with rows (near_end w - w.low) w.low t

-- the file found over the rows from the window's first file on
abbrev pub found_far : List ℕ → Window → ℕ → ℕ
found_far rows w t = w.low + file_found (drop (w.low * row_width) rows) (w.high - w.low) t

-- 'the search, given its start': nothing before the window's first file is looked at
abbrev pub found_from : List ℕ → Window → ℕ → ℕ
found_from rows w t = cond (nat_lt (found_near rows w t) (near_end w)) (found_near rows w t) (found_far rows w t)

-- whether there are files in the window, all of them among n
abbrev pub is_within : Window → ℕ → Bool
is_within w n = nat_lt w.low w.high && nat_le w.high n

-- the file found among n: a window's file that has the byte; else the one that the search over all rows finds
abbrev pub found_within : List ℕ → ℕ → Window → ℕ → ℕ
found_within rows n w t =
    cond (is_within w n && has_byte rows (found_from rows w t) t) (found_from rows w t) (file_found rows n t)

-- the Rust's `partition_point`: how many of n rows begin at or before the target
abbrev pub partition_point : List ℕ → ℕ → Window → ℕ → ℕ
partition_point rows n w t =
    cond (n == 0) 0 (cond (nat_le (offset_at rows (found_within rows n w t)) t) (found_within rows n w t + 1) 0)
