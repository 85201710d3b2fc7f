-- Numbers that document 01 names: limits, and the range of piece lengths. Signed numbers are read by the definitions of
-- `types`, which are passed on.
use Rattle.std.specs.Prelude.{ℕ, Bool, ◌||◌, ltb}
pub use Rattle.types.specs.Signed.{is_negative, is_below, clamped_of}

-- the largest size, offset and total
abbrev pub limit : ℕ
limit = 281474976710655

-- the largest piece length, as an i32 holds it
abbrev pub max_piece_length : ℕ
max_piece_length = 2147483647

-- 'over 2147483647 pieces'
abbrev pub max_pieces : ℕ
max_pieces = 2147483647

-- 'over 65535 files or directories'
abbrev pub max_entries : ℕ
max_entries = 65535

-- 'Link text makes a link until 32766 are held'
abbrev pub max_links : ℕ
max_links = 32766

-- 'of 4096 bytes or more': a name has fewer
abbrev pub name_limit : ℕ
name_limit = 4096

-- 'A block is 16384 bytes'
abbrev pub block_size : ℕ
block_size = 16384

-- a piece length is from 1 to the largest
abbrev pub bad_length : ℕ → Bool
bad_length n = ltb n 1 || ltb max_piece_length n
