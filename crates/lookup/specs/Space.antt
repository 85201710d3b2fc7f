-- Document 01, 'Links': the work space that the flagged links of a set need, and whether what is lent is too short. It
-- relies on the files of Lookup.antt.
use Rattle.std.specs.Prelude.{ℕ, ◌+◌, ◌*◌, Bool, cond, ◌||◌, List, [], ◌∷◌, ltb, length}
use Rattle.tables.specs.Model.{Directory, single, absolute, stored}
use Rattle.lookup.specs.Lookup.{Entry}

-- 'the sum, over flagged links, of directory length + text length + 2'
abbrev pub directory_length : Directory → ℕ
directory_length single = 0
directory_length absolute = 0
directory_length (stored d outside) = length d

abbrev pub space : List Entry → ℕ
space [] = 0
space (f ∷ fs) = cond f.flagged (directory_length f.directory + length f.text + 2) 0 + space fs

-- 'one mark a link'
abbrev pub link_count : List Entry → ℕ
link_count [] = 0
link_count (f ∷ fs) = cond f.flagged 1 0 + link_count fs

-- 'Work space: 3 × the sum … and one mark a link': a scratch space of the sum and a walk path of twice the sum
abbrev pub lacks_space : List Entry → ℕ → ℕ → ℕ → Bool
lacks_space files marks scratch walk_path =
    ltb marks (link_count files) || (ltb scratch (space files) || ltb walk_path (2 * space files))
