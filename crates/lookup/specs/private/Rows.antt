-- What a scan of the tables has before it: the files and the directories from the i-th on, and what a row says of a
-- link. Private functions and laws cite it; the meaning is that of Lookup.antt.
use Rattle.std.specs.Prelude.{ℕ, zero, suc, ◌+◌, cond, List, [], ◌∷◌, length}
use Rattle.tables.specs.Span.{text_at}
use Rattle.tables.specs.Rows.{row_at, directory_span, has, link_held_bit}
use Rattle.tables.specs.Model.{Store, file_of, directory_text}
use Rattle.lookup.specs.Lookup.{Entry, entry_of, is_flagged}

-- file i
abbrev pub entry_at : Store → ℕ → Entry
entry_at s i = entry_of (file_of s i)

-- the n files and the n directories from the i-th on
unfoldable pub entries_from : Store → ℕ → ℕ → List Entry
entries_from s zero i = []
entries_from s (suc n) i = entry_at s i ∷ entries_from s n (i + 1)

unfoldable pub directories_from : Store → ℕ → ℕ → List (List ℕ)
directories_from s zero i = []
directories_from s (suc n) i = directory_text s i ∷ directories_from s n (i + 1)

-- what row i says of a link: its text, and its directory (nothing for a single name and an absolute path)
abbrev pub row_text : List ℕ → List ℕ → ℕ → List ℕ
row_text rows text i = cond (has (row_at rows i).flags link_held_bit) (text_at text (row_at rows i).link) []

abbrev pub row_branch : List ℕ → List ℕ → List ℕ → ℕ → List ℕ
row_branch rows dirs text i = text_at text (directory_span dirs (row_at rows i))

-- the work space that file i needs
abbrev pub row_space : List ℕ → List ℕ → List ℕ → ℕ → ℕ
row_space rows dirs text i =
    cond (is_flagged (row_at rows i).flags) (length (row_branch rows dirs text i) + length (row_text rows text i) + 2) 0
