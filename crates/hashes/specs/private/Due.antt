-- What is listed of the directories that the private functions pass as one value. It relies on Gathering.antt.
use Rattle.std.specs.Prelude.{ℕ, List, map, get_or}
use Rattle.tables.specs.Span.{text_at}
use Rattle.hashes.specs.declared.hashes.Listed.{Listed}
use Rattle.hashes.specs.Hashes.{beginnings, joined_lists}
use Rattle.hashes.specs.private.Gathering.{hashes_after}

-- the text that a directory's two words place
abbrev pub placed : List ℕ → List ℕ → List ℕ
placed text words = text_at text (record { at = get_or words 0 0; len = get_or words 1 0 })

-- the directories
abbrev pub listed_dirs : Listed → List (List ℕ)
listed_dirs s = map (placed s.text.now) s.dirs.now

-- their hashes, in the directories' order, repeats included
abbrev pub due : Listed → List ℕ
due s = joined_lists (map (hashes_after s.state) (listed_dirs s))

-- the beginnings that these are taken of
abbrev pub due_beginnings : Listed → List (List ℕ)
due_beginnings s = joined_lists (map beginnings (listed_dirs s))
