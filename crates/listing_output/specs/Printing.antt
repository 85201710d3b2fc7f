-- What the functions that print are given and what they leave: a set by its tables, and a text in a buffer. Output.antt
-- says which text. It relies on the joins of `path` and the model of `tables`.
use Rattle.std.specs.Prelude.{ℕ, List, []}
use Rattle.path.specs.Join.{Joined, joined_if, fits}
use Rattle.tables.specs.declared.storage.FileStorage.{FileStorage}
use Rattle.tables.specs.Model.{Model, Store, store_of, view_of}

-- a set without its roots and first files, which no line shows
abbrev pub bare : FileStorage → List ℕ → List ℕ → List ℕ → Store
bare fs rows dirs text = store_of fs rows [] [] dirs text

-- the set that the tables hold, as far as it is printed
abbrev pub shown : FileStorage → List ℕ → List ℕ → List ℕ → Model
shown fs rows dirs text = view_of (bare fs rows dirs text)

-- a text at the start of a buffer and its length, or refusal 10 and the buffer untouched where it doesn't fit
abbrev pub put_text : List ℕ → List ℕ → Joined
put_text text out = joined_if (fits text out) text out
