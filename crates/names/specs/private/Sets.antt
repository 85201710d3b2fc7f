-- What is composed of a set as the private functions pass it. It relies on Paths.antt.
use Rattle.std.specs.Prelude.{List, ℕ}
use Rattle.tables.specs.declared.lent.LentSet.{LentSet}
use Rattle.tables.specs.declared.rows.Row.{Row}
use Rattle.names.specs.Paths.{file_path, hashed_path}

-- a file's whole path, and the bytes that its hash is taken of
abbrev pub path_of : LentSet → List ℕ → Row → List ℕ
path_of s save r = file_path s.fs s.lent.dirs.now s.lent.text.now save r

abbrev pub hashed_of : LentSet → List ℕ → Row → List ℕ
hashed_of s save r = hashed_path s.fs s.lent.dirs.now s.lent.text.now save r
