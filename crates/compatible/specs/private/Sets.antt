-- A set as the private functions pass it. It relies on Compatible.antt.
use Rattle.tables.specs.declared.lent.LentSet.{LentSet}
use Rattle.compatible.specs.Compatible.{NamedSet, named_set_of}

-- the set that a record and the tables lent with it hold
abbrev pub set_of : LentSet → NamedSet
set_of s = named_set_of s.fs s.lent.rows.now s.lent.dirs.now s.lent.text.now
