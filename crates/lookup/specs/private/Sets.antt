-- A set as the private functions pass it. It relies on Lookup.antt.
use Rattle.tables.specs.declared.lent.LentSet.{LentSet}
use Rattle.tables.specs.Model.{Store}
use Rattle.lookup.specs.Lookup.{lent}

-- the set that a record and the tables lent with it hold
abbrev pub stored_in : LentSet → Store
stored_in s = lent s.fs s.lent.rows.now s.lent.dirs.now s.lent.text.now
