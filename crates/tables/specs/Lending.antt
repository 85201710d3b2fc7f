-- Sets whose tables are lent: the store that they hold, and whether two that are lent for writing lend the same tables.
-- It relies on the model of a set.
use Rattle.std.specs.Prelude.{[], ◌≡◌}
use Rattle.tables.specs.declared.lent.LentSet.{LentSet}
use Rattle.tables.specs.declared.lent.LentSetMut.{LentSetMut}
use Rattle.tables.specs.Model.{Store, store_of}

-- roots and first files are not lent with it
abbrev pub store_in : LentSet → Store
store_in s = store_of s.fs s.lent.rows.now [] [] s.lent.dirs.now s.lent.text.now

abbrev pub held : LentSetMut → Store
held s = store_of s.fs s.rows.now [] [] s.dirs.now s.text.now

-- each table is the same reference
abbrev pub SameTables : LentSetMut → LentSetMut → Type 0
SameTables a b =
    (b.rows.ghost_name ≡ a.rows.ghost_name) × (b.dirs.ghost_name ≡ a.dirs.ghost_name)
    × (b.text.ghost_name ≡ a.text.ghost_name)
