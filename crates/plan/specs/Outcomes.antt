-- What an addition answers and what every lent table holds after it, for tables of any content and length. It relies on
-- the rules of Addition.antt and the tables after an addition of Write.antt.
use Rattle.std.specs.Prelude.{ℕ, Bool, not, ◌&&◌, ◌||◌, length, nat_lt}
use Rattle.tables.specs.Model.{Model, Store, view_of}
use Rattle.rules.specs.Rules.{first_of}
use Rattle.rules.specs.Questions.{num_pieces}
use Rattle.change.specs.Changes.{Changed, changed_if}
use Rattle.change.specs.Rooms.{rooms_of, holds}
use Rattle.additions.specs.Addition.{Addition, added, lacks, adding_rules}
use Rattle.plan.specs.Write.{storage_added, store_added, text_after}

-- document 02 (v): 'An addition that needs more places in it gets 10', of the table of first files, where the set keeps
-- one: it has a place for each piece
abbrev pub lacks_places : Store → Model → Addition → Bool
lacks_places s m a = s.fs.indexed && nat_lt (length s.firsts) (num_pieces (storage_added s.fs m a))

-- `add_file`: the rules on what the tables mean; room is lacking where the tables do not hold what the set counts, or
-- what it would count
abbrev pub adding_number : Store → Model → Addition → ℕ
adding_number s m a =
    first_of
    (adding_rules m a
    (not (holds s) || (lacks_places s m a || lacks (rooms_of s) (added m a) (text_after s.fs m a))))

-- what `add_file` answers and writes
abbrev pub add_stored : Store → Addition → Changed
add_stored s a = changed_if (adding_number s (view_of s) a) s (store_added s (view_of s) a)
