-- What the private parts of the writing of a text give. The meaning is that of Texts.antt; it relies on the joins of
-- `path`.
use Rattle.std.specs.Prelude.{ℕ, ◌-◌, Bool, true, false, List, leb, length}
use Rattle.std.proofs.lemmas.List.Edits.{sets}
use Rattle.types.specs.Refusals.{value, refused}
use Rattle.path.specs.Join.{Joined}
use Rattle.tables.specs.Model.{Store}
use Rattle.texts.specs.Texts.{gone_at}

-- what a join t behind the first u bytes of the text area says, and the area after it
abbrev pub behind_if : Bool → List ℕ → ℕ → List ℕ → Joined
behind_if true text u t = record { says = value (length t); buf = sets text u t }
behind_if false text u t = record { says = refused 10; buf = text }

abbrev pub joined_behind : List ℕ → ℕ → List ℕ → Joined
joined_behind text u t = behind_if (leb (length t) (length text - u)) text u t

-- the room for a new text of link i, once the old one is removed
abbrev pub room_beside : Store → ℕ → ℕ
room_beside s i = length s.text - (s.fs.text_len - (gone_at s i).len)
