-- A composed path in the pieces that a comparison reads in a row. It relies on the equality of `lists`.
use Rattle.std.specs.Prelude.{ℕ, Bool, ◌&&◌, List, [], ◌∷◌, ◌++◌}
use Rattle.std.specs.Borrow.{Bor}
use Rattle.lists.specs.Lists.{equal}
use Rattle.compatible.specs.declared.walk.Pieces.{Pieces}

-- the pieces
abbrev pub in_a_row : Pieces → List (Bor (List ℕ))
in_a_row p = p.first ∷ p.first_end ∷ p.second ∷ p.second_end ∷ p.last ∷ []

-- the path
abbrev pub whole_of : Pieces → List ℕ
whole_of p = (((p.first.now ++ p.first_end.now) ++ p.second.now) ++ p.second_end.now) ++ p.last.now

-- two paths' pieces are the same, one by one
abbrev pub same_each : Pieces → Pieces → Bool
same_each p q =
    equal p.first.now q.first.now
    && (equal p.first_end.now q.first_end.now
    && (equal p.second.now q.second.now
    && (equal p.second_end.now q.second_end.now && equal p.last.now q.last.now)))

-- the pieces behind the first
abbrev pub behind_first : Pieces → List (Bor (List ℕ))
behind_first p = p.first_end ∷ p.second ∷ p.second_end ∷ p.last ∷ []

-- the bytes of pieces in a row
abbrev pub bytes_of : List (Bor (List ℕ)) → List ℕ
bytes_of [] = []
bytes_of (r ∷ rs) = r.now ++ bytes_of rs
