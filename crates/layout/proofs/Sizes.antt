-- The size of a piece is no more than the piece length, and n bytes have no more than n blocks. They rely on the laws of
-- quotients.
use Rattle.std.proofs.Common.{◌≡◌, ℕ, ◌+◌, ◌-◌, ◌<◌, ◌≤◌, Bool, true, false, cond, eqb, suc-mul, add-one, arith, eqb-true, refl}
use Rattle.lists.proofs.Quotients.{ceiling-le, ceiling-covers}
use Rattle.tables.specs.declared.storage.FileStorage.{FileStorage}
use Rattle.rules.specs.Bounds.{block_size}
use Rattle.rules.specs.Questions.{num_pieces}
use Rattle.layout.specs.Pieces.{start_of, piece_size, blocks_in}

pub size_le : (fs : FileStorage) (p : ℕ) → 0 < fs.piece_length → piece_size fs p ≤ fs.piece_length
size_le fs p h = at (eqb (p + 1) (num_pieces fs)) refl
  where
    at : (b : Bool) → eqb (p + 1) (num_pieces fs) ≡ b → cond b (fs.total_size - start_of fs p) fs.piece_length ≤ fs.piece_length
    at true e =
        let q = rw (← (eqb-true (p + 1) (num_pieces fs) e), add-one p, suc-mul p fs.piece_length) at (ceiling-covers fs.total_size fs.piece_length h) in
        omega arith
    at false e = omega arith

pub blocks_le : (n : ℕ) → blocks_in n ≤ n
blocks_le n = ceiling-le n block_size (omega arith) n (omega arith)
