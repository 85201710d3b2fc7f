-- A refusal is known by its number.
--     numbered             no refusal has the number 0
--     number-injective     two refusals with one number are one refusal
--     exit                 what the exit of a `?` says
-- Assumes nothing.
use Prim.Native.Nat.{ℕ}
use mathlib.Core.Path.{◌≡◌, refl, sym, ap, ◌∙◌}
use mathlib.Core.Bool.{false}
use mathlib.Core.List.{List, [], ◌∷◌}
use lib.Dec.{eqb}
use lib.ListN.{get_or}
use Rattle.std.specs.Prelude.{Result, Ok, Err, IsErrAnd}
use Rattle.types.specs.Refusals.{number_of, refused, outcome}
use Rattle.types.specs.declared.refusal.Refusal.{Refusal}
use Rattle.types.specs.declared.refusal.Refusal.TheVariants.{InvalidPieceLength, NegativeSize, FileTooLarge, TorrentInvalidLength, FilenameTooLong, InvalidName, MissingParentPath, TorrentMissingPiecesRoot, TorrentInconsistentFiles, NoRoom, NoSuchFile, NoSuchPiece, TooManyPieces, OutOfRange, NotASymlink, NoTree, ParseFailed}

-- the refusals in the order of their numbers, from 1
abbrev in_order : List Refusal
in_order =
    InvalidPieceLength ∷ NegativeSize ∷ FileTooLarge ∷ TorrentInvalidLength ∷ FilenameTooLong ∷ InvalidName ∷
    MissingParentPath ∷ TorrentMissingPiecesRoot ∷ TorrentInconsistentFiles ∷ NoRoom ∷ NoSuchFile ∷ NoSuchPiece ∷
    TooManyPieces ∷ OutOfRange ∷ NotASymlink ∷ NoTree ∷ ParseFailed ∷ []

-- the refusal of a number
abbrev refusal_of : ℕ → Refusal
refusal_of n = get_or (ParseFailed ∷ in_order) n ParseFailed

again : (e : Refusal) → refusal_of (number_of e) ≡ e
again InvalidPieceLength = refl
again NegativeSize = refl
again FileTooLarge = refl
again TorrentInvalidLength = refl
again FilenameTooLong = refl
again InvalidName = refl
again MissingParentPath = refl
again TorrentMissingPiecesRoot = refl
again TorrentInconsistentFiles = refl
again NoRoom = refl
again NoSuchFile = refl
again NoSuchPiece = refl
again TooManyPieces = refl
again OutOfRange = refl
again NotASymlink = refl
again NoTree = refl
again ParseFailed = refl

-- no refusal has the number 0
pub numbered : (e : Refusal) → eqb (number_of e) 0 ≡ false
numbered InvalidPieceLength = refl
numbered NegativeSize = refl
numbered FileTooLarge = refl
numbered TorrentInvalidLength = refl
numbered FilenameTooLong = refl
numbered InvalidName = refl
numbered MissingParentPath = refl
numbered TorrentMissingPiecesRoot = refl
numbered TorrentInconsistentFiles = refl
numbered NoRoom = refl
numbered NoSuchFile = refl
numbered NoSuchPiece = refl
numbered TooManyPieces = refl
numbered OutOfRange = refl
numbered NotASymlink = refl
numbered NoTree = refl
numbered ParseFailed = refl

pub number-injective : (a b : Refusal) → number_of a ≡ number_of b → a ≡ b
number-injective a b e = sym (again a) ∙ ap refusal_of e ∙ again b

-- what the exit of a `?` says: the refusal that it was given
pub exit : {A : Type 0} (r : Result A Refusal) (e : Refusal) → IsErrAnd r (λ x. x ≡ e) → outcome r ≡ refused (number_of e)
exit (Ok a) e h = absurd h
exit (Err x) e h = ap (λ y. refused (number_of y)) h
