-- Document 01, 'Refusals, by place': the number of each refusal, and what an answer says: its value, or the number of
-- its refusal and no other value. Every promise about an answer that is an enum is stated through such a reading.
-- It relies on the enums of src/refusal.rt.
use Rattle.std.specs.Prelude.{ℕ, Result, Ok, Err}
use Rattle.types.specs.declared.refusal.Refusal.{Refusal}
use Rattle.types.specs.declared.refusal.Refusal.TheVariants.{InvalidPieceLength, NegativeSize, FileTooLarge}
use Rattle.types.specs.declared.refusal.Refusal.TheVariants.{TorrentInvalidLength, FilenameTooLong, InvalidName}
use Rattle.types.specs.declared.refusal.Refusal.TheVariants.{MissingParentPath, TorrentMissingPiecesRoot}
use Rattle.types.specs.declared.refusal.Refusal.TheVariants.{TorrentInconsistentFiles, NoRoom, NoSuchFile}
use Rattle.types.specs.declared.refusal.Refusal.TheVariants.{NoSuchPiece, TooManyPieces, OutOfRange}
use Rattle.types.specs.declared.refusal.Refusal.TheVariants.{NotASymlink, NoTree, ParseFailed}

abbrev pub number_of : Refusal → ℕ
number_of InvalidPieceLength = 1
number_of NegativeSize = 2
number_of FileTooLarge = 3
number_of TorrentInvalidLength = 4
number_of FilenameTooLong = 5
number_of InvalidName = 6
number_of MissingParentPath = 7
number_of TorrentMissingPiecesRoot = 8
number_of TorrentInconsistentFiles = 9
number_of NoRoom = 10
number_of NoSuchFile = 11
number_of NoSuchPiece = 12
number_of TooManyPieces = 13
number_of OutOfRange = 14
number_of NotASymlink = 15
number_of NoTree = 16
number_of ParseFailed = 17

-- what a call answers: a value, or a refusal by its number
pub data Outcome (A : Type 0) : Type 0 where
  value : A → Outcome A
  refused : ℕ → Outcome A

abbrev pub outcome : {A : Type 0} → Result A Refusal → Outcome A
outcome (Ok a) = value a
outcome (Err e) = refused (number_of e)
