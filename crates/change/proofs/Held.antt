-- What is known of a set that its tables hold.
use Prim.Native.Nat.{◌≤◌}
use mathlib.Core.Path.{◌≡◌}
use mathlib.Core.Bool.{true}
use borrow.Author.Tests.{leb-true}
use Rattle.tables.specs.declared.storage.FileStorage.{FileStorage}
use Rattle.change.specs.declared.rooms.Rooms.{Rooms}
use Rattle.change.specs.Rooms.{files_room, dirs_room, holds_in}
use Rattle.rules.proofs.Rules.{both_true}

pub record Held (fs : FileStorage) (rooms : Rooms) : Type 0 where
  pub files : fs.num_files ≤ files_room rooms
  pub paths : fs.num_paths ≤ dirs_room rooms
  pub used : fs.text_len ≤ rooms.text

pub held : (fs : FileStorage) (rooms : Rooms) → holds_in fs rooms ≡ true → Held fs rooms
held fs rooms e =
    let a = both_true _ _ e in
    let b = both_true _ _ a.1 in
    record {
      files = leb-true _ _ a.0;
      paths = leb-true _ _ b.0;
      used = leb-true _ _ b.1;
    }
