-- What the public documents say of a set, on the model: BEP 3 of the layout, BEP 47 of padding files, BEP 52 of pieces.
-- They are demands on the files' offsets, sizes, names, directories and flags; they rely on the model of `tables` and
-- on the decimal digits of `lists`.
use Rattle.std.specs.Prelude.{ℕ, ◌+◌, ◌%◌, ◌<◌, ◌≡◌, true, false, cond, List, [], ◌∷◌, map, length, get_or, take}
use Rattle.lists.specs.Lists.{sum}
use Rattle.lists.specs.Decimal.{decimal}
use Rattle.tables.specs.Model.{File, stored, is_pad, Model}
use Rattle.additions.specs.Addition.{is_present}

abbrev pub sizes : Model → List ℕ
sizes m = map (λ (f : File). f.size) m.files

-- BEP 3: the files' contents are laid end to end, in the order of the list, and nothing stands between two of them
pub record EndToEnd (m : Model) : Type 0 where
  pub offsets : (k : ℕ) → k < length m.files
      → get_or (map (λ (f : File). f.offset) m.files) k 0 ≡ sum (take k (sizes m))
  pub total : m.total ≡ sum (sizes m)

-- BEP 47: a padding file is marked, and need not be written to disk: the size on disk leaves the pads out
abbrev pub disk_size_of : File → ℕ
disk_size_of f = cond (is_pad f.flags) 0 f.size

abbrev pub OnDisk : Model → Type 0
OnDisk m = m.on_disk ≡ sum (map disk_size_of m.files)

-- BEP 47: every pad that an addition made is marked
abbrev pub Marked : File → Type 0
Marked f = f.made ≡ true → is_pad f.flags ≡ true

-- BEP 47: a padding file stands for bytes that fill up to a boundary, and its usual path is `.pad` and then its size in
-- decimal digits. So is each pad that an addition makes (document 01: 'directory `.pad`, name the pad's size in decimal
-- digits'); its flags are 1 alone, the pad's
pub record PadMade (piece_length : ℕ) (f : File) : Type 0 where
  pub nonempty : 0 < f.size
  pub shorter : f.size < piece_length
  pub ends : (f.offset + f.size) % piece_length ≡ 0
  -- 46, 112, 97, 100 are the bytes of `.pad`, which stands inside the set's name
  pub directory : f.directory ≡ stored (46 ∷ 112 ∷ 97 ∷ 100 ∷ []) false
  pub name : f.name ≡ decimal f.size
  pub flags : f.flags ≡ 1

-- every pad that an addition made is such a pad
abbrev pub MadePad : ℕ → File → Type 0
MadePad piece_length f = f.made ≡ true → PadMade piece_length f

-- BEP 52: 'each nonempty file but the pads made here starts on a piece'
abbrev pub OnPiece : ℕ → File → Type 0
OnPiece piece_length f = f.made ≡ false → 0 < f.size → f.offset % piece_length ≡ 0

-- a property of every file
pub data Each (P : File → Type 0) : List File → Type 0 where
  none : Each P []
  more : {f : File} {fs : List File} → P f → Each P fs → Each P (f ∷ fs)

-- BEP 52's condition on a set: 'whose links all have size 0'
abbrev pub LinkEmpty : File → Type 0
LinkEmpty f = is_present f.link ≡ true → f.size ≡ 0
