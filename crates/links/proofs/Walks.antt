-- The walk of a link's text with the first pass's leads: the open links are the set's, their texts and the walked one
-- are short, and there are frames enough. These laws rely on those of proofs/Marks.antt, proofs/Room.antt,
-- proofs/Fronts.antt and proofs/Leads.antt.
use Prim.Native.Nat.{ℕ, ◌+◌, ◌*◌, ◌≤◌}
use mathlib.Core.Path.{◌≡◌, ap, ◌∙◌}
use mathlib.Core.Bool.{false}
use mathlib.Core.List.{List, map}
use native.Mathlib.Omega.{arith}
use lib.ListN.{length, set, length-set}
use Rattle.tables.specs.Model.{Store}
use Rattle.lookup.specs.Lookup.{entries_of, directories_of}
use Rattle.lookup.specs.Space.{directory_length, space}
use Rattle.lookup.specs.private.Rows.{entry_at}
use Rattle.lookup.proofs.Rows.{text_at_lem, entries-all}
use Rattle.links.specs.Clean.{links_of, weight}
use Rattle.rope.specs.Rope.{frame_width}
use Rattle.links.specs.private.Walking.{lead, open_of, path_of, with_frame, word_of, Walkable, WalksFrom}
use Rattle.links.proofs.Scans.{space-at}
use Rattle.links.proofs.Room.{links-fit}
use Rattle.links.proofs.Marks.{marks-say}
use Rattle.links.proofs.Fronts.{flat-alone}

-- the words of the frames stay as many
frame-length : (f : List ℕ) (k w : ℕ) → length (with_frame f k w) ≡ length f
frame-length f k w =
    let f₁ = set f (k * frame_width) w in
    let f₂ = set f₁ (k * frame_width + 1) 0 in
    length-set f₂ (k * frame_width + 2) 0 ∙ length-set f₁ (k * frame_width + 1) 0 ∙ length-set f (k * frame_width) w

module _ (s : Store) (marks : List ℕ) (i n : ℕ) (w : WalksFrom s marks i n) where
  -- the links that the first pass's leads leave open
  pub open_is : open_of (entries_of s) (map lead marks) ≡ links_of (entries_of s) (directories_of s) (entries_of s)
  open_is = ap (open_of (entries_of s)) w.marked ∙ marks-say (entries_of s) (directories_of s) (entries_of s)

  -- the text of link i as a path of one frame, and that it can be walked
  module _ (f f' : List ℕ) (y : n ≡ length f) (e : f' ≡ with_frame f 0 (word_of (record { file = i; from_directory = false }) false)) where
    pub first_path : path_of s f' 1 ≡ (entry_at s i).text
    first_path =
        ap (λ (x : List ℕ). path_of s x 1) e
        ∙ flat-alone s.rows s.dirs s.text f (record { file = i; from_directory = false }) (omega (arith, y, w.bounded.room))
        ∙ text_at_lem s i

    pub first_walkable : Walkable s (map lead marks) f'
    first_walkable =
        let t : directory_length (entry_at s i).directory + length (entry_at s i).text + 2 ≤ space (entries_of s) = rw (entries-all s) at (space-at s s.fs.num_files 0 i (omega arith) (omega (arith, w.row)) w.flag) in
        let l = links-fit (entries_of s) (directories_of s) (entries_of s) in
        let o = ap weight open_is in
        let m : length f' ≡ length f = ap length e ∙ frame-length f 0 (word_of (record { file = i; from_directory = false }) false) in
        record {
          few = w.bounded.few;
          fits = omega (arith, ap length first_path, t, l, o, w.bounded.small);
          room = omega (arith, y, w.bounded.room, m);
        }
