-- `rope::frame::start_in` meets its contract.
use Prim.Native.Nat.{ℕ, ◌+◌, ◌*◌}
use mathlib.Core.Path.{◌≡◌, refl}
use mathlib.Core.List.{List}
use lib.ListN.{get_or}
use Rattle.rope.specs.Rope.{frame_width, half_word, start}
use Rattle.rope.proofs.frame.start_in.Goals as goal

-- the two halves of a start
start_is : (frames : List ℕ) (k : ℕ) → get_or frames (k * frame_width + 1) 0 + get_or frames (k * frame_width + 2) 0 * half_word ≡ start frames k
unfolding start
start_is frames k = refl

pub returns : goal.returns
returns c = rw (c.item_or-low.ensures, c.item_or-high.ensures) (start_is c.args.frames.now c.args.k)
