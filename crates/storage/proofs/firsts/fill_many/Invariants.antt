-- `storage::firsts::fill_many` meets its contract. The loop's invariant: the file's number stands at the first p places, or at
-- all where there are fewer.
use mathlib.Core.Path.{◌≡◌}
use Prim.Native.Nat.{min}
use lib.ListN.{length, replicate}
use lib.Seq.{sets}
use Rattle.storage.proofs.firsts.fill_many.Given as goal

abbrev pub invariant-loop-p : goal.invariant-loop-p
invariant-loop-p l = l.run ≡ sets l.fn.run 0 (replicate (min l.p (length l.fn.run)) l.file)
