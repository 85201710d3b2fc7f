-- `files::list::put_words` meets its contract. The loop's invariant: the first k words are in their places.
use mathlib.Core.Path.{◌≡◌}
use lib.ListN.{take}
use lib.Seq.{sets}
use Rattle.files.proofs.list.put_words.Given as goal

abbrev pub invariant-loop-k : goal.invariant-loop-k
invariant-loop-k l = l.answers ≡ sets l.initial.answers l.at (take l.k l.words)
