-- `tables::rows::put_words` meets its contract. The loop's invariant: the first k words are stored.
use mathlib.Core.Path.{◌≡◌}
use lib.ListN.{take}
use lib.Seq.{sets}
use Rattle.tables.proofs.rows.put_words.Given as goal

abbrev pub invariant-loop-k : goal.invariant-loop-k
invariant-loop-k g l = l.rest ≡ sets l.initial.rest 0 (take l.k l.words)
