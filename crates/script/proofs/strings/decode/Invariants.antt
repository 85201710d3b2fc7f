-- The bytes that are left, after those that are written, are what the word stands for.
use Rattle.std.proofs.Common.{length}
use Rattle.script.specs.Strings.{text_in, string_of}
use Rattle.script.proofs.Units.{State}
use Rattle.script.proofs.strings.decode.Given as goal

abbrev pub invariant-loop-rest : goal.invariant-loop-rest
invariant-loop-rest l = State (string_of l.word) l.used l.fn.target (text_in l.rest) l.n l.target

abbrev pub decreases-loop-rest : goal.decreases-loop-rest
decreases-loop-rest l = length l.rest
