-- What is left of the line begins with the words that are left to pass.
use Rattle.std.proofs.Common.{◌≡◌, ◌-◌}
use Rattle.script.specs.Words.{from_word}
use Rattle.script.proofs.words.from_word.Given as goal

abbrev pub invariant-loop : goal.invariant-loop
invariant-loop l = from_word (l.number - l.counter) l.rest ≡ from_word l.number l.line
