-- Document 02 (iii): 'every byte of the text area that neither held text before nor holds it after'. Which bytes hold
-- text is said of the texts of a set (Sound.antt), not of the count of bytes in the set's record.
use Rattle.std.specs.Prelude.{ℕ, ◌≤◌, ◌<◌}
use Rattle.tables.specs.Span.{end_of}
use Rattle.tables.specs.Model.{Store}
use Rattle.sound.specs.Sound.{TextId, span_of}

-- text p has the byte at place k of the text area
pub record HasByte (s : Store) (k : ℕ) (p : TextId) : Type 0 where
  pub low : (span_of s p).at ≤ k
  pub high : k < end_of (span_of s p)

-- no text of the set has it
abbrev pub Free : Store → ℕ → Type 0
Free s k = (p : TextId) → HasByte s k p → ⊥
