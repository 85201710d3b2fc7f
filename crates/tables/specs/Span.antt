-- Texts side by side in the used part of a text area, which is a prefix without gaps. A span says where a text lies; a
-- text is removed by sliding down what follows it. All is total: spans may lie anywhere, and empty ones are harmless.
-- It relies on `part_of` of `lists` and on the splits of `path`.
use Rattle.std.specs.Prelude.{ℕ, ◌+◌, ◌-◌, ◌≤◌, min, max, List, length, take, drop}
use Rattle.std.proofs.lemmas.List.Edits.{sets}
use Rattle.lists.specs.Lists.{part_of}
use Rattle.path.specs.Split.{is_separator, trimmed, rsplit_leaf}
use Rattle.tables.specs.declared.span.Span.{Span}

abbrev pub end_of : Span → ℕ
end_of s = s.at + s.len

-- the text that a span holds
abbrev pub text_at : List ℕ → Span → List ℕ
text_at text s = part_of text s.at s.len

-- no byte is in both; a span of no bytes is apart from all
abbrev pub Apart : Span → Span → Type 0
Apart s t = min (end_of s) (end_of t) ≤ max s.at t.at

-- the position of the byte at p once the bytes of span c are removed
abbrev pub lower : Span → ℕ → ℕ
lower c p = p - min c.len (p - c.at)

abbrev pub low : Span → Span → Span
low c s = record { at = lower c s.at; len = s.len }

-- a span's part within the first u bytes
abbrev pub clip : ℕ → Span → Span
clip u s = record { at = min s.at u; len = min s.len (u - s.at) }

-- the area once span c of its first u bytes is removed: what follows c slides down; the bytes after the used part, and
-- as many before them as were removed, are left as they were
abbrev pub slid : Span → ℕ → List ℕ → List ℕ
slid c u text = sets text c.at (drop (end_of c) (take u text))

-- the span of a path's leaf, which ends where the path does once a separator at its end is dropped
abbrev pub leaf_span : List ℕ → Span
leaf_span path =
    record { at = length (trimmed is_separator path) - length (rsplit_leaf path); len = length (rsplit_leaf path) }
