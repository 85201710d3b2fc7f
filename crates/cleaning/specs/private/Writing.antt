-- What the private parts of a cleaning's code give: verdicts read from flags and marks, and the lengths of new texts.
-- The meaning is that of Cleaning.antt; it relies on the joins of `path` and on the flags of a link in `lookup`.
use Rattle.std.specs.Prelude.{ℕ, zero, suc, ◌+◌, ◌-◌, Bool, true, false, cond, List, [], ◌∷◌, eqb, ltb, length, get_or}
use Rattle.lists.specs.Lists.{cleared}
use Rattle.types.specs.Refusals.{value, refused}
use Rattle.path.specs.Join.{appended}
use Rattle.tables.specs.declared.span.Span.{Span}
use Rattle.tables.specs.declared.rows.Row.{Row}
use Rattle.tables.specs.Span.{text_at, clip}
use Rattle.tables.specs.Rows.{row_at, directory_span, link_span}
use Rattle.tables.specs.Model.{Store}
use Rattle.lookup.specs.Lookup.{is_flagged}
use Rattle.links.specs.declared.mark.LinkVerdict.{LinkVerdict}
use Rattle.links.specs.declared.mark.LinkVerdict.TheVariants.{Keep, OwnPath, FromDirectory}
use Rattle.links.specs.Judging.{verdict_read}
use Rattle.cleaning.specs.Cleaning.{emptied_at, emptied, rewritten_at, rewritten, cleaned_store, if_changed, kept_after}
use Rattle.cleaning.specs.Cleaning.{new_bytes, Cleaned}
use Rattle.cleaning.specs.Cleaning.{cleaned_to, cleaning_number}

-- ---- verdicts

abbrev pub flags_in : List ℕ → ℕ → ℕ
flags_in rows i = (row_at rows i).flags

-- the verdict on a file with those flags, if it is a flagged link that has the k-th mark; and the next link's mark
abbrev pub verdict_by : ℕ → List ℕ → ℕ → LinkVerdict
verdict_by flags marks k = cond (is_flagged flags) (verdict_read (get_or marks k 0)) Keep

abbrev pub mark_after : ℕ → ℕ → ℕ
mark_after flags k = cond (is_flagged flags) (k + 1) k

-- the verdicts of the n files from file i on, whose flags are g; the next link has the k-th mark
unfoldable pub verdicts_by : (ℕ → ℕ) → List ℕ → ℕ → ℕ → ℕ → List LinkVerdict
verdicts_by g marks zero i k = []
verdicts_by g marks (suc n) i k = verdict_by (g i) marks k ∷ verdicts_by g marks n (i + 1) (mark_after (g i) k)

-- those of all files
abbrev pub all_verdicts : Store → List ℕ → List LinkVerdict
all_verdicts s marks = verdicts_by (flags_in s.rows) marks s.fs.num_files 0 0

-- ---- passes over the files

-- each file's step, by its verdict
abbrev pub passed : (LinkVerdict → Store → ℕ → Store) → List LinkVerdict → ℕ → Store → Store
passed f [] i s = s
passed f (v ∷ vs) i s = passed f vs (i + 1) (f v s i)

-- the step of the first pass, or of the second, with scratch space of n bytes
abbrev pub step_at : Bool → ℕ → LinkVerdict → Store → ℕ → Store
step_at true n = emptied_at
step_at false n = rewritten_at n

-- ---- the text needed

-- the bytes of file i's old text that go
abbrev pub gone_bytes : List ℕ → ℕ → LinkVerdict → ℕ → ℕ
gone_bytes rows used v i = if_changed v (clip used (row_at rows i).link).len

-- the bytes of a leaf joined to a row's directory
abbrev pub joined_bytes : List ℕ → List ℕ → Row → Span → ℕ
joined_bytes dirs text r leaf = length (appended (text_at text (directory_span dirs r)) (text_at text leaf))

-- those of a link's new text: its leaf is the link's name, or its old text
abbrev pub new_length : List ℕ → List ℕ → LinkVerdict → Row → ℕ
new_length dirs text Keep r = 0
new_length dirs text OwnPath r = joined_bytes dirs text r r.name
new_length dirs text FromDirectory r = joined_bytes dirs text r (link_span r)

-- what is left of u bytes, and the sum, file by file from i on
abbrev pub left_by : (LinkVerdict → ℕ → ℕ) → List LinkVerdict → ℕ → ℕ → ℕ
left_by h [] i u = u
left_by h (v ∷ vs) i u = left_by h vs (i + 1) (u - h v i)

abbrev pub sum_by : (LinkVerdict → ℕ → ℕ) → List LinkVerdict → ℕ → ℕ
sum_by h [] i = 0
sum_by h (v ∷ vs) i = h v i + sum_by h vs (i + 1)

abbrev pub needed_by : List LinkVerdict → Store → ℕ
needed_by vs s = kept_after vs 0 s s.fs.text_len + new_bytes vs 0 s

-- ---- the call

-- once links are judged: the verdicts are those of the files
abbrev pub cleaned_by : List LinkVerdict → Store → List ℕ → Cleaned
cleaned_by vs s scratch =
    cond (ltb (length s.text) (needed_by vs s)) (cleaned_to (refused 10) s [] scratch [])
    (cleaned_to (value (rewritten (length scratch) vs 0 (emptied vs 0 s)).fs)
    (rewritten (length scratch) vs 0 (emptied vs 0 s))
    []
    (cleared scratch)
    [])

abbrev pub cleaned_by_marks : Store → List ℕ → List ℕ → Cleaned
cleaned_by_marks s marks scratch = cleaned_by (all_verdicts s marks) s scratch

-- the call but for the marks and the walk path, which are given by their lengths
abbrev pub cleaned_within : Store → ℕ → List ℕ → ℕ → Cleaned
cleaned_within s marks scratch walk_path =
    cond (eqb (cleaning_number s marks (length scratch) walk_path) 0)
    (cleaned_to (value (cleaned_store (length scratch) s).fs)
    (cleaned_store (length scratch) s) [] (cleared scratch) [])
    (cleaned_to (refused (cleaning_number s marks (length scratch) walk_path)) s [] scratch [])
