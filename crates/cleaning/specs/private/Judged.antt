-- A set whose links are judged, as the private functions pass it, and the text that it needs. It relies on
-- Writing.antt.
use Rattle.std.specs.Prelude.{ℕ, List}
use Rattle.tables.specs.Rows.{row_at}
use Rattle.tables.specs.Lending.{store_in}
use Rattle.links.specs.declared.mark.LinkVerdict.{LinkVerdict}
use Rattle.cleaning.specs.declared.room.JudgedSet.{JudgedSet}
use Rattle.cleaning.specs.private.Writing.{all_verdicts, gone_bytes, new_length, left_by, sum_by}

-- the verdict on each of its files
abbrev pub verdicts_on : JudgedSet → List LinkVerdict
verdicts_on j = all_verdicts (store_in j.set) j.marks.now

-- what is left of its texts after those that change are removed, and the bytes of the new ones
abbrev pub gone_in : JudgedSet → LinkVerdict → ℕ → ℕ
gone_in j = gone_bytes j.set.lent.rows.now j.set.fs.text_len

abbrev pub kept_in : JudgedSet → ℕ
kept_in j = left_by (gone_in j) (verdicts_on j) 0 j.set.fs.text_len

abbrev pub new_in : JudgedSet → LinkVerdict → ℕ → ℕ
new_in j v i = new_length j.set.lent.dirs.now j.set.lent.text.now v (row_at j.set.lent.rows.now i)

abbrev pub added_in : JudgedSet → ℕ
added_in j = sum_by (new_in j) (verdicts_on j) 0
