-- What each table holds once a plan is written. Private: the public definitions are those of `plan`, and
-- proofs/Written.antt ties these to them.
use Rattle.std.specs.Prelude.{ℕ, ◌+◌, ◌-◌, cond, List, eqb, replicate, Option, Some, None}
use Rattle.std.proofs.lemmas.List.Edits.{sets}
use Rattle.lists.specs.Decimal.{decimal}
use Rattle.tables.specs.declared.span.Span.{Span}
use Rattle.tables.specs.declared.rows.Row.{Row}
use Rattle.tables.specs.declared.storage.FileStorage.{FileStorage}
use Rattle.tables.specs.Span.{slid}
use Rattle.tables.specs.Rows.{put_row, put_dir, dirs_lowered}
use Rattle.rules.specs.Questions.{num_pieces}
use Rattle.additions.specs.Addition.{pad_directory_name}
use Rattle.plan.specs.declared.plan.NewDir.{NewDir}
use Rattle.plan.specs.declared.plan.AddPlan.{AddPlan}

-- the text area without the old name of a set without files, which is named again
abbrev pub renamed : ℕ → Span → ℕ → List ℕ → List ℕ
renamed files old used text = cond (eqb files 0) (slid old used text) text

-- the text of a directory, where that is new
abbrev pub dir_text_written : Option NewDir → List ℕ → List ℕ → List ℕ
dir_text_written None text dir = text
dir_text_written (Some d) text dir = sets text d.text.at dir

-- the new texts but the pad's
abbrev pub texts_written : AddPlan → List ℕ → List ℕ → List ℕ → List ℕ → List ℕ → List ℕ
texts_written p text set_name dir name link =
    sets (sets (dir_text_written p.dir (sets text p.start set_name) dir) p.row.name.at name) p.row.link.at link

-- the text area before the pad's texts
abbrev pub text_before_pad : ℕ → ℕ → AddPlan → List ℕ → List ℕ → List ℕ → List ℕ → List ℕ → List ℕ
text_before_pad files used p text set_name dir name link =
    texts_written p (renamed files p.old used text) set_name dir name link

-- the pad's texts, where there is a pad
abbrev pub pad_text_written : Option Row → Option NewDir → List ℕ → List ℕ
pad_text_written None dir text = text
pad_text_written (Some row) dir text =
    sets (dir_text_written dir text pad_directory_name) row.name.at (decimal row.size)

abbrev pub text_written : ℕ → ℕ → AddPlan → List ℕ → List ℕ → List ℕ → List ℕ → List ℕ → List ℕ
text_written files used p text set_name dir name link =
    pad_text_written p.pad_row p.pad_dir (text_before_pad files used p text set_name dir name link)

abbrev pub dirs_renamed : ℕ → Span → ℕ → List ℕ → List ℕ
dirs_renamed files old n dirs = cond (eqb files 0) (dirs_lowered dirs n old) dirs

-- the row of a directory, where that is new
abbrev pub dir_written : Option NewDir → List ℕ → List ℕ
dir_written None dirs = dirs
dir_written (Some d) dirs = put_dir dirs d.slot d.text

-- the directory rows before the pad's
abbrev pub dirs_before_pad : ℕ → ℕ → AddPlan → List ℕ → List ℕ
dirs_before_pad files n p dirs = dir_written p.dir (dirs_renamed files p.old n dirs)

-- the pad's directory row, where there is a pad
abbrev pub pad_dir_written : Option Row → Option NewDir → List ℕ → List ℕ
pad_dir_written None dir dirs = dirs
pad_dir_written (Some row) dir dirs = dir_written dir dirs

abbrev pub dirs_written : ℕ → ℕ → AddPlan → List ℕ → List ℕ
dirs_written files n p dirs = pad_dir_written p.pad_row p.pad_dir (dirs_before_pad files n p dirs)

-- the pad's row, where there is a pad
abbrev pub pad_row_written : ℕ → Option Row → List ℕ → List ℕ
pad_row_written files None rows = rows
pad_row_written files (Some row) rows = put_row rows (files + 1) row

abbrev pub rows_written : ℕ → AddPlan → List ℕ → List ℕ
rows_written files p rows = pad_row_written files p.pad_row (put_row rows files p.row)

-- the table of first files, by the set's record before and after an addition
abbrev pub firsts_written : FileStorage → FileStorage → List ℕ → List ℕ
firsts_written before after firsts =
    cond before.indexed
    (sets firsts (num_pieces before) (replicate (num_pieces after - num_pieces before) before.num_files))
    firsts
