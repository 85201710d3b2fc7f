-- `files::asked::AskedFile::exclusive` meets its contract.
use Rattle.std.proofs.Common.{refl, ap, ◌∙◌}
use Rattle.tables.specs.Rows.{row_at}
use Rattle.files.specs.Request.{file_start}
use Rattle.files.specs.Files.{exclusive_begin, exclusive_end}
use Rattle.files.proofs.Requests.{placed}
use Rattle.files.proofs.Deciding.{low-as, low-whole}
use Rattle.files.proofs.asked.AskedFile.exclusive.Goals as goal

pub returns : goal.returns
returns c =
    let f = c.args.self in
    let p = placed f.fs _ 1 (file_start f.fs f.rows.now f.k) f.few refl in
    cc (
      low-whole c.new.ensures (c.exclusive_begin.ensures ∙ ap exclusive_begin c.start-r.ensures) p.begin,
      low-as c.new-2.ensures (c.exclusive_end.ensures ∙ ap (exclusive_end f.fs f.k (row_at f.rows.now f.k).size) c.start-r.ensures),
    )
