-- `layout::piece::size2_of` meets its contract: the file that follows is found among the rows in use.
use Rattle.std.proofs.Common.{rules, ◌≡◌, ◌∙◌, ap}
use Rattle.layout.specs.Search.{partition_point}
use Rattle.layout.specs.Pieces.{file_after}
use Rattle.layout.proofs.Front.{point_front}
use Rattle.layout.proofs.piece.size2_of.Goals as goal
use Rattle.layout.proofs.piece.size2_of.Goals.{After-partition_point-next}

next : (c : After-partition_point-next) → c.partition_point-next.result
    ≡ file_after c.args.asked.fs c.args.rows.now c.args.window c.args.asked.p
next c =
    c.partition_point-next.ensures
    ∙ point_front c.args.rows.now c.args.asked.fs.num_files c.requires c.args.window c.start-start.result
    ∙ ap (partition_point c.args.rows.now c.args.asked.fs.num_files c.args.window) c.start-start.ensures

pub returns-then-files-next-clause-value : goal.returns-then-files-next-clause-value
returns-then-files-next-clause-value c =
    let e = next (goal.at.returns-then-files-next-clause-value c).After-partition_point-next in
    search rules

pub returns-clause-value : goal.returns-clause-value
returns-clause-value c =
    let a = (goal.at.returns-clause-value c).After-partition_point-next in
    rw (← next a, ← a.start-start.ensures) (search rules)
