-- `files::asked::AskedFile::exclusive_end` meets its contract.
use Rattle.std.proofs.Common.{arith}
use Rattle.files.specs.private.Deciding.{request_of}
use Rattle.files.proofs.Requests.{placed}
use Rattle.files.proofs.asked.AskedFile.exclusive_end.Goals as goal

pub overflow_add-position_after : goal.overflow_add-position_after
overflow_add-position_after c =
    let f = c.args.self in
    let p = placed f.fs _ 1 (request_of c.args.r) f.few c.requires in
    omega (arith, c.size.ensures, c.position_after.ensures)
