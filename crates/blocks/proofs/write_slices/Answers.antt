-- `blocks::write_slices` meets its contract: there are no more slices than files, so their numbers fit.
use Rattle.std.proofs.Common.{◌≡◌, ◌-◌, length, ap, inl, arith}
use Rattle.std.specs.Iterator.Adapters.{enumerate_source, enumerate_count}
use Rattle.layout.specs.Start.{slices_from, slices_left}
use Rattle.layout.proofs.Walk.{walk_files}
use Rattle.blocks.proofs.write_slices.Goals as goal

pub loop-n-init-derived : goal.loop-n-init-derived
loop-n-init-derived c =
    let a = c.args in
    let all : slices_left (enumerate_source c.into_iter-n-iterator.result) ≡ slices_from a.rows.now a.at = cc in
    let none : enumerate_count c.into_iter-n-iterator.result ≡ 0 = cc in
    let few = walk_files a.rows.now (a.at.files - a.at.file) a.at.file a.at.skip a.at.left in
    ((tt, tt, inl (omega (arith, ap length all))), tt)
