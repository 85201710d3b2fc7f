-- `files::file::find_root` meets its contract: the chain asks the files in turn.
use Rattle.std.proofs.Common.{rules, refl, arith}
use Rattle.std.proofs.lemmas.Iterator.{YieldsList-from_range}
use Rattle.std.proofs.lemmas.Iterator.Search.{find_from_yields_List}
use Rattle.files.proofs.Roots.{has_root, root_first}
use Rattle.files.proofs.file.find_root.Goals as goal

pub returns : goal.returns
returns c =
    let a = c.args in
    root_first a.rows.now a.roots.now a.root.bytes a.n c.find.result
    (find_from_yields_List (has_root a.rows.now a.roots.now a.root.bytes) _ _ c.find.result c.find.ensures.ran (YieldsList-from_range 0 a.n a.n refl (omega arith)) (λ x b q h. search rules))
    (λ e. search rules)
    (λ k e. search rules)
