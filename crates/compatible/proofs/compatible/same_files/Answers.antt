-- `compatible::compatible::same_files` meets its contract: the chain asks each file by its number.
use mathlib.Core.Path.{refl, ◌∙◌}
use native.Mathlib.Nat.{sub-zero}
use Rattle.std.proofs.Common.{rules}
use Rattle.std.proofs.lemmas.Iterator.{YieldsList-from_range}
use Rattle.std.proofs.lemmas.Iterator.Search.{all_from_yields_List}
use Rattle.tables.specs.Rows.{row_at}
use Rattle.compatible.specs.Compatible.{same_file}
use Rattle.compatible.specs.private.Sets.{set_of}
use Rattle.compatible.proofs.Sets.{all-files}
use Rattle.compatible.proofs.compatible.same_files.Goals as goal

pub returns : goal.returns
returns c =
    all_from_yields_List (λ k. same_file (set_of c.args.a) (set_of c.args.b) (row_at c.args.a.lent.rows.now k) (row_at c.args.b.lent.rows.now k)) _ _ _ c.all.ensures.ran
    (YieldsList-from_range 0 c.args.a.fs.num_files c.args.a.fs.num_files refl (sub-zero c.args.a.fs.num_files))
    (λ x b q k. search rules)
    ∙ all-files (set_of c.args.a) (set_of c.args.b) c.args.a.fs.num_files 0
