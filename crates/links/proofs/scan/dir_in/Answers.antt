-- `links::scan::dir_in` meets its contract: the chain asks each directory.
use mathlib.Core.Path.{refl, ◌∙◌}
use native.Mathlib.Nat.{sub-zero}
use Rattle.std.proofs.Common.{rules}
use Rattle.std.proofs.lemmas.Iterator.{YieldsList-from_range}
use Rattle.std.proofs.lemmas.Iterator.Search.{any_from_yields_List}
use Rattle.tables.specs.Model.{directory_text}
use Rattle.lookup.specs.Lookup.{covers}
use Rattle.lookup.proofs.Rows.{any-directory}
use Rattle.links.specs.private.Walking.{store_in, front_of}
use Rattle.links.proofs.scan.dir_in.Goals as goal

pub returns : goal.returns
returns c =
    any_from_yields_List (λ k. covers (directory_text (store_in c.args.front.fs c.args.front.path.lent) k) (front_of c.args.front.path c.args.front.e)) _ _ _ c.any.ensures.ran
    (YieldsList-from_range 0 c.args.front.fs.num_paths c.args.front.fs.num_paths refl (sub-zero c.args.front.fs.num_paths))
    (λ x b q k. search rules)
    ∙ any-directory (store_in c.args.front.fs c.args.front.path.lent) (front_of c.args.front.path c.args.front.e)
