-- `lookup::space::lacks_bytes` meets its contract: by `try_fold` the room gives what each file needs, or is too short.
use mathlib.Core.Path.{refl, sym, ◌∙◌}
use native.Mathlib.Nat.{sub-zero}
use Rattle.std.proofs.Common.{rules}
use Rattle.std.proofs.lemmas.Iterator.{YieldsList-from_range}
use Rattle.lists.proofs.Takings.{all_taken_by, numbers_of}
use Rattle.lookup.specs.private.Rows.{row_space}
use Rattle.lookup.specs.private.Sets.{stored_in}
use Rattle.lookup.proofs.Spaces.{none-left}
use Rattle.lookup.proofs.space.lacks_bytes.Goals as goal

pub returns : goal.returns
returns c =
    let s = stored_in c.args.set in
    let n = s.fs.num_files in
    let need = row_space s.rows s.dirs s.text in
    let fits = all_taken_by need _ _ _ (λ a x w q k. search rules) _ c.try_fold.result _ c.try_fold.new.self _ c.args.room (numbers_of _ (λ i. i) need (YieldsList-from_range 0 n n refl (sub-zero n))) c.try_fold.ensures.ran in
    none-left s c.args.room c.is_none.result (sym c.is_none.ensures ∙ fits)
