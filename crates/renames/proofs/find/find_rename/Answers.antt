-- `renames::find::find_rename` meets its contract.
use Prim.Native.Nat.{◌/◌}
use lib.Dec.{leb}
use lib.ListN.{length}
use mathlib.Core.Path.{◌≡◌, sym, ap, ◌∙◌}
use mathlib.Core.Bool.{true}
use native.Mathlib.Omega.{arith}
use borrow.Author.Tests.{leb-true}
use Rattle.std.specs.Prelude.{Some}
use Rattle.types.specs.Refusals.{value}
use Rattle.rules.proofs.Rules.{both_true}
use Rattle.renames.specs.declared.rename.Rename.{Rename}
use Rattle.renames.specs.Renames.{renames_held}
use Rattle.renames.specs.Finding.{entry_is_named}
use Rattle.renames.proofs.Used.{sought_in_use}
use Rattle.renames.proofs.find.find_rename.Goals as goal

pub returns : goal.returns
returns c =
    let a = c.args in
    let e = a.rename_entries.now in
    let held : renames_held a.renames e a.room ≡ true = sym c.is_held.ensures ∙ c.if-not-is_held.false in
    let room = leb-true a.renames.num_renames (length e / 4) (both_true (leb a.renames.num_renames (length e / 4)) (leb a.renames.text_len a.room) held).0 in
    let is = c.entry_sought-i.ensures ∙ sought_in_use a.renames.num_renames e (omega (arith, room)) a.file in
    let named : entry_is_named a.renames.num_renames a.file c.entry_sought-i.result e ≡ true = sym c.is_named.ensures ∙ c.if-not-is_named.false in
    rw (held, ← is, named) (ap (λ (r : Rename). value (Some r)) c.rename_at.ensures)
