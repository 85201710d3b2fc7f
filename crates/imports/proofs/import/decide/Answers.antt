-- `imports::import::decide` meets its contract.
use Prim.Native.Nat.{◌/◌, ◌≤◌}
use mathlib.Core.Path.{◌≡◌, refl, sym, ◌∙◌}
use native.Mathlib.Omega.{arith}
use borrow.Author.Rules.{rules}
use lib.ListN.{length}
use Rattle.imports.specs.private.Importing.{kept_state}
use Rattle.imports.specs.private.Merging.{is_noted}
use Rattle.renames.proofs.Used.{bytes_in_use}
use Rattle.imports.proofs.Noting.{held-named}
use Rattle.imports.proofs.Keeping.{count_in_use}
use Rattle.imports.proofs.Importing.{stay-in}
use Rattle.imports.proofs.import.decide.Goals as goal
use Rattle.imports.proofs.import.decide.Goals.{After-count_kept-stay}

pub count_kept-stay-requires : goal.count_kept-stay-requires
count_kept-stay-requires c =
    let k = stay-in (is_noted c.args.notes.now) c.args.held.renames c.args.held.entries.now (length c.args.held.text.now) (sym c.is_in_order.ensures ∙ c.if-not-is_in_order.false) in
    rw (bytes_in_use c.args.held.renames.num_renames c.args.held.entries.now k.0) (omega (arith, k.1))

-- the record that is counted is that of the renames that are kept, which lie within the tables
counted : (c : After-count_kept-stay)
    → (c.count_kept-stay.result ≡ kept_state (is_noted c.args.notes.now) c.args.held.renames c.args.held.entries.now)
    × (c.count_kept-stay.result.num_renames ≤ length c.args.held.entries.now / 4)
    × (c.count_kept-stay.result.text_len ≤ length c.args.held.text.now)
counted c =
    let k = stay-in (is_noted c.args.notes.now) c.args.held.renames c.args.held.entries.now (length c.args.held.text.now) (sym c.is_in_order.ensures ∙ c.if-not-is_in_order.false) in
    let u = count_in_use (is_noted c.args.notes.now) c.args.held.renames.num_renames c.args.held.entries.now k.0 in
    rw (c.count_kept-stay.ensures, u.0, u.1) (refl, k.2, k.3)

pub is_full-requires : goal.is_full-requires
is_full-requires c = let q = counted (goal.at.is_full-requires c).After-count_kept-stay in (q.1, q.2)

pub returns-then-is_full : goal.returns-then-is_full
returns-then-is_full c =
    let n = held-named c.args.fs c.args.list.numbers.now c.args.notes.now c.requires.0 c.requires.1 c.is_list_held.result (search rules) in
    let q = counted (goal.at.returns-then-is_full c).After-count_kept-stay in
    rw (← n.1, ← n.0) (search rules)

pub returns : goal.returns
returns c =
    let n = held-named c.args.fs c.args.list.numbers.now c.args.notes.now c.requires.0 c.requires.1 c.is_list_held.result (search rules) in
    let q = counted (goal.at.returns c).After-count_kept-stay in
    rw (← n.1, ← n.0) (search rules)
