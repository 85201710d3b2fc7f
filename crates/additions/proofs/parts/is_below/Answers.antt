-- `additions::parts::is_below` meets its contract.
use mathlib.Core.Path.{refl, sym}
use native.Mathlib.Omega.{arith}
use borrow.Author.Tests.{lt-ltb}
use Rattle.path.specs.Split.{rsplit_leaf}
use Rattle.additions.proofs.Texts.{parent_above}
use Rattle.additions.proofs.parts.is_below.Goals as goal

pub returns-then-leaf-saturating_sub : goal.returns-then-leaf-saturating_sub
returns-then-leaf-saturating_sub c =
    rw (lt-ltb c.args.leaf c.saturating_sub.result (omega arith)) (sym (parent_above c.args.path.now (rsplit_leaf c.args.path.now) refl (omega (arith, c.saturating_sub.ensures, c.requires))))
