-- `cleaning::clean::clean` meets its contract: a refusal of the judgement, no flagged link, or links that are judged with
-- 65535 marks.
use Prim.Native.Nat.{ℕ}
use mathlib.Core.Path.{◌≡◌, sym, subst, ◌∙◌}
use lib.ListN.{length}
use Rattle.types.specs.Refusals.{Outcome, value}
use Rattle.tables.specs.Model.{Store}
use Rattle.tables.specs.Lending.{held}
use Rattle.rules.specs.Rules.{outcome_of}
use Rattle.rules.proofs.Rules.{outcome-value}
use Rattle.lookup.specs.Lookup.{entries_of}
use Rattle.lookup.specs.Space.{link_count}
use Rattle.links.specs.Judging.{judging_number}
use Rattle.cleaning.proofs.Cleans.{within_none, within-local}
use Rattle.cleaning.proofs.clean.clean.Goals as goal

-- what the links to judge say, of a set s that is read as t
module _ {s t : Store} (read : t ≡ s) (marks scratch walk_path n : ℕ) where
  abbrev pub Says : Store → Type 0
  Says s = ◌≡◌ {A = Outcome ℕ} (value n) (outcome_of (judging_number s marks scratch walk_path) (link_count (entries_of s)))

  pub told : Says t → (judging_number s marks scratch walk_path ≡ 0) × (n ≡ link_count (entries_of s))
  told e = outcome-value (judging_number s marks scratch walk_path) n (link_count (entries_of s)) (subst Says read e)

pub returns-then-n-eq0-clause-value : goal.returns-then-n-eq0-clause-value
returns-then-n-eq0-clause-value c =
    let a = c.args in
    let said = told c.read.ensures a.marks (length a.scratch.now) a.walk_path c.in_ok-n.n c.in_ok-n.ensures in
    within_none (held a.set.now) a.marks a.scratch.now a.walk_path said.0 (sym said.1 ∙ c.if-n-eq0.true) (c.fill.ensures.after (λ y e. e))

pub returns-clause-value : goal.returns-clause-value
returns-clause-value c =
    let a = c.args in
    let said = told c.read.ensures a.marks (length a.scratch.now) a.walk_path c.in_ok-n.n c.in_ok-n.ensures in
    c.clean_links.ensures.value ∙ within-local (held a.set.now) a.marks a.scratch.now a.walk_path said.0
