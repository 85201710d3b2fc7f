-- `plan::dirs::find_among` meets its contract: the search from the back finds what the list of the rows' texts says, as
-- the closure tells whether a row's text is `dir`.
use Rattle.std.proofs.Common.{◌∙◌, rules}
use Rattle.plan.proofs.Directories.{found-row}
use Rattle.plan.proofs.dirs.find_among.Goals as goal

pub returns-clause-value : goal.returns-clause-value
returns-clause-value c = λ n.
    let a = c.args in
    found-row a.dirs.now a.text.now a.dir.now n _ _ _ (λ x b q k. search rules) (c.iter.ensures.rest ∙ c.as_chunks.ensures.front) c.rposition.ensures.ran
