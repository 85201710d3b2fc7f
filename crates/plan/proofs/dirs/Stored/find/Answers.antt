-- `plan::dirs::Stored::find` meets its contract: there is no row, the last one has the text, or those before it are searched.
use Rattle.std.proofs.Common.{sym, ◌∙◌, arith}
use Rattle.plan.proofs.Directories.{none-stored, last-found, last-missed}
use Rattle.plan.proofs.dirs.Stored.find.Goals as goal

pub returns-in_err-last-clause-value : goal.returns-in_err-last-clause-value
returns-in_err-last-clause-value c =
    rw c.from_residual.ensures (none-stored c.args.self.now.dirs.now c.args.self.now.text.now c.args.dir.now c.args.self.now.count (omega (arith, c.in_err-last.ensures)))

pub returns-then-same-clause-value : goal.returns-then-same-clause-value
returns-then-same-clause-value c =
    let last = c.in_ok-last.ensures in
    last.1 ∙ last-found c.args.self.now.dirs.now c.args.self.now.text.now c.args.dir.now c.args.self.now.count (omega (arith, last.0))
    (sym c.if-same.true ∙ c.same.ensures ∙ rw (c.text_at-text.ensures, c.dir_at.ensures, last.1))

pub returns-clause-value : goal.returns-clause-value
returns-clause-value c =
    let last = c.in_ok-last.ensures in
    c.find_among.ensures.value c.args.self.now.count
    ∙ last-missed c.args.self.now.dirs.now c.args.self.now.text.now c.args.dir.now c.args.self.now.count (omega (arith, last.0)) c.min-n.result
    (c.min-n.ensures ∙ rw last.1)
    (sym (sym c.if-same.false ∙ c.same.ensures ∙ rw (c.text_at-text.ensures, c.dir_at.ensures, last.1)))
