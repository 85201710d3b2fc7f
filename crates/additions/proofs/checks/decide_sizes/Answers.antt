-- `additions::checks::decide_sizes` meets its contract: each group of rules stops, or the next one decides.
use Rattle.std.specs.Prelude.{option_copied}
use Rattle.std.proofs.Common.{arith, rules}
use Rattle.additions.proofs.Rules.{stop-size, stop-name, stop-kind, stop-pad}
use Rattle.additions.proofs.checks.decide_sizes.Goals as goal

pub returns-in_err-size : goal.returns-in_err-size
returns-in_err-size c =
    stop-size c.args.fs (option_copied c.args.given.name) c.args.given.parts c.args.size c.args.given.link.now c.args.rooted
    _ (search rules) _ c.from_residual.ensures.1

pub returns-in_err-check_names : goal.returns-in_err-check_names
returns-in_err-check_names c =
    stop-name c.args.fs (option_copied c.args.given.name) c.args.given.parts c.args.size c.args.given.link.now c.args.rooted
    (search rules) _ c.in_err-check_names.ensures _ c.from_residual-in_err-check_names.ensures.1

pub returns-in_err-check : goal.returns-in_err-check
returns-in_err-check c =
    stop-kind c.args.fs (option_copied c.args.given.name) c.args.given.parts c.args.size c.args.given.link.now c.args.rooted
    (search rules) c.in_ok-check_names.ensures c.in_ok-size.size c.is_plain.result c.is_open.result (search rules) c.is_plain.ensures c.is_open.ensures
    _ c.in_err-check.ensures _ c.from_residual-in_err-check.ensures.1

pub returns-then-total_size-gt-MAX_FILE_OFFSET : goal.returns-then-total_size-gt-MAX_FILE_OFFSET
returns-then-total_size-gt-MAX_FILE_OFFSET c =
    stop-pad c.args.fs (option_copied c.args.given.name) c.args.given.parts c.args.size c.args.given.link.now c.args.rooted
    (search rules) c.in_ok-check_names.ensures c.in_ok-size.size c.is_plain.result c.is_open.result (search rules) c.is_plain.ensures c.is_open.ensures
    c.in_ok-check.ensures c.pad_after-pad.result (search rules) (omega (arith, c.unwrap_or.ensures))
