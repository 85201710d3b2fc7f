-- The path is all that stands from position 19 on.
use Rattle.std.proofs.Common.{rules}
use Rattle.std.proofs.lemmas.List.{take_rest}
use Rattle.listing_input.proofs.Reading.{line_read}
use Rattle.listing_input.proofs.form.file_in.Goals as goal

pub returns : goal.returns
returns c =
    let line = c.args.line.now in
    rw (take_rest line 19) (line_read line _ _ (search rules) (search rules) (search rules) (search rules) (search rules))
