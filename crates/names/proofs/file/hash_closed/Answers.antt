-- `names::file::hash_closed` meets its contract.
use mathlib.Core.Path.{◌∙◌}
use mathlib.Core.List.{[], ◌∷◌}
use Rattle.crc32c.proofs.Parts.{crc-lower}
use Rattle.names.proofs.file.hash_closed.Goals as goal

pub returns : goal.returns
returns c =
    let a = c.args in
    c.crc32c_append_lowercase.ensures ∙ rw c.crc32c_append_lowercase-whole.ensures (crc-lower a.crc a.part.now (47 ∷ []))
