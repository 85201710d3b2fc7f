-- `names::file::hash_set` meets its contract: no bytes change no hash.
use Rattle.std.proofs.Common.{◌≡◌, sym, ◌∙◌, false}
use Rattle.crc32c.proofs.Parts.{crc-none}
use Rattle.names.specs.Paths.{set_leads}
use Rattle.names.proofs.file.hash_set.Goals as goal

pub returns-else-is_led : goal.returns-else-is_led
returns-else-is_led c =
    let e : set_leads c.args.row ≡ false = sym c.is_led.ensures ∙ c.if-is_led.false in
    rw e (sym (crc-none c.args.crc))
