-- `names::file::hash_led` meets its contract: no bytes change no hash.
use Rattle.std.proofs.Common.{◌≡◌, refl, sym, List, [], ◌∷◌, length, ℕ, arith, rules}
use Rattle.crc32c.proofs.Parts.{crc-none}
use Rattle.names.specs.Paths.{led}
use Rattle.names.proofs.file.hash_led.Goals as goal

led-none : (p : List ℕ) → length p ≡ 0 → led p ≡ []
led-none [] e = refl
led-none (x ∷ p) e = absurd (omega arith)

pub returns-then-is_empty : goal.returns-then-is_empty
returns-then-is_empty c = rw (led-none c.args.part.now (search rules)) (sym (crc-none c.args.crc))
