-- Where the change that a call made is known, so is what the interface returns and leaves of it.
use Rattle.std.proofs.Common.{ℕ, List, ◌≡◌}
use Rattle.change.specs.Changes.{Changed}
use Rattle.cleaning.specs.Cleaning.{Cleaned}
use Rattle.exports.specs.State.{Exported, exported, number_returned, state_after}
use Rattle.exports.specs.Cleanings.{CleaningReturned, cleaning_returned}

pub answered : (state : List ℕ) {words : List ℕ} {n : ℕ} {made known : Changed} → made ≡ known → n ≡ number_returned made.says → words ≡ state_after made.says state
    → ◌≡◌ {A = Exported} (record { number = n; state = words; rows = made.rows; roots = made.roots; firsts = made.firsts; dirs = made.dirs; text = made.text }) (exported state known)
answered state e p q = rw (p, q, e)

-- the same of a cleaning, with its work space
pub cleaned : (state : List ℕ) {words : List ℕ} {n : ℕ} {made known : Cleaned} → made ≡ known → n ≡ number_returned made.says → words ≡ state_after made.says state
    → ◌≡◌ {A = CleaningReturned} (record { number = n; state = words; rows = made.rows; dirs = made.dirs; text = made.text; marks = made.marks; scratch = made.scratch; walk_path = made.walk_path }) (cleaning_returned state known)
cleaned state e p q = rw (p, q, e)
