-- `plan::counts::lacks_places` meets its contract: more pieces than places, by a product; a total has 64 bits, so that
-- a product past them is no less.
use Rattle.std.proofs.Common.{◌≡◌, ℕ, ◌-◌, ◌*◌, ◌^◌, ◌<◌, min, Bool, true, false, ltb, ltb-true, ltb-false, lt-ltb, le-ltb, ◌∙◌, refl, arith, rules}
use Rattle.rules.proofs.Deciding.{over_good}
use Rattle.plan.proofs.counts.lacks_places.Goals as goal

capped : (p t : ℕ) → t < 2 ^ 64 → ltb (min p (2 ^ 64 - 1)) t ≡ ltb p t
capped p t h = at (ltb p t) refl
  where
    at : (b : Bool) → ltb p t ≡ b → ltb (min p (2 ^ 64 - 1)) t ≡ b
    at true e = lt-ltb (min p (2 ^ 64 - 1)) t (omega (arith, ltb-true p t e))
    at false e = le-ltb (min p (2 ^ 64 - 1)) t (omega (arith, ltb-false p t e))

pub returns-then-fs : goal.returns-then-fs
returns-then-fs c =
    let a = c.args in
    let indexed : a.fs.indexed ≡ true = search rules in
    rw (indexed, c.saturating_mul.ensures) (capped (a.places * a.fs.piece_length) a.total c.ranges.total.fits
    ∙ over_good a.total a.fs.piece_length a.places c.requires)
