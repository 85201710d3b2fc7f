-- The definitions that the contracts of `plan` cite: what an addition writes, its outcome, and its plan.
use Rattle.types.specs.Refusals.{outcome}
pub mod Write
pub mod Outcomes
pub mod Plan
pub mod private
