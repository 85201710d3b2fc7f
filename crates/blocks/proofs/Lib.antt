-- Laws of the columns of slices, and of the outcome for two tables that are alike from a window on.
use Rattle.types.specs.Refusals.{outcome}
pub mod Columns
pub mod Alike
