-- Laws of the table that a block's slices fill, and the outcome for two tables that are alike from a window on.
pub mod Alike
pub mod Filling
pub mod Outcomes
