-- Laws of the search, of decisions about pieces, and of slices, their sums and the plan of a block.
pub mod Deciding
pub mod Sizes
pub mod Halving
pub mod Levels
pub mod Near
pub mod Starting
pub mod Front
pub mod Walk
pub mod Starts
pub mod Sums
pub mod Alike
