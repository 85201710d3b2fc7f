-- The laws of lists and numbers, by subject, for every crate.
pub mod Orders
pub mod Parts
pub mod Powers
pub mod Runs
pub mod Equality
pub mod Tests
pub mod Searches
pub mod Sums
pub mod Spelt
pub mod Takings
pub mod Quotients
pub mod Decimals
