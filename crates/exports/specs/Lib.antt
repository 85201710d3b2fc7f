-- The definitions that the contracts of `exports` cite.
pub mod State
pub mod Layout
pub mod Cleanings
pub mod Paths
