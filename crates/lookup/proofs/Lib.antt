-- The laws of `lookup`.
pub mod Paths
pub mod Rows
pub mod Spaces
pub mod Last
