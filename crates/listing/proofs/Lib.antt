-- The laws of the listing, and document 01's example.
pub mod Lines
pub mod Steps
pub mod Short
pub mod Vectors
