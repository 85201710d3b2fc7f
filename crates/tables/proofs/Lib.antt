-- The laws of spans, rows and tables, for the proofs of this crate and of the crates above it.
pub mod Agree
pub mod Spans
pub mod Words
pub mod Entries
pub mod Filled
pub mod Tabled
pub mod Chunks
pub mod Moves
pub mod Paths
