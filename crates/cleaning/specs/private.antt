-- Definitions that only private functions cite.
pub mod Judged
pub mod Writing
