-- Definitions that only private functions cite.
pub mod Rows
pub mod Sets
