-- Definitions that only private functions cite.
pub mod Parts
pub mod Sets
