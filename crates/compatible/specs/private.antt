-- Definitions that only private functions cite.
pub mod Sets
pub mod Walk
