-- Definitions that only private functions cite.
pub mod Lines
pub mod Lent
