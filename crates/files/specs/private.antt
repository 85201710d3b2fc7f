-- Definitions that only private functions cite.
pub mod Deciding
