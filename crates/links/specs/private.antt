-- Definitions that only private functions cite.
pub mod Verdicts
pub mod Walking
