-- Definitions that only private functions cite.
pub mod Importing
pub mod Merging
pub mod Listed
