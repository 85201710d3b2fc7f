-- Definitions that only private functions cite.
pub mod Due
pub mod Gathering
