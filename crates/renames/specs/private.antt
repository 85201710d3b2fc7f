-- Definitions that only private functions cite.
pub mod Slots
pub mod Changing
