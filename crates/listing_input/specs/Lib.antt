-- The definitions that the contracts of `listing_input` cite.
pub mod Answers
pub mod Form
