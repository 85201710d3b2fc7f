-- The definitions that the contracts of `listing` cite.
pub mod Run
pub mod private
