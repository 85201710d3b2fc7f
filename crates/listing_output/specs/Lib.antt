-- The definitions that the contracts of `listing_output` cite.
pub mod Output
pub mod Printing
pub mod private
