-- The definitions that the contracts of `trim` cite: what a trim means and what it writes.
pub mod Trim
pub mod Removal
pub mod private
