-- The definitions that the contracts of `types` cite.
pub mod Refusals
pub mod Signed
