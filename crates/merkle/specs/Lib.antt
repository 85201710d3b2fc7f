-- The definitions that the contracts of `merkle` cite.
pub mod Width
