-- The definitions that the contracts of `lists` cite.
pub mod Lists
pub mod Decimal
