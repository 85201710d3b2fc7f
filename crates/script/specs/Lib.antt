-- The definitions that the contracts of `script` cite.
pub mod Words
pub mod Forms
pub mod Numbers
pub mod Strings
pub mod Roots
