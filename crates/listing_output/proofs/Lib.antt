-- The laws of `listing_output`.
pub mod Printed
