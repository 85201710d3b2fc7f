-- The laws of `listing_input`.
pub mod Reading
