-- Tables in order.
pub mod Sound
pub mod Documents
pub mod Held
