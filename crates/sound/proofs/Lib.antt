-- Theorems on tables in order.
pub mod Common
pub mod Files
pub mod Texts
pub mod Opened
pub mod Added
pub mod Trimmed
pub mod Untouched
