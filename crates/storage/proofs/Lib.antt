-- Laws of what a plan writes, and worked examples.
pub mod Vectors
pub mod Written
pub mod Added
pub mod OneValue
