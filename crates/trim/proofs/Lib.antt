-- Laws of a trim.
pub mod Trims
