-- Laws of tree widths.
pub mod Widths
