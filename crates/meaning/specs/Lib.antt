-- What the layout answers mean.
pub mod Layout
