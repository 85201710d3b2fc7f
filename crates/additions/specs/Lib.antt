-- The definitions that the contracts of `additions` cite: what an addition means, and the parts of its path.
pub mod Addition
pub mod Parts
pub mod private
