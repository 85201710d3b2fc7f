-- Laws of low bits, of words by zigzag, and of the numbers of refusals.
pub mod Boundary
pub mod Refusals
pub mod Zigzag
