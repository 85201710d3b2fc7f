-- The laws of `texts`.
pub mod NewTexts
pub mod OneLink
pub mod Placed
